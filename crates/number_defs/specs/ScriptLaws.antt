-- The laws of numbers by differences, of the DC part and of block depths, as they are read: `goes`, each question is sound and has a
-- possible answer; `written`, what is written follows; `back`, what is read whole is what its values write; `ends`, what is read whole
-- without a refusal.
use Rattle.std.specs.Prelude.{◌≡◌, ◌≤◌, ◌<◌, ℕ, ◌+◌, ◌-◌, ◌^◌, ℤ, pos, ◌*ℤ◌, List, length, slice_index, slice_index_or, true, false}
use Rattle.std.specs.Int.{int_shr}
use Rattle.item_defs.specs.Items.{Item}
use Rattle.number_defs.specs.Gaggles.{Kind, is_option, gaggle_count, number_items}
use Rattle.number_defs.specs.Depths.{depth_bits, depth_items}
use Rattle.number_defs.specs.Ranges.{IsInRange}
use Rattle.number_defs.specs.DcPart.{dc_q, dc_bits, dc_planes, dc_items}
use Rattle.number_defs.specs.Laws.{DcsFit}
use Rattle.item_defs.specs.Following.{Follows}
use Rattle.item_defs.specs.Completing.{ArePossible, Goes, Ends}
use Rattle.number_defs.specs.NumberScript.{numbers_script}
use Rattle.number_defs.specs.DepthScript.{depths_script}
use Rattle.number_defs.specs.DcScript.{dc_script}

-- this number of numbers, each below the bound
pub record AreCounted (bound count : ℕ) (xs : List ℕ) : Type 0 where
  pub long : length xs ≡ count
  pub few : (i : ℕ) → slice_index xs i < bound

-- none of them is refused as too great
abbrev pub AreLow : Kind → List ℕ → Type 0
AreLow kind xs = (i : ℕ) → i < length xs → kind.too_great (slice_index xs i) ≡ false

pub record NumberLaws : Type 0 where
  pub goes : (kind : Kind) (count : ℕ) → Goes (numbers_script kind count) (AreCounted (2 ^ kind.bits) count)
  pub written : (kind : Kind) (count : ℕ) (hs : List ℕ) (o : ℕ → ℕ) → AreCounted (2 ^ kind.bits) count hs →
      Follows (numbers_script kind count) (number_items kind hs o) hs
  pub back : (kind : Kind) (count : ℕ) (items : List Item) (hs : List ℕ) → 1 ≤ kind.bits → kind.bits ≤ 10 → ArePossible items →
      Follows (numbers_script kind count) items hs →
      (o : ℕ → ℕ) × ((g : ℕ) → g < gaggle_count count → is_option kind.bits (o g) ≡ true) × (items ≡ number_items kind hs o)
  pub ends : (kind : Kind) (count : ℕ) → Ends (numbers_script kind count) (λ hs. AreCounted (2 ^ kind.bits) count hs × AreLow kind hs)

pub record DepthLaws : Type 0 where
  pub goes : (depth_ac count : ℕ) → Goes (depths_script depth_ac count) (AreCounted (2 ^ depth_bits depth_ac) count)
  pub written : (depth_ac count : ℕ) (depths : List ℕ) (o : ℕ → ℕ) → AreCounted (2 ^ depth_bits depth_ac) count depths →
      Follows (depths_script depth_ac count) (depth_items depth_ac depths o) depths
  pub back : (depth_ac count : ℕ) (items : List Item) (depths : List ℕ) → depth_ac ≤ 27 → ArePossible items →
      Follows (depths_script depth_ac count) items depths →
      (o : ℕ → ℕ) × (2 ≤ depth_ac → (g : ℕ) → g < gaggle_count count → is_option (depth_bits depth_ac) (o g) ≡ true) × (items ≡ depth_items depth_ac depths o)
  pub ends : (depth_ac count : ℕ) →
      Ends (depths_script depth_ac count) (λ depths. (length depths ≡ count) × ((i : ℕ) → i < count → slice_index depths i ≤ depth_ac))

-- DC numbers of which the n highest bits below q are given: each a multiple of 2 ^ (q - n), with N + n bits above
abbrev pub AreGiven : (N q n count : ℕ) → (ℕ → ℤ) → Type 0
AreGiven N q n count dcs = (r : ℕ) → r < count → (z : ℤ) × IsInRange true (N + n) z × (dcs r ≡ z *ℤ pos (2 ^ (q - n)))

-- the part of a number that is given then
abbrev pub given_part : (q n : ℕ) → ℤ → ℤ
given_part q n dc = int_shr dc (q - n) *ℤ pos (2 ^ (q - n))

pub record DcLaws (depth_dc depth_ac shift count : ℕ) : Type 0 where
  pub goes : let q = dc_q depth_dc depth_ac shift in
      Goes (dc_script depth_dc depth_ac shift count) (AreGiven (dc_bits depth_dc depth_ac shift) q (dc_planes depth_dc depth_ac shift) count)
  pub written : (dcs : List ℤ) (o : ℕ → ℕ) → length dcs ≡ count → DcsFit depth_dc depth_ac shift dcs →
      let q = dc_q depth_dc depth_ac shift in
      (end : ℕ → ℤ) × Follows (dc_script depth_dc depth_ac shift count) (dc_items depth_dc depth_ac shift dcs o) end ×
      ((r : ℕ) → r < count → end r ≡ given_part q (dc_planes depth_dc depth_ac shift) (slice_index_or dcs r (pos 0)))
  -- of any numbers of which this much was read
  pub back : (items : List Item) (end : ℕ → ℤ) → ArePossible items → Follows (dc_script depth_dc depth_ac shift count) items end → (dcs : List ℤ) →
      length dcs ≡ count →
      ((r : ℕ) → r < count → end r ≡ given_part (dc_q depth_dc depth_ac shift) (dc_planes depth_dc depth_ac shift) (slice_index_or dcs r (pos 0))) →
      let N = dc_bits depth_dc depth_ac shift in
      (o : ℕ → ℕ) × (2 ≤ N → (g : ℕ) → g < gaggle_count count → is_option N (o g) ≡ true) × (items ≡ dc_items depth_dc depth_ac shift dcs o)
