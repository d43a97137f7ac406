-- The laws that the definitions keep.
use Rattle.std.specs.Prelude.{◌≡◌, ◌≤◌, ◌<◌, ℕ, ◌+◌, ◌%◌, ◌^◌, List, length, map, ℤ, pos, Bool, true, slice_index, slice_index_or, IsTrue}
use Rattle.std.specs.Int.{int_shr}
use Rattle.item_defs.specs.Items.{text}
use Rattle.number_defs.specs.Ranges.{IsInRange, negatives, number_at, height_of}
use Rattle.item_defs.specs.TwosComplement.{complement}
use Rattle.number_defs.specs.Mapping.{mapped, unmapped}
use Rattle.number_defs.specs.Gaggles.{Kind, value_items, value_at, is_option}
use Rattle.number_defs.specs.Choice.{coded_bits}
use Rattle.number_defs.specs.DcPart.{dc_q, dc_bits}

-- each number is below 2 ^ N
abbrev pub AreFew : ℕ → List ℕ → Type 0
AreFew N xs = (i : ℕ) → i < length xs → slice_index xs i < 2 ^ N

-- each DC over 2 ^ q, rounded down, has this number of bits
abbrev pub DcsFit : ℕ → ℕ → ℕ → List ℤ → Type 0
DcsFit depth_dc depth_ac shift dcs = (i : ℕ) → i < length dcs →
    IsInRange true (dc_bits depth_dc depth_ac shift) (int_shr (slice_index_or dcs i (pos 0)) (dc_q depth_dc depth_ac shift))

-- after each number p of N bits, mapped values are numbers of N bits, and each number has one
pub record MappingUndoes : Type 0 where
  pub back : (N p c : ℕ) → p < 2 ^ N → c < 2 ^ N → unmapped N p (mapped N p c) ≡ c
  pub again : (N p v : ℕ) → p < 2 ^ N → v < 2 ^ N → mapped N p (unmapped N p v) ≡ v
  pub value : (N p c : ℕ) → p < 2 ^ N → c < 2 ^ N → mapped N p c < 2 ^ N
  pub number : (N p v : ℕ) → p < 2 ^ N → v < 2 ^ N → unmapped N p v < 2 ^ N

-- numbers and heights represent each other, also by way of two's complement; the numbers of the range have the heights of N bits
pub record HeightsUndo : Type 0 where
  pub back : (signed : Bool) (N height : ℕ) → height_of signed N (number_at signed N height) ≡ height
  pub again : (signed : Bool) (N : ℕ) (z : ℤ) → IsInRange signed N z → number_at signed N (height_of signed N z) ≡ z
  pub below : (signed : Bool) (N : ℕ) (z : ℤ) → IsInRange signed N z → height_of signed N z < 2 ^ N
  pub complemented : (signed : Bool) (N height : ℕ) → height < 2 ^ N →
      (complement N (number_at signed N height) + negatives signed N) % 2 ^ N ≡ height

-- the bits that a choice counts are those of the items
pub record CountsBits : Type 0 where
  pub counts : (kind : Kind) (heights : List ℕ) (option : ℕ) (at : List ℕ) → IsTrue (is_option kind.bits option) →
      ((i : ℕ) → value_at kind.bits heights i < 2 ^ kind.bits) →
      length (text (value_items kind heights option at)) ≡ coded_bits kind.bits (map (value_at kind.bits heights) at) option

-- the numbers of a DC part have at most 10 bits, and hold each DC of `depth_dc` bits
pub record DcBitsAreFew : Type 0 where
  pub bits : (depth_dc depth_ac shift : ℕ) → dc_bits depth_dc depth_ac shift ≤ 10
  pub fit : (depth_dc depth_ac shift : ℕ) (dc : ℤ) → 1 ≤ depth_dc → IsInRange true depth_dc dc →
      IsInRange true (dc_bits depth_dc depth_ac shift) (int_shr dc (dc_q depth_dc depth_ac shift))
