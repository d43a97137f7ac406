-- The DC part as a script. (CCSDS 122.0-B-2, section 4.3.2; docs/formats.md, "DC part and block depths".)
use Rattle.std.specs.Prelude.{ℕ, suc, ◌-◌, ◌^◌, ◌==◌, if◌then◌else◌, nat_lt, List, length, slice_index, true, ℤ, pos, ◌+ℤ◌, ◌*ℤ◌, neg_ℤ}
use Rattle.number_defs.specs.Ranges.{number_at}
use Rattle.number_defs.specs.DcPart.{dc_q, dc_bits, dc_kind, dc_planes}
use Rattle.item_defs.specs.Scripts.{Script, ask, done, then_ask, in_turn, around, bit_form}
use Rattle.number_defs.specs.NumberScript.{numbers_script}

-- the DC of block r is this one
abbrev pub with_dc : (ℕ → ℤ) → (r : ℕ) → ℤ → ℕ → ℤ
with_dc dcs r dc i = if i == r then dc else dcs i

-- one bit of each DC, of this weight
abbrev pub dc_bits_script : (weight : ℤ) → (count : ℕ) → (ℕ → ℤ) → Script (ℕ → ℤ) (ℕ → ℤ)
dc_bits_script weight count = in_turn (λ r dcs. ask dcs bit_form (λ b. done (with_dc dcs r (dcs r +ℤ (pos b *ℤ weight))))) 0 count

-- the numbers with these heights, times 2 ^ q, and 0 for further ones
abbrev pub dcs_of_heights : (N q : ℕ) → List ℕ → ℕ → ℤ
dcs_of_heights N q heights r = if nat_lt r (length heights) then number_at true N (slice_index heights r) *ℤ pos (2 ^ q) else pos 0

-- each DC over 2 ^ q, rounded down
abbrev pub high_script : (N q count : ℕ) → Script (ℕ → ℤ) (ℕ → ℤ)
high_script N q count =
    if N == 1
    then dc_bits_script (neg_ℤ (pos (2 ^ q))) count (λ r. pos 0)
    else around (dcs_of_heights N q) (numbers_script (dc_kind N) count)

-- the n highest of the bit planes below q
abbrev pub dc_planes_script : (q count n : ℕ) → (ℕ → ℤ) → Script (ℕ → ℤ) (ℕ → ℤ)
dc_planes_script q count n = in_turn (λ i. dc_bits_script (pos (2 ^ (q - suc i))) count) 0 n

-- the DCs of `count` blocks: what was read of each, and 0 for further ones
abbrev pub dc_script : (depth_dc depth_ac shift count : ℕ) → Script (ℕ → ℤ) (ℕ → ℤ)
dc_script depth_dc depth_ac shift count =
    let q = dc_q depth_dc depth_ac shift in
    then_ask (high_script (dc_bits depth_dc depth_ac shift) q count) (dc_planes_script q count (dc_planes depth_dc depth_ac shift))
