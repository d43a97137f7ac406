-- The DC numbers that a DC part gives, and of which planes a bit of each is given. (docs/formats.md, "DC part and block depths" and "Stops,
-- cut and fill"; this project's own.)
use Rattle.std.specs.Prelude.{ℕ, suc, ◌-◌, ◌^◌, ◌==◌, if◌then◌else◌, nat_lt, List, length, Option, Some, None, ℤ, pos, ◌+ℤ◌, ◌*ℤ◌, neg_ℤ}
use Rattle.number_defs.specs.DcPart.{dc_q, dc_bits, dc_kind, dc_planes}
use Rattle.item_defs.specs.Scripts.{Script, ask, done, then_ask, in_turn, around, bit_form}
use Rattle.number_defs.specs.NumberScript.{numbers_script}
use Rattle.number_defs.specs.DcScript.{with_dc, dcs_of_heights}

-- the DC numbers; for each the least plane of which a bit is given: q once the number over 2 ^ q is, and then the plane of each further bit
pub record DcGiven : Type 0 where
  pub dcs : ℕ → ℤ
  pub lows : ℕ → Option ℕ

abbrev pub no_dcs : DcGiven
no_dcs = record { dcs = λ r. pos 0; lows = λ r. None }

-- the DC of block r is this one, given down to this plane
abbrev pub with_dc_given : DcGiven → (r : ℕ) → ℤ → (plane : ℕ) → DcGiven
with_dc_given g r dc plane = record { dcs = with_dc g.dcs r dc; lows = λ i. if i == r then Some plane else g.lows i }

-- one bit of each DC, of this plane and weight
abbrev pub dc_bits_given : (weight : ℤ) → (plane count : ℕ) → DcGiven → Script DcGiven DcGiven
dc_bits_given weight plane count =
    in_turn (λ r g. ask g bit_form (λ b. done (with_dc_given g r (g.dcs r +ℤ (pos b *ℤ weight)) plane))) 0 count

-- the numbers with these heights, times 2 ^ q
abbrev pub dcs_given : (N q : ℕ) → List ℕ → DcGiven
dcs_given N q heights = record { dcs = dcs_of_heights N q heights; lows = λ r. if nat_lt r (length heights) then Some q else None }

-- `high_script`, `dc_planes_script` and `dc_script`, with what is given of each number
abbrev pub high_given : (N q count : ℕ) → Script DcGiven DcGiven
high_given N q count =
    if N == 1
    then dc_bits_given (neg_ℤ (pos (2 ^ q))) q count no_dcs
    else around (dcs_given N q) (numbers_script (dc_kind N) count)

abbrev pub dc_planes_given : (q count n : ℕ) → DcGiven → Script DcGiven DcGiven
dc_planes_given q count n = in_turn (λ i. dc_bits_given (pos (2 ^ (q - suc i))) (q - suc i) count) 0 n

abbrev pub dc_given : (depth_dc depth_ac shift count : ℕ) → Script DcGiven DcGiven
dc_given depth_dc depth_ac shift count =
    let q = dc_q depth_dc depth_ac shift in
    then_ask (high_given (dc_bits depth_dc depth_ac shift) q count) (dc_planes_given q count (dc_planes depth_dc depth_ac shift))
