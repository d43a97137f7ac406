-- The DC numbers of a DC part, with and without what is given of each.
use Rattle.std.proofs.Common.{◌≡◌, ℕ, suc, ◌-◌, ◌^◌, ◌==◌, Bool, true, false, if◌then◌else◌, refl, ap, ◌∙◌, ℤ, pos, ◌+ℤ◌, ◌*ℤ◌}
use Rattle.std.specs.Prelude.{neg_ℤ}
use Rattle.number_defs.specs.DcPart.{dc_q, dc_bits, dc_kind, dc_planes}
use Rattle.item_defs.specs.Scripts.{done, ask, then_ask, around, bit_form}
use Rattle.item_defs.proofs.ScriptAround.{around_then, around_turn, around_twice}
use Rattle.number_defs.specs.NumberScript.{numbers_script}
use Rattle.number_defs.specs.DcScript.{with_dc, dc_bits_script, dcs_of_heights, high_script, dc_planes_script}
use Rattle.number_defs.specs.DcLows.{DcGiven, no_dcs, with_dc_given, dc_bits_given, dcs_given, high_given, dc_planes_given}
use Rattle.number_defs.specs.LowLaws.{DcsAreGiven}

abbrev numbers : DcGiven → ℕ → ℤ
numbers g = g.dcs

bits_same : (weight : ℤ) (plane count : ℕ) (g : DcGiven) → around numbers (dc_bits_given weight plane count g) ≡ dc_bits_script weight count g.dcs
bits_same weight plane count g =
    around_turn numbers (λ r g. ask g bit_form (λ b. done (with_dc_given g r (g.dcs r +ℤ (pos b *ℤ weight)) plane)))
    (λ r dcs. ask dcs bit_form (λ b. done (with_dc dcs r (dcs r +ℤ (pos b *ℤ weight))))) (λ r g. refl) 0 count g

high_same : (N q count : ℕ) → around numbers (high_given N q count) ≡ high_script N q count
high_same N q count = by (N == 1)
  where
    by : (b : Bool) → around numbers
        (if b then dc_bits_given (neg_ℤ (pos (2 ^ q))) q count no_dcs else around (dcs_given N q) (numbers_script (dc_kind N) count)) ≡
        (if b then dc_bits_script (neg_ℤ (pos (2 ^ q))) count (λ r. pos 0) else around (dcs_of_heights N q) (numbers_script (dc_kind N) count))
    by true = bits_same (neg_ℤ (pos (2 ^ q))) q count no_dcs
    by false = around_twice numbers (dcs_given N q) (numbers_script (dc_kind N) count)

planes_same : (q count n : ℕ) (g : DcGiven) → around numbers (dc_planes_given q count n g) ≡ dc_planes_script q count n g.dcs
planes_same q count n g =
    around_turn numbers (λ i. dc_bits_given (pos (2 ^ (q - suc i))) (q - suc i) count) (λ i. dc_bits_script (pos (2 ^ (q - suc i))) count)
    (λ i g. bits_same (pos (2 ^ (q - suc i))) (q - suc i) count g) 0 n g

pub dcs_are_given : DcsAreGiven
dcs_are_given depth_dc depth_ac shift count =
    let q = dc_q depth_dc depth_ac shift in
    let n = dc_planes depth_dc depth_ac shift in
    let high = high_given (dc_bits depth_dc depth_ac shift) q count in
    around_then numbers (dc_planes_given q count n) (dc_planes_script q count n) (planes_same q count n) high ∙
    ap (λ s. then_ask s (dc_planes_script q count n)) (high_same (dc_bits depth_dc depth_ac shift) q count)
