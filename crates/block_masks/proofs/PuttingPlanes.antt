-- The masks of the planes of a block, put among the words of a segment.
use Rattle.std.proofs.Common.{◌≡◌, ◌<◌, ◌≤◌, ℕ, ◌+◌, ◌*◌, ◌/◌, ◌%◌, ◌^◌, ◌==◌, inl, inr, refl, ap, sym, ◌∙◌, subst, arith, ℤ, false, List, length, set}
use Rattle.std.proofs.Common.{length-set, pow_mono}
use native.Mathlib.Nat.{div-eq_of_lt, zero-div}
use Rattle.std.proofs.lemmas.Bool.{cases_eq, cases_lt}
use Rattle.item_defs.specs.Bits.{bit}
use Rattle.plane_defs.specs.Sets.{magnitude}
use Rattle.block_masks.specs.Masks.{Shows}
use Rattle.block_masks.specs.SegmentNumbers.{PutsPlanes}
use Rattle.block_masks.proofs.SegmentWords.{put_fits, word_put_here, word_put_other, word_past}

pub no_plane_put : (step r : ℕ) (block : List ℤ) (words : List ℕ) → PutsPlanes 0 step r block words words
no_plane_put step r block words = record { long = refl; here = λ p lt. absurd (omega (arith, lt)); others = λ slot q low other. refl; fit = λ fit. fit }

pub plane_put : {planes step r mask : ℕ} {block : List ℤ} {old now : List ℕ} → step * (2 + planes) + r < length old → r < step →
    PutsPlanes planes step r block old now → Shows mask (λ k. bit (magnitude block k) planes) 0 64 →
    PutsPlanes (planes + 1) step r block old (set now (step * (2 + planes) + r) mask)
plane_put {planes} {step} {r} {mask} {block} {old} {now} within low so_far shows = record {
  long = length-set now (step * (2 + planes) + r) mask ∙ so_far.long;
  here = λ p lt. elim (cases_eq p planes) [
    | inl same ↦ rw same (subst (λ m. Shows m (λ k. bit (magnitude block k) planes) 0 64)
        (sym (word_put_here now step (2 + planes) r mask (omega (arith, within, so_far.long)))) shows)
    | inr other ↦ subst (λ m. Shows m (λ k. bit (magnitude block k) p) 0 64)
        (sym (word_put_other now step (2 + planes) r mask (2 + p) r low low (λ e f. other (omega (arith, e)))))
        (so_far.here p (omega (arith, lt, other)))
  ];
  others = λ slot q there other. word_put_other now step (2 + planes) r mask slot q there low (λ e f. other f) ∙ so_far.others slot q there other;
  fit = λ fit. put_fits now (step * (2 + planes) + r) mask shows.small (so_far.fit fit);
}

-- numbers below a power of 2 have no bit of it or above
pub no_bit : (m depth plane : ℕ) → depth ≤ plane → m < 2 ^ depth → bit m plane ≡ false
no_bit m depth plane deep small =
    let most : 2 ^ depth ≤ 2 ^ plane = pow_mono deep in
    let none : m / 2 ^ plane ≡ 0 = div-eq_of_lt (omega (arith, small, most)) in
    ap (λ q. q % 2 == 1) none

-- no number has a bit of a plane
pub none_shown : (block : List ℤ) (plane : ℕ) → ((k : ℕ) → bit (magnitude block k) plane ≡ false) → Shows 0 (λ k. bit (magnitude block k) plane) 0 64
none_shown block plane none = record {
  at = λ k lt. (let zero : 0 / 2 ^ k ≡ 0 = zero-div (2 ^ k) in ap (λ q. q % 2 == 1) zero) ∙ sym (none (0 + k));
  small = omega arith;
}

-- the planes that have no slot
pub all_planes : {planes step slots r : ℕ} {block : List ℤ} {old new : List ℕ} → length old ≡ step * slots → slots ≤ 2 + planes →
    ((k p : ℕ) → planes ≤ p → p < 27 → bit (magnitude block k) p ≡ false) → PutsPlanes planes step r block old new → PutsPlanes 27 step r block old new
all_planes {planes} {step} {slots} {r} {block} {old} {new} long past none puts = record {
  long = puts.long;
  here = λ p lt. elim (cases_lt p planes) [
    | inl below ↦ puts.here p below
    | inr le ↦ subst (λ m. Shows m (λ k. bit (magnitude block k) p) 0 64)
        (sym (word_past new step slots (2 + p) r (puts.long ∙ long) (omega (arith, le, past)))) (none_shown block p (λ k. none k p le lt))
  ];
  others = puts.others;
  fit = puts.fit;
}
