-- What is significant above plane 27 in the words of a segment: only DCs can be.
use Rattle.std.proofs.Common.{◌≡◌, ◌<◌, ◌≤◌, ℕ, zero, suc, ◌+◌, ◌*◌, ◌^◌, inl, inr, refl, ap, sym, ◌∙◌, subst, arith, zero-add, ℤ, pos, Bool, false, List}
use Rattle.std.proofs.Common.{length, get_or, set, unsigned_abs, nat_le, length-set, to_z, of_z, w32}
use Rattle.std.proofs.lemmas.Bool.{cases_eq}
use Rattle.std.proofs.lemmas.Int.{to_z-of_z, fits_signed_from_abs}
use Rattle.std.proofs.lemmas.Bool.Decides.{nat_tests}
use Rattle.item_defs.specs.Bits.{bit}
use Rattle.wave_defs.specs.Held.{block_at}
use Rattle.plane_defs.specs.Sets.{magnitude, significant}
use Rattle.block_masks.specs.Masks.{Shows}
use Rattle.block_masks.specs.SegmentNumbers.{AreWords, word_at, planes_at, numbers_at, above_at, AreAbove}
use Rattle.block_masks.proofs.MaskedNumbers.{size_small}
use Rattle.block_masks.proofs.PuttingPlanes.{no_bit}
use Rattle.block_masks.proofs.SegmentWords.{word_put_here, word_put_other, put_fits}
use Rattle.block_masks.proofs.SegmentLists.{block_number, dc_number, size_is}
use Rattle.block_masks.proofs.SegmentKeeping.{KeepsNumbers, numbers_kept}
use Rattle.block_masks.proofs.SegmentSettling.{shown_above}

-- the first blocks have their masks of what is above plane 27
pub record BeginsAbove (step blocks : ℕ) (dcs : List ℤ) (old new : List ℕ) : Type 0 where
  pub long : length new ≡ length old
  pub keeps : KeepsNumbers step step old new
  pub fit : AreWords old → AreWords new
  pub shown : (r : ℕ) → r < blocks → Shows (word_at new step 1 r) (significant (block_at (numbers_at old step dcs) r) 27) 0 64

pub none_begun : (step : ℕ) (dcs : List ℤ) (words : List ℕ) → BeginsAbove step 0 dcs words words
none_begun step dcs words = record {
  long = refl;
  keeps = record { others = λ slot r known other. refl };
  fit = λ fit. fit;
  shown = λ r lt. absurd (omega (arith, lt));
}

-- the mask of a block: whether its DC reaches plane 27
pub top_shown : {mask : ℕ} {reaches : Bool} (words : List ℕ) (step : ℕ) (dcs : List ℤ) (r : ℕ) → r < length dcs →
    reaches ≡ nat_le (2 ^ 27) (unsigned_abs (get_or dcs r (pos 0))) →
    Shows mask (λ p. reaches) 0 1 → mask < 2 → Shows mask (significant (block_at (numbers_at words step dcs) r) 27) 0 64
unfolding significant
top_shown {mask} {reaches} words step dcs r known if_known shows few = record { at = bit_is; small = omega (arith, few) }
  where
    bit_is : (k : ℕ) → k < 64 → bit mask k ≡ nat_le (2 ^ 27) (magnitude (block_at (numbers_at words step dcs) r) (0 + k))
    bit_is zero lt = shows.at 0 (omega arith) ∙ if_known ∙ ap (λ n. nat_le (2 ^ 27) (unsigned_abs n))
        (sym (block_number words step dcs r 0 known lt ∙ dc_number words step dcs r))
    bit_is (suc k) lt =
        let place : 0 + suc k ≡ suc k = zero-add (suc k) in
        let none : nat_le (2 ^ 27) (magnitude (block_at (numbers_at words step dcs) r) (suc k)) ≡ false =
        rw (size_is words step dcs r (suc k) known (omega arith) lt) (let low = size_small (planes_at words step r) (suc k) in grind (arith, nat_tests)) in
        no_bit mask 1 (suc k) (omega arith) few ∙ sym (ap (λ j. nat_le (2 ^ 27) (magnitude (block_at (numbers_at words step dcs) r) j)) place ∙ none)

-- one more block
pub more_begun : {step r mask : ℕ} {dcs : List ℤ} {old now : List ℕ} → r < step → step * 1 + r < length old → BeginsAbove step r dcs old now →
    Shows mask (significant (block_at (numbers_at old step dcs) r) 27) 0 64 → BeginsAbove step (r + 1) dcs old (set now (step * 1 + r) mask)
more_begun {step} {r} {mask} {dcs} {old} {now} low within so_far shows = record {
  long = length-set now (step * 1 + r) mask ∙ so_far.long;
  keeps = record { others = λ slot q there other. word_put_other now step 1 r mask slot q there low (λ e f. other e) ∙ so_far.keeps.others slot q there other };
  fit = λ fit. put_fits now (step * 1 + r) mask shows.small (so_far.fit fit);
  shown = λ q lt. elim (cases_eq q r) [
    | inl same ↦ rw same (subst (λ m. Shows m (significant (block_at (numbers_at old step dcs) r) 27) 0 64)
        (sym (word_put_here now step 1 r mask (omega (arith, within, so_far.long)))) shows)
    | inr other ↦ subst (λ m. Shows m (significant (block_at (numbers_at old step dcs) q) 27) 0 64)
        (sym (word_put_other now step 1 r mask 1 q (omega (arith, lt, low)) low (λ e f. other f)))
        (so_far.shown q (omega (arith, lt, other)))
  ];
}

-- whether the DC that was read reaches plane 27
pub reach_known : {n : ℕ} {x : ℤ} (dcs : List ℤ) (r : ℕ) → unsigned_abs (get_or dcs r (pos 0)) < 2 ^ 28 → n ≡ unsigned_abs (to_z w32 (of_z w32 x)) →
    x ≡ get_or dcs r (pos 0) →
    nat_le (2 ^ 27) n ≡ nat_le (2 ^ 27) (unsigned_abs (get_or dcs r (pos 0)))
reach_known dcs r small value read =
    let dc = get_or dcs r (pos 0) in
    ap (nat_le (2 ^ 27)) (value ∙ ap (λ y. unsigned_abs (to_z w32 (of_z w32 y))) read ∙ ap unsigned_abs
    (to_z-of_z w32 dc (fits_signed_from_abs w32 dc (omega (arith, small)))))

-- ---- all blocks

module _ {step blocks : ℕ} {dcs : List ℤ} {old new : List ℕ} (fit : length dcs ≤ step) where
  pub begun_keeps : BeginsAbove step blocks dcs old new → KeepsNumbers step (length dcs) old new
  begun_keeps begins = record { others = λ slot r known other. begins.keeps.others slot r (omega (arith, known, fit)) other }

  pub begun_numbers : BeginsAbove step blocks dcs old new → numbers_at new step dcs ≡ numbers_at old step dcs
  begun_numbers begins = numbers_kept dcs (begun_keeps begins)

  pub begun_above : (most : ℕ) → length dcs ≤ blocks → BeginsAbove step blocks dcs old new →
      AreAbove 27 (record { most = most; numbers = numbers_at new step dcs; above = above_at new step (length dcs) })
  begun_above most all begins = shown_above new step dcs (λ r known.
      subst (λ n. Shows (word_at new step 1 r) (significant (block_at n r) 27) 0 64) (sym (begun_numbers begins)) (begins.shown r (omega (arith, known, all))))
