-- What is significant above a plane, from plane to plane, in the words of a segment.
use Rattle.std.proofs.Common.{◌≡◌, ◌<◌, ◌≤◌, ℕ, zero, suc, ◌+◌, ◌*◌, ◌/◌, ◌%◌, ◌^◌, ◌==◌, ◌⊎◌, inl, inr, refl, ap, sym, ◌∙◌, subst, arith, ℤ, Bool, true}
use Rattle.std.proofs.Common.{false, ◌||◌, List, length}
use native.Mathlib.Nat.{zero-div}
use Rattle.item_defs.specs.Bits.{bit}
use Rattle.wave_defs.specs.Held.{block_at}
use Rattle.plane_defs.specs.Sets.{magnitude, significant}
use Rattle.block_masks.specs.Masks.{Shows}
use Rattle.block_masks.specs.SegmentNumbers.{word_at, numbers_at, above_at, AreMasks, JoinsWords, AreAbove}
use Rattle.block_masks.proofs.LaneMasks.{shows_same}
use Rattle.block_masks.proofs.Viewing.{reached_is}
use Rattle.block_masks.proofs.SegmentWords.{word_at-is, word_past}
use Rattle.block_masks.proofs.SegmentLists.{above_get, length-numbers_at, bits_shown}
use Rattle.block_masks.proofs.SegmentKeeping.{KeepsNumbers, numbers_kept}
use Rattle.block_masks.proofs.SegmentRoom.{has_block}
use Rattle.block_masks.proofs.SlicePlaces.{next_slot}

-- the same words, under other names
pub joins_all : {to from count len : ℕ} {was old new : List ℕ} → JoinsWords to from count was new → was ≡ old → count ≡ len → JoinsWords to from len old new
joins_all joins same long = rw (← same, ← long) joins

-- the words of the slots that did not get bits stay
pub keeps_joined : (step slot : ℕ) {count : ℕ} {old new : List ℕ} → count ≤ step → JoinsWords (step * 1) (step * slot) count old new →
    KeepsNumbers step count old new
keeps_joined step slot {count} {old} {new} fit joins = record {
  others = λ s r known other.
      let far : (step * s + r < step * 1) ⊎ (step * 1 + count ≤ step * s + r) = apart s r known other in
      word_at-is new step s r ∙ joins.others (step * s + r) far ∙ sym (word_at-is old step s r);
}
  where
    apart : (s r : ℕ) → r < count → (s ≡ 1 → ⊥) → (step * s + r < step * 1) ⊎ (step * 1 + count ≤ step * s + r)
    apart zero r known other = inl (omega (arith, known, fit))
    apart (suc zero) r known other = absurd (other refl)
    apart (suc (suc s)) r known other = inr (let next = next_slot step 1 (suc (suc s)) (omega arith) in omega (arith, next, fit))

-- what is above a plane, by the words
above_shown : {plane most : ℕ} (words : List ℕ) (step : ℕ) (dcs : List ℤ) →
    AreAbove plane (record { most = most; numbers = numbers_at words step dcs; above = above_at words step (length dcs) }) →
    (r : ℕ) → r < length dcs → Shows (word_at words step 1 r) (significant (block_at (numbers_at words step dcs) r) plane) 0 64
above_shown {plane} words step dcs are r known =
    subst (λ m. Shows m (significant (block_at (numbers_at words step dcs) r) plane) 0 64) (above_get words step (length dcs) r known)
    (are.at r (omega (arith, known, length-numbers_at words step dcs)))

pub shown_above : {plane most : ℕ} (words : List ℕ) (step : ℕ) (dcs : List ℤ) →
    ((r : ℕ) → r < length dcs → Shows (word_at words step 1 r) (significant (block_at (numbers_at words step dcs) r) plane) 0 64) →
    AreAbove plane (record { most = most; numbers = numbers_at words step dcs; above = above_at words step (length dcs) })
shown_above {plane} words step dcs shown = record {
  at = λ r there.
      let known = has_block words step dcs r there in
      subst (λ m. Shows m (significant (block_at (numbers_at words step dcs) r) plane) 0 64) (sym (above_get words step (length dcs) r known)) (shown r known);
}

module _ (plane most : ℕ) (old : List ℕ) (step : ℕ) (dcs : List ℤ) (low : plane < 27) (masks : AreMasks old step dcs)
    (above : AreAbove (plane + 1) (record { most = most; numbers = numbers_at old step dcs; above = above_at old step (length dcs) })) where
  -- the masks got the bits of the plane
  pub above_joined : {new : List ℕ} → length dcs ≤ step → JoinsWords (step * 1) (step * (2 + plane)) (length dcs) old new →
      AreAbove plane (record { most = most; numbers = numbers_at new step dcs; above = above_at new step (length dcs) })
  above_joined {new} fit joins = shown_above new step dcs (λ r known.
      let block = block_at (numbers_at old step dcs) r in
      let joined = joins.here r (significant block (plane + 1)) (λ k. bit (magnitude block k) plane) known
      (subst (λ m. Shows m (significant block (plane + 1)) 0 64) (word_at-is old step 1 r) (above_shown old step dcs above r known))
      (subst (λ m. Shows m (λ k. bit (magnitude block k) plane) 0 64) (word_at-is old step (2 + plane) r) (bits_shown masks r plane known low)) in
      subst (λ n. Shows (word_at new step 1 r) (significant (block_at n r) plane) 0 64) (sym (numbers_kept dcs (keeps_joined step (2 + plane) fit joins)))
      (shows_same (reached_is block plane) (subst (λ m. Shows m (λ k. significant block (plane + 1) k || bit (magnitude block k) plane) 0 64)
      (sym (word_at-is new step 1 r)) joined)))

  -- no number has the plane's bit
  pub above_same : (slots : ℕ) → length old ≡ step * slots → slots ≤ 2 + plane →
      AreAbove plane (record { most = most; numbers = numbers_at old step dcs; above = above_at old step (length dcs) })
  above_same slots long past = shown_above old step dcs (λ r known.
      let block = block_at (numbers_at old step dcs) r in
      let none = subst (λ m. Shows m (λ k. bit (magnitude block k) plane) 0 64) (word_past old step slots (2 + plane) r long past)
      (bits_shown masks r plane known low) in
      shows_same (reached_is block plane) (with_none (above_shown old step dcs above r known) none))
    where
      with_none : {mask : ℕ} {f g : ℕ → Bool} → Shows mask f 0 64 → Shows 0 g 0 64 → Shows mask (λ k. f k || g k) 0 64
      with_none {mask} {f} {g} shows none = record {
        at = λ k lt.
            let bare : bit 0 k ≡ false = (let zero : 0 / 2 ^ k ≡ 0 = zero-div (2 ^ k) in ap (λ q. q % 2 == 1) zero) in
            shows.at k lt ∙ or_false (f (0 + k)) (g (0 + k)) (sym (none.at k lt) ∙ bare);
        small = shows.small;
      }
        where
          or_false : (a b : Bool) → b ≡ false → a ≡ (a || b)
          or_false true b e = refl
          or_false false b e = sym e
