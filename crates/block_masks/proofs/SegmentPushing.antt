-- One more block in the words of a segment.
use Rattle.std.proofs.Common.{◌≡◌, ◌<◌, ℕ, zero, suc, ◌+◌, ◌-◌, ◌*◌, ◌/◌, ◌%◌, ◌^◌, inl, inr, refl, ap, sym, ◌∙◌, subst, arith, zero-add, ℤ, pos, negsuc}
use Rattle.std.proofs.Common.{true, List, [], ◌∷◌, ◌++◌, length, get_or, set, replicate, length-append, unsigned_abs}
use Rattle.std.proofs.Math.Seq.{get_or-append_seam}
use Rattle.std.proofs.lemmas.Bool.{cases_lt, cases_eq}
use Rattle.std.proofs.lemmas.List.{ext_get_or, get_or_append_left, get_or-append_right, get_or_past}
use Rattle.item_defs.specs.Bits.{bit}
use Rattle.plane_defs.specs.Sets.{magnitude}
use Rattle.plane_defs.specs.Entries.{negative}
use Rattle.block_masks.specs.Masks.{Shows}
use Rattle.block_masks.specs.MaskedNumbers.{size_in, number_from}
use Rattle.block_masks.specs.SegmentNumbers.{AreWords, word_at, planes_at, number_at, numbers_at, IsMasked, AreMasks, PutsPlanes}
use Rattle.block_masks.proofs.MaskedNumbers.{number_from-is, ac_from, signed, size_in-is}
use Rattle.block_masks.proofs.SegmentWords.{word_put_here, word_put_other, word_filled, put_fits, filled_fit}
use Rattle.block_masks.proofs.SegmentLists.{length-numbers_at, number_get}
use Rattle.block_masks.proofs.SegmentKeeping.{number_kept, masked_kept}

-- the words of block r say which of the numbers are negative and have the bits of planes
pub record ShowsBlock (step r : ℕ) (block : List ℤ) (words : List ℕ) : Type 0 where
  pub planes : (p : ℕ) → p < 27 → Shows (word_at words step (2 + p) r) (λ k. bit (magnitude block k) p) 0 64
  pub minus : Shows (word_at words step 0 r) (λ k. negative (get_or block k (pos 0))) 0 64

-- block r got its words, and those of the blocks before it stay
pub record PutsBlock (step r : ℕ) (block : List ℤ) (old new : List ℕ) : Type 0 where
  pub keeps : (slot q : ℕ) → q < r → word_at new step slot q ≡ word_at old step slot q
  pub shows : ShowsBlock step r block new
  pub fit : AreWords old → AreWords new

signed_is : (n : ℤ) → signed (negative n) (unsigned_abs n) ≡ n
signed_is (pos n) = refl
signed_is (negsuc n) = refl

negative_some : (n : ℤ) → negative n ≡ true → 0 < unsigned_abs n
negative_some (pos n) e = cc
negative_some (negsuc n) e = omega arith

module _ (step r : ℕ) (block : List ℤ) (words : List ℕ) (shows : ShowsBlock step r block words) (small : (k : ℕ) → 0 < k → magnitude block k < 2 ^ 27) where
  size_shown : (k : ℕ) → 0 < k → k < 64 → size_in (planes_at words step r) k ≡ magnitude block k
  size_shown k some lt =
      let place : 0 + k ≡ k = zero-add k in
      size_in-is (planes_at words step r) k (magnitude block k) (small k some) (λ p low. (shows.planes p low).at k lt ∙ ap (λ j. bit (magnitude block j) p)
      place)

  minus_at : (k : ℕ) → k < 64 → bit (word_at words step 0 r) k ≡ negative (get_or block k (pos 0))
  minus_at k lt = (let place : 0 + k ≡ k = zero-add k in shows.minus.at k lt ∙ ap (λ j. negative (get_or block j (pos 0))) place)

  number_shown : (k : ℕ) → k < 64 → number_from (planes_at words step r) (word_at words step 0 r) (get_or block 0 (pos 0)) k ≡ get_or block k (pos 0)
  number_shown zero lt = number_from-is (planes_at words step r) (word_at words step 0 r) (get_or block 0 (pos 0)) 0
  number_shown (suc k) lt =
      let some : 0 < suc k = omega arith in
      ac_from (planes_at words step r) (word_at words step 0 r) (get_or block 0 (pos 0)) (suc k) some
      ∙ rw (minus_at (suc k) lt, size_shown (suc k) some lt) (signed_is (get_or block (suc k) (pos 0)))

  block_masked : IsMasked words step (get_or block 0 (pos 0)) r
  block_masked = record {
    dc = λ p lt. (shows.planes p lt).at 0 (omega arith);
    dc_minus = minus_at 0 (omega arith);
    signed = λ k some lt minus. rw (size_shown k some lt) (negative_some (get_or block k (pos 0)) (sym (minus_at k lt) ∙ minus));
  }

module _ (step : ℕ) (dcs : List ℤ) (block : List ℤ) (old new : List ℕ) (puts : PutsBlock step (length dcs) block old new) (small : (k : ℕ) → 0 < k →
    magnitude block k < 2 ^ 27) where
  long_more : length (dcs ++ get_or block 0 (pos 0) ∷ []) ≡ length dcs + 1
  long_more = length-append dcs (get_or block 0 (pos 0) ∷ [])

  number_before : (i : ℕ) → i < 64 * length dcs → number_at new step (dcs ++ get_or block 0 (pos 0) ∷ []) (i / 64) (i % 64) ≡ number_at old step dcs
      (i / 64) (i % 64)
  number_before i lt =
      let low : i / 64 < length dcs = omega (arith, lt) in
      ap (λ d. number_from (planes_at new step (i / 64)) (word_at new step 0 (i / 64)) d (i % 64))
      (get_or_append_left dcs (get_or block 0 (pos 0) ∷ []) (pos 0) (i / 64) low)
      ∙ number_kept step (i / 64) old new (λ slot other. puts.keeps slot (i / 64) low) (get_or dcs (i / 64) (pos 0)) (i % 64)

  number_here : (r k : ℕ) → r ≡ length dcs → k < 64 → number_at new step (dcs ++ get_or block 0 (pos 0) ∷ []) r k ≡ get_or block k (pos 0)
  number_here r k last lt = rw last
      (ap (λ d. number_from (planes_at new step (length dcs)) (word_at new step 0 (length dcs)) d k)
      (get_or-append_seam dcs (get_or block 0 (pos 0)) [] (pos 0))
      ∙ number_shown step (length dcs) block new puts.shows small k lt)

  pub pushed_numbers : length block ≡ 64 → numbers_at new step (dcs ++ get_or block 0 (pos 0) ∷ []) ≡ numbers_at old step dcs ++ block
  pushed_numbers whole =
      let more = dcs ++ get_or block 0 (pos 0) ∷ [] in
      let before = numbers_at old step dcs in
      let long : length (numbers_at new step more) ≡ 64 * length dcs + 64 = omega (arith, length-numbers_at new step more, long_more) in
      let long' : length (before ++ block) ≡ 64 * length dcs + 64 = omega (arith, length-append before block, length-numbers_at old step dcs, whole) in
      ext_get_or (pos 0) (numbers_at new step more) (before ++ block) (long ∙ sym long')
      (λ i lt. number_get new step more i (omega (arith, lt, long, long_more)) ∙ elim (cases_lt i (64 * length dcs)) [
        | inl under ↦ number_before i under ∙ sym (number_get old step dcs i under)
            ∙ sym (get_or_append_left before block (pos 0) i (omega (arith, under, length-numbers_at old step dcs)))
        | inr from ↦
            let place : i % 64 ≡ i - 64 * length dcs = omega (arith, lt, long, from) in
            number_here (i / 64) (i % 64) (omega (arith, lt, long, from)) (omega arith) ∙ ap (λ k. get_or block k (pos 0)) place
            ∙ sym (get_or-append_right before block (64 * length dcs) i (pos 0) (length-numbers_at old step dcs) from)
      ])

  pub pushed_masks : magnitude block 0 < 2 ^ 28 → AreMasks old step dcs → AreMasks new step (dcs ++ get_or block 0 (pos 0) ∷ [])
  pushed_masks small_dc are = record {
    fit = puts.fit are.fit;
    small = λ r. elim (cases_lt r (length dcs)) [
      | inl lt ↦ rw (get_or_append_left dcs (get_or block 0 (pos 0) ∷ []) (pos 0) r lt) (are.small r)
      | inr le ↦ elim (cases_eq r (length dcs)) [
        | inl last ↦ rw (last, get_or-append_seam dcs (get_or block 0 (pos 0)) [] (pos 0)) small_dc
        | inr past ↦ rw (get_or_past (dcs ++ get_or block 0 (pos 0) ∷ []) r (pos 0) (omega (arith, le, past, long_more))) (omega arith)
      ]
    ];
    blocks = λ r known. elim (cases_lt r (length dcs)) [
      | inl lt ↦ rw (get_or_append_left dcs (get_or block 0 (pos 0) ∷ []) (pos 0) r lt) (masked_kept step r old new (λ slot other. puts.keeps slot r lt)
          (are.blocks r lt))
      | inr le ↦
          let last : r ≡ length dcs = omega (arith, le, known, long_more) in
          rw (last, get_or-append_seam dcs (get_or block 0 (pos 0)) [] (pos 0)) (block_masked step (length dcs) block new puts.shows small)
    ];
  }

-- the words of a block, after words of 0 where there was no slot
pub block_put : {step r mask : ℕ} {block : List ℤ} {old filled put : List ℕ} (n : ℕ) → filled ≡ old ++ replicate n 0 → r < step → step * 0 + r < length put →
    PutsPlanes 27 step r block filled put → Shows mask (λ k. negative (get_or block k (pos 0))) 0 64 → PutsBlock step r block old (set put (step * 0 + r) mask)
block_put {step} {r} {mask} {block} {old} {filled} {put} n is low within puts minus = record {
  keeps = λ slot q before.
      word_put_other put step 0 r mask slot q (omega (arith, before, low)) low (λ e f. omega (arith, f, before))
      ∙ puts.others slot q (omega (arith, before, low)) (λ e. omega (arith, e, before)) ∙ ap (λ w. word_at w step slot q) is ∙ word_filled old n step slot q;
  shows = record {
    planes = λ p lt. subst (λ w. Shows w (λ k. bit (magnitude block k) p) 0 64)
        (sym (word_put_other put step 0 r mask (2 + p) r low low (λ e f. omega (arith, e)))) (puts.here p lt);
    minus = subst (λ w. Shows w (λ k. negative (get_or block k (pos 0))) 0 64) (sym (word_put_here put step 0 r mask within)) minus;
  };
  fit = λ fit. put_fits put (step * 0 + r) mask minus.small (puts.fit (rw is (filled_fit old n fit)));
}
