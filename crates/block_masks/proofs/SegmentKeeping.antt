-- Words of a segment that keep its numbers.
use Rattle.std.proofs.Common.{◌≡◌, ◌<◌, ℕ, ◌+◌, ◌*◌, ◌/◌, ◌%◌, refl, ap, sym, ◌∙◌, arith, ℤ, pos, List, [], length, get_or}
use Rattle.std.proofs.lemmas.List.{ext_get_or, get_or_past}
use Rattle.item_defs.specs.Bits.{bit}
use Rattle.block_masks.specs.MaskedNumbers.{bits_below, number_from}
use Rattle.block_masks.specs.SegmentNumbers.{AreWords, word_at, planes_at, numbers_at, IsMasked, AreMasks}
use Rattle.block_masks.proofs.MaskedNumbers.{number_from-is, bits_below-same}
use Rattle.block_masks.proofs.SegmentLists.{length-numbers_at, number_get}

-- the words of a block stay, but those of slot 1
abbrev pub KeepsBlock : (step r : ℕ) → (old new : List ℕ) → Type 0
KeepsBlock step r old new = (slot : ℕ) → (slot ≡ 1 → ⊥) → word_at new step slot r ≡ word_at old step slot r

pub record KeepsNumbers (step count : ℕ) (old new : List ℕ) : Type 0 where
  pub others : (slot r : ℕ) → r < count → (slot ≡ 1 → ⊥) → word_at new step slot r ≡ word_at old step slot r

module _ (step r : ℕ) (old new : List ℕ) (keeps : KeepsBlock step r old new) where
  same_bits : (k : ℕ) → bits_below (planes_at new step r) k 27 ≡ bits_below (planes_at old step r) k 27
  same_bits k = bits_below-same (planes_at new step r) (planes_at old step r) k 27 (λ p lt. ap (λ m. bit m k) (keeps (2 + p) (λ e. omega (arith, e))))

  pub number_kept : (dc : ℤ) (k : ℕ) → number_from (planes_at new step r) (word_at new step 0 r) dc k ≡ number_from (planes_at old step r)
      (word_at old step 0 r) dc k
  number_kept dc k =
      number_from-is (planes_at new step r) (word_at new step 0 r) dc k ∙ rw (same_bits k, keeps 0 (λ e. omega (arith, e))) refl
      ∙ sym (number_from-is (planes_at old step r) (word_at old step 0 r) dc k)

  pub masked_kept : {first : ℤ} → IsMasked old step first r → IsMasked new step first r
  masked_kept is = record {
    dc = λ p lt. ap (λ m. bit m 0) (keeps (2 + p) (λ e. omega (arith, e))) ∙ is.dc p lt;
    dc_minus = ap (λ m. bit m 0) (keeps 0 (λ e. omega (arith, e))) ∙ is.dc_minus;
    signed = λ k some lt minus. rw (same_bits k) (is.signed k some lt (ap (λ m. bit m k) (sym (keeps 0 (λ e. omega (arith, e)))) ∙ minus));
  }

pub numbers_kept : {step : ℕ} (dcs : List ℤ) {old new : List ℕ} → KeepsNumbers step (length dcs) old new → numbers_at new step dcs ≡ numbers_at old step dcs
numbers_kept {step} dcs {old} {new} keeps =
    ext_get_or (pos 0) (numbers_at new step dcs) (numbers_at old step dcs) (length-numbers_at new step dcs ∙ sym (length-numbers_at old step dcs)) (λ i lt.
    let within : i < 64 * length dcs = omega (arith, lt, length-numbers_at new step dcs) in
    number_get new step dcs i within ∙ number_kept step (i / 64) old new (λ slot other. keeps.others slot (i / 64) (omega (arith, within)) other)
    (get_or dcs (i / 64) (pos 0)) (i % 64)
    ∙ sym (number_get old step dcs i within))

pub masks_kept : {step : ℕ} {dcs : List ℤ} {old new : List ℕ} → AreWords new → KeepsNumbers step (length dcs) old new → AreMasks old step dcs →
    AreMasks new step dcs
masks_kept {step} {dcs} {old} {new} fit keeps are = record {
  fit = fit;
  small = are.small;
  blocks = λ r known. masked_kept step r old new (λ slot other. keeps.others slot r known other) (are.blocks r known);
}

-- masks of no block
pub no_masks : {step : ℕ} {words : List ℕ} {dcs : List ℤ} → AreWords words → dcs ≡ [] → AreMasks words step dcs
no_masks {dcs = dcs} fit none = record {
  fit = fit;
  small = λ r. rw (get_or_past dcs r (pos 0) (omega (arith, ap length none))) (omega arith);
  blocks = λ r known. absurd (omega (arith, known, ap length none));
}
