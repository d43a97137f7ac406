-- The numbers that the words of a segment give, and what the words of a block say of them.
use Rattle.std.proofs.Common.{◌≡◌, ◌<◌, ◌≤◌, ℕ, zero, suc, ◌+◌, ◌*◌, ◌/◌, ◌%◌, inl, inr, refl, ap, sym, ◌∙◌, arith, zero-add, ℤ, pos, Bool, true, false}
use Rattle.std.proofs.Common.{List, length, get_or, drop, unsigned_abs}
use Rattle.std.proofs.lemmas.Bool.{cases_lt}
use Rattle.std.proofs.lemmas.List.{get_or-take, get_or-drop, get_or_past}
use Rattle.std.proofs.lemmas.List.FromFn.{get_or-map-range_with_len, length-map-range_with_len}
use Rattle.item_defs.specs.Bits.{bit}
use Rattle.wave_defs.specs.Held.{block_at}
use Rattle.plane_defs.specs.Sets.{magnitude}
use Rattle.plane_defs.specs.Entries.{negative}
use Rattle.block_masks.specs.Masks.{Shows}
use Rattle.block_masks.specs.MaskedNumbers.{size_in}
use Rattle.block_masks.specs.SegmentNumbers.{word_at, planes_at, number_at, numbers_at, above_at, AreMasks}
use Rattle.block_masks.proofs.SegmentWords.{word_fits}
use Rattle.block_masks.proofs.MaskedNumbers.{number_from-is, signed, ac_from, size_bit}

-- ---- equations

pub length-numbers_at : (words : List ℕ) (step : ℕ) (dcs : List ℤ) → length (numbers_at words step dcs) ≡ 64 * length dcs
unfolding numbers_at
length-numbers_at words step dcs = length-map-range_with_len (λ i. number_at words step dcs (i / 64) (i % 64)) 0 (64 * length dcs)

pub number_get : (words : List ℕ) (step : ℕ) (dcs : List ℤ) (i : ℕ) → i < 64 * length dcs → get_or (numbers_at words step dcs) i (pos 0)
    ≡ number_at words step dcs (i / 64) (i % 64)
unfolding numbers_at
number_get words step dcs i within = get_or-map-range_with_len (λ j. number_at words step dcs (j / 64) (j % 64)) 0 (64 * length dcs) i i (pos 0) within
    (omega arith)

pub above_get : (words : List ℕ) (step count r : ℕ) → r < count → get_or (above_at words step count) r 0 ≡ word_at words step 1 r
unfolding above_at
above_get words step count r within = get_or-map-range_with_len (λ q. word_at words step 1 q) 0 count r r 0 within (omega arith)

pub dc_number : (words : List ℕ) (step : ℕ) (dcs : List ℤ) (r : ℕ) → number_at words step dcs r 0 ≡ get_or dcs r (pos 0)
dc_number words step dcs r = number_from-is (planes_at words step r) (word_at words step 0 r) (get_or dcs r (pos 0)) 0

pub ac_number : (words : List ℕ) (step : ℕ) (dcs : List ℤ) (r k : ℕ) → 1 ≤ k → number_at words step dcs r k ≡ signed (bit (word_at words step 0 r) k)
    (size_in (planes_at words step r) k)
ac_number words step dcs r k first = ac_from (planes_at words step r) (word_at words step 0 r) (get_or dcs r (pos 0)) k first

-- number k of a block
pub block_number : (words : List ℕ) (step : ℕ) (dcs : List ℤ) (r k : ℕ) → r < length dcs → k < 64 →
    get_or (block_at (numbers_at words step dcs) r) k (pos 0) ≡ number_at words step dcs r k
block_number words step dcs r k known low =
    let numbers = numbers_at words step dcs in
    let d : (64 * r + k) / 64 ≡ r = omega (arith, low) in
    let m : (64 * r + k) % 64 ≡ k = omega (arith, low) in
    get_or-take 64 (drop (64 * r) numbers) k (pos 0) low ∙ get_or-drop (64 * r) numbers k (pos 0) ∙ number_get words step dcs (64 * r + k)
    (omega (arith, known, low)) ∙ rw (d, m) refl

-- the DC of each block is its first number
pub dc_get : (words : List ℕ) (step : ℕ) (dcs : List ℤ) (r : ℕ) → get_or dcs r (pos 0) ≡ get_or (numbers_at words step dcs) (64 * r) (pos 0)
dc_get words step dcs r = elim (cases_lt r (length dcs)) [
  | inl lt ↦
      let d : 64 * r / 64 ≡ r = omega arith in
      let m : 64 * r % 64 ≡ 0 = omega arith in
      sym (number_get words step dcs (64 * r) (omega (arith, lt)) ∙ rw (d, m) (dc_number words step dcs r))
  | inr le ↦ get_or_past dcs r (pos 0) le ∙ sym (get_or_past (numbers_at words step dcs) (64 * r) (pos 0) (omega (arith, le, length-numbers_at words step dcs)))
]

-- ---- what masks say of numbers

abs_signed : (minus : Bool) (n : ℕ) → unsigned_abs (signed minus n) ≡ n
abs_signed true zero = refl
abs_signed true (suc n) = refl
abs_signed false n = refl

negative_signed : (minus : Bool) (n : ℕ) → (minus ≡ true → 0 < n) → negative (signed minus n) ≡ minus
negative_signed true zero some = absurd (omega (arith, some refl))
negative_signed true (suc n) some = refl
negative_signed false n some = refl

pub size_is : (words : List ℕ) (step : ℕ) (dcs : List ℤ) (r k : ℕ) → r < length dcs → 1 ≤ k → k < 64 → magnitude (block_at (numbers_at words step dcs) r) k
    ≡ size_in (planes_at words step r) k
size_is words step dcs r k known first low =
    ap unsigned_abs (block_number words step dcs r k known low ∙ ac_number words step dcs r k first) ∙ abs_signed (bit (word_at words step 0 r) k)
    (size_in (planes_at words step r) k)

pub bits_shown : {words : List ℕ} {step : ℕ} {dcs : List ℤ} → AreMasks words step dcs → (r p : ℕ) → r < length dcs → p < 27 →
    Shows (word_at words step (2 + p) r) (λ k. bit (magnitude (block_at (numbers_at words step dcs) r) k) p) 0 64
bits_shown {words} {step} {dcs} masks r p known low = record { at = bit_is; small = word_fits words step (2 + p) r masks.fit }
  where
    bit_is : (k : ℕ) → k < 64 → bit (word_at words step (2 + p) r) k ≡ bit (magnitude (block_at (numbers_at words step dcs) r) (0 + k)) p
    bit_is zero lt =
        (masks.blocks r known).dc p low ∙ sym (ap (λ n. bit (unsigned_abs n) p) (block_number words step dcs r 0 known lt ∙ dc_number words step dcs r))
    bit_is (suc k) lt =
        let place : 0 + suc k ≡ suc k = zero-add (suc k) in
        sym (ap (λ j. bit (magnitude (block_at (numbers_at words step dcs) r) j) p) place ∙ ap (λ n. bit n p)
        (size_is words step dcs r (suc k) known (omega arith) lt)
        ∙ size_bit (planes_at words step r) (suc k) p low)

pub minus_shown : {words : List ℕ} {step : ℕ} {dcs : List ℤ} → AreMasks words step dcs → (r : ℕ) → r < length dcs →
    Shows (word_at words step 0 r) (λ k. negative (get_or (block_at (numbers_at words step dcs) r) k (pos 0))) 0 64
minus_shown {words} {step} {dcs} masks r known = record { at = bit_is; small = word_fits words step 0 r masks.fit }
  where
    bit_is : (k : ℕ) → k < 64 → bit (word_at words step 0 r) k ≡ negative (get_or (block_at (numbers_at words step dcs) r) (0 + k) (pos 0))
    bit_is zero lt = (masks.blocks r known).dc_minus ∙ sym (ap negative (block_number words step dcs r 0 known lt ∙ dc_number words step dcs r))
    bit_is (suc k) lt =
        let place : 0 + suc k ≡ suc k = zero-add (suc k) in
        let number = block_number words step dcs r (suc k) known lt ∙ ac_number words step dcs r (suc k) (omega arith) in
        sym (ap (λ j. negative (get_or (block_at (numbers_at words step dcs) r) j (pos 0))) place ∙ ap negative number
        ∙ negative_signed (bit (word_at words step 0 r) (suc k)) (size_in (planes_at words step r) (suc k))
        ((masks.blocks r known).signed (suc k) (omega arith) lt))
