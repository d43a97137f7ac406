-- The numbers that masks represent.
use Rattle.std.proofs.Common.{◌≡◌, ◌≢◌, ◌<◌, ◌≤◌, ℕ, ◌+◌, ◌-◌, ◌*◌, ◌/◌, ◌%◌, ◌^◌, ◌==◌, refl, ap, sym, ◌∙◌, arith, ℤ, pos, neg_ℤ, List, length, get_or}
use Rattle.std.proofs.Common.{drop, min, if◌then◌else◌, w32}
use Rattle.std.specs.Int.{cast_signed}
use Rattle.std.proofs.lemmas.List.{ext_get_or, get_or-take, get_or-drop, length-take, length-drop}
use Rattle.std.proofs.lemmas.List.FromFn.{get_or-map-range_with_len, length-map-range_with_len}
use Rattle.item_defs.specs.Bits.{bit}
use Rattle.wave_defs.specs.Held.{block_at}
use Rattle.block_masks.specs.Slices.{mask_in, dc_slot, minus_slot, number_in, numbers_in}
use Rattle.block_masks.specs.MaskedNumbers.{bits_below, size_in}
use Rattle.block_masks.proofs.MaskedNumbers.{number_from-is, ac_from, bits_below-same, signed}

-- ---- equations

pub number_in-is : (cells : List ℤ) (r k : ℕ) →
    number_in cells r k ≡ (if k == 0 then cast_signed w32 (mask_in cells r dc_slot % 2 ^ 32)
    else if bit (mask_in cells r minus_slot) k then neg_ℤ (pos (size_in (mask_in cells r) k)) else pos (size_in (mask_in cells r) k))
unfolding number_in
number_in-is cells r k = number_from-is (mask_in cells r) (mask_in cells r minus_slot) (cast_signed w32 (mask_in cells r dc_slot % 2 ^ 32)) k

pub ac_number : (cells : List ℤ) (r k : ℕ) → 1 ≤ k → number_in cells r k ≡ signed (bit (mask_in cells r minus_slot) k) (size_in (mask_in cells r) k)
unfolding number_in
ac_number cells r k first = ac_from (mask_in cells r) (mask_in cells r minus_slot) (cast_signed w32 (mask_in cells r dc_slot % 2 ^ 32)) k first

pub dc_number : (cells : List ℤ) (r : ℕ) → number_in cells r 0 ≡ cast_signed w32 (mask_in cells r dc_slot % 2 ^ 32)
dc_number cells r = number_in-is cells r 0

pub length-numbers_in : (cells : List ℤ) → length (numbers_in cells) ≡ length cells
unfolding numbers_in
length-numbers_in cells = length-map-range_with_len (λ i. number_in cells (i / 64) (i % 64)) 0 (length cells)

pub number_at : (cells : List ℤ) (i : ℕ) → i < length cells → get_or (numbers_in cells) i (pos 0) ≡ number_in cells (i / 64) (i % 64)
unfolding numbers_in
number_at cells i within = get_or-map-range_with_len (λ j. number_in cells (j / 64) (j % 64)) 0 (length cells) i i (pos 0) within (omega arith)

-- ---- numbers and blocks

-- numbers of the same masks are the same
pub same_number : (a b : List ℤ) (q r k : ℕ) → ((s : ℕ) → s < 32 → s ≢ 29 → mask_in a q s ≡ mask_in b r s) → number_in a q k ≡ number_in b r k
same_number a b q r k same =
    let bits : bits_below (mask_in a q) k 27 ≡ bits_below (mask_in b r) k 27 =
    bits_below-same (mask_in a q) (mask_in b r) k 27 (λ p lt. ap (λ m. bit m k) (same p (omega (arith, lt)) (λ e. omega (arith, e, lt)))) in
    number_in-is a q k ∙ rw (bits, same 28 (omega arith) (λ e. omega (arith, e)), same 30 (omega arith) (λ e. omega (arith, e))) refl ∙ sym (number_in-is b r k)

-- number k of a block
pub block_number : (cells : List ℤ) (r k : ℕ) → length cells % 64 ≡ 0 → 64 * r < length cells → k < 64 → get_or (block_at (numbers_in cells) r) k (pos 0)
    ≡ number_in cells r k
block_number cells r k whole known low =
    let there : get_or (block_at (numbers_in cells) r) k (pos 0) ≡ get_or (numbers_in cells) (64 * r + k) (pos 0) =
    get_or-take 64 (drop (64 * r) (numbers_in cells)) k (pos 0) low ∙ get_or-drop (64 * r) (numbers_in cells) k (pos 0) in
    let d : (64 * r + k) / 64 ≡ r = omega (arith, low) in
    let m : (64 * r + k) % 64 ≡ k = omega (arith, low) in
    there ∙ number_at cells (64 * r + k) (omega (arith, whole, known, low)) ∙ rw (d, m) refl

pub length-block : (cells : List ℤ) (r : ℕ) → length cells % 64 ≡ 0 → 64 * r < length cells → length (block_at (numbers_in cells) r) ≡ 64
length-block cells r whole known =
    length-take 64 (drop (64 * r) (numbers_in cells)) ∙ ap (min 64) (length-drop (64 * r) (numbers_in cells) ∙ ap (λ n. n - 64 * r)
    (length-numbers_in cells)) ∙ omega (arith, whole, known)

-- lists of numbers are the same if all their numbers are
pub same_numbers : (a b : List ℤ) → length a ≡ length b → ((r k : ℕ) → 64 * r < length a → k < 64 → number_in a r k ≡ number_in b r k) →
    numbers_in a ≡ numbers_in b
same_numbers a b long same =
    ext_get_or (pos 0) (numbers_in a) (numbers_in b) (length-numbers_in a ∙ long ∙ sym (length-numbers_in b)) (λ i lt.
    let within : i < length a = omega (arith, lt, length-numbers_in a) in
    number_at a i within ∙ same (i / 64) (i % 64) (omega (arith, within)) (omega arith) ∙ sym (number_at b i (omega (arith, within, long))))
