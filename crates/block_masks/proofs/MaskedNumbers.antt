-- The numbers that masks of planes give.
use Rattle.std.proofs.Common.{◌≡◌, ◌<◌, ◌≤◌, ℕ, zero, suc, ◌^◌, ◌==◌, inl, inr, refl, ap, sym, ◌∙◌, subst, arith, ℤ, pos, neg_ℤ, Bool, false, [], ◌∷◌}
use Rattle.std.proofs.Common.{length, get_or, drop, if◌then◌else◌}
use Rattle.std.proofs.lemmas.Bool.{cases_eq, ne_eqb}
use Rattle.item_defs.specs.Bits.{bit, bits_of, value_of}
use Rattle.item_defs.proofs.Equations.{bits_of-none, bits_of-more}
use Rattle.item_defs.proofs.NumberBits.{value_of-bits_of, bits_of-value_of, value_below}
use Rattle.block_masks.specs.MaskedNumbers.{bits_below, size_in, number_from}

-- ---- equations

pub bits_below-none : (masks : ℕ → ℕ) (k : ℕ) → bits_below masks k 0 ≡ []
unfolding bits_below
bits_below-none masks k = refl

pub bits_below-more : (masks : ℕ → ℕ) (k plane : ℕ) → bits_below masks k (suc plane) ≡ bit (masks plane) k ∷ bits_below masks k plane
unfolding bits_below
bits_below-more masks k plane = refl

pub number_from-is : (masks : ℕ → ℕ) (minus : ℕ) (dc : ℤ) (k : ℕ) →
    number_from masks minus dc k ≡ (if k == 0 then dc else if bit minus k then neg_ℤ (pos (size_in masks k)) else pos (size_in masks k))
unfolding number_from
number_from-is masks minus dc k = refl

-- a number of a sign and a magnitude
abbrev pub signed : Bool → ℕ → ℤ
signed b n = if b then neg_ℤ (pos n) else pos n

pub ac_from : (masks : ℕ → ℕ) (minus : ℕ) (dc : ℤ) (k : ℕ) → 1 ≤ k → number_from masks minus dc k ≡ signed (bit minus k) (size_in masks k)
ac_from masks minus dc k first =
    number_from-is masks minus dc k ∙ ap (λ t. if t then dc else signed (bit minus k) (size_in masks k)) (ne_eqb k 0 (λ e. omega (arith, e, first)))

-- ---- magnitudes

pub length-bits_below : (masks : ℕ → ℕ) (k planes : ℕ) → length (bits_below masks k planes) ≡ planes
length-bits_below masks k zero = ap length (bits_below-none masks k)
length-bits_below masks k (suc plane) = ap length (bits_below-more masks k plane) ∙ ap suc (length-bits_below masks k plane)

-- masks that have the bits of a number have its magnitude
pub bits_below-are : (masks : ℕ → ℕ) (k m planes : ℕ) → ((p : ℕ) → p < planes → bit (masks p) k ≡ bit m p) → bits_below masks k planes ≡ bits_of planes m
bits_below-are masks k m zero are = bits_below-none masks k ∙ sym (bits_of-none m)
bits_below-are masks k m (suc plane) are =
    bits_below-more masks k plane ∙ ap (λ b. b ∷ bits_below masks k plane) (are plane (omega arith))
    ∙ ap (λ l. bit m plane ∷ l) (bits_below-are masks k m plane (λ p lt. are p (omega (arith, lt)))) ∙ sym (bits_of-more plane m)

pub size_in-is : (masks : ℕ → ℕ) (k m : ℕ) → m < 2 ^ 27 → ((p : ℕ) → p < 27 → bit (masks p) k ≡ bit m p) → size_in masks k ≡ m
size_in-is masks k m small are = ap value_of (bits_below-are masks k m 27 are) ∙ value_of-bits_of 27 m ∙ omega (arith, small)

pub bits_below-same : (a b : ℕ → ℕ) (k planes : ℕ) → ((p : ℕ) → p < planes → bit (a p) k ≡ bit (b p) k) → bits_below a k planes ≡ bits_below b k planes
bits_below-same a b k zero are = bits_below-none a k ∙ sym (bits_below-none b k)
bits_below-same a b k (suc plane) are =
    bits_below-more a k plane ∙ ap (λ x. x ∷ bits_below a k plane) (are plane (omega arith))
    ∙ ap (λ l. bit (b plane) k ∷ l) (bits_below-same a b k plane (λ p lt. are p (omega (arith, lt)))) ∙ sym (bits_below-more b k plane)

pub size_small : (masks : ℕ → ℕ) (k : ℕ) → size_in masks k < 2 ^ 27
size_small masks k = subst (λ n. size_in masks k < 2 ^ n) (length-bits_below masks k 27) (value_below (bits_below masks k 27))

same_bit : (w a b p : ℕ) → bits_of w a ≡ bits_of w b → p < w → bit a p ≡ bit b p
same_bit zero a b p same lt = absurd (omega (arith, lt))
same_bit (suc w) a b p same lt =
    let both : bit a w ∷ bits_of w a ≡ bit b w ∷ bits_of w b = sym (bits_of-more w a) ∙ same ∙ bits_of-more w b in
    elim (cases_eq p w) [
      | inl e ↦ rw e (ap (λ l. get_or l 0 false) both)
      | inr apart ↦ same_bit w a b p (ap (drop 1) both) (omega (arith, lt, apart))
    ]

below_bit : (masks : ℕ → ℕ) (k planes m p : ℕ) → bits_of planes m ≡ bits_below masks k planes → p < planes → bit m p ≡ bit (masks p) k
below_bit masks k zero m p same lt = absurd (omega (arith, lt))
below_bit masks k (suc w) m p same lt =
    let both : bit m w ∷ bits_of w m ≡ bit (masks w) k ∷ bits_below masks k w = sym (bits_of-more w m) ∙ same ∙ bits_below-more masks k w in
    elim (cases_eq p w) [
      | inl e ↦ rw e (ap (λ l. get_or l 0 false) both)
      | inr apart ↦ below_bit masks k w m p (ap (drop 1) both) (omega (arith, lt, apart))
    ]

-- the bit of a magnitude is that of the plane's mask
pub size_bit : (masks : ℕ → ℕ) (k p : ℕ) → p < 27 → bit (size_in masks k) p ≡ bit (masks p) k
size_bit masks k p lt =
    below_bit masks k 27 (size_in masks k) p (subst (λ n. bits_of n (size_in masks k) ≡ bits_below masks k 27) (length-bits_below masks k 27)
    (bits_of-value_of (bits_below masks k 27))) lt
