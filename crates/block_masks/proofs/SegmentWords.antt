-- The places of the words of a segment, and words that were put there.
use Rattle.std.proofs.Common.{◌≡◌, ◌≢◌, ◌<◌, ◌≤◌, ℕ, ◌+◌, ◌-◌, ◌*◌, ◌^◌, inl, inr, refl, ap, sym, ◌∙◌, subst, arith, List, ◌++◌, length, get_or, set}
use Rattle.std.proofs.Common.{length-set, replicate}
use Rattle.std.proofs.Math.Nat.{mul-le-mul_left}
use Rattle.std.proofs.lemmas.Bool.{cases_lt, cases_eq}
use Rattle.std.proofs.lemmas.List.{get_or-set_same, get_or-set_other, get_or_append_left, get_or-append_right, get_or_past, get_or-replicate, length-replicate}
use Rattle.std.proofs.lemmas.Grind.{get_or_default_zero, get_or-set_at}
use Rattle.block_masks.specs.SegmentNumbers.{word_at, AreWords}
use Rattle.block_masks.proofs.SlicePlaces.{next_slot}

pub word_at-is : (words : List ℕ) (step slot r : ℕ) → word_at words step slot r ≡ get_or words (step * slot + r) 0
unfolding word_at
word_at-is words step slot r = refl

-- a word that was read
pub word_read : (words : List ℕ) (step slot r x : ℕ) → x ≡ get_or words (step * slot + r) x → step * slot + r < length words → x ≡ word_at words step slot r
word_read words step slot r x read within = read ∙ get_or_default_zero words (step * slot + r) x within ∙ sym (word_at-is words step slot r)

pub word_fits : (words : List ℕ) (step slot r : ℕ) → AreWords words → word_at words step slot r < 2 ^ 64
word_fits words step slot r fit = subst (λ w. w < 2 ^ 64) (sym (word_at-is words step slot r)) (fit (step * slot + r))

-- no two words have one place
words_apart : (step s q t r : ℕ) → q < step → r < step → (s ≡ t → q ≡ r → ⊥) → step * s + q ≢ step * t + r
words_apart step s q t r low high other same = elim (cases_lt s t) [
  | inl lt ↦ omega (arith, next_slot step s t lt, low, same)
  | inr ge ↦ elim (cases_eq s t) [
    | inl e ↦ other e (let f : step * s ≡ step * t = ap (λ n. step * n) e in omega (arith, f, same))
    | inr apart ↦ omega (arith, next_slot step t s (omega (arith, ge, apart)), high, same)
  ]
]

-- the places of slots that there are
pub within_slots : (step slots slot r len : ℕ) → len ≡ step * slots → slot < slots → r < step → step * slot + r < len
within_slots step slots slot r len long there low = omega (arith, next_slot step slot slots there, long, low)

-- words of slots that there are not are 0
pub word_past : (words : List ℕ) (step slots slot r : ℕ) → length words ≡ step * slots → slots ≤ slot → word_at words step slot r ≡ 0
word_past words step slots slot r long past =
    word_at-is words step slot r ∙ get_or_past words (step * slot + r) 0 (let least : step * slots ≤ step * slot =
    mul-le-mul_left step past in omega (arith, least, long))

-- ---- changes

pub word_put_here : (words : List ℕ) (step slot r mask : ℕ) → step * slot + r < length words → word_at (set words (step * slot + r) mask) step slot r ≡ mask
word_put_here words step slot r mask within = word_at-is (set words (step * slot + r) mask) step slot r ∙ get_or-set_same words (step * slot + r) mask 0 within

pub word_put_other : (words : List ℕ) (step slot r mask s q : ℕ) → q < step → r < step → (s ≡ slot → q ≡ r → ⊥) →
    word_at (set words (step * slot + r) mask) step s q ≡ word_at words step s q
word_put_other words step slot r mask s q low high other =
    word_at-is (set words (step * slot + r) mask) step s q
    ∙ get_or-set_other words (step * slot + r) (step * s + q) mask 0 (words_apart step s q slot r low high other) ∙ sym (word_at-is words step s q)

pub put_fits : (words : List ℕ) (place mask : ℕ) → mask < 2 ^ 64 → AreWords words → AreWords (set words place mask)
put_fits words place mask small fit i = elim (cases_eq i place) [
  | inl same ↦ elim (cases_lt i (length words)) [
    | inl lt ↦ subst (λ w. w < 2 ^ 64) (sym (get_or-set_at words place i mask 0 same (omega (arith, lt, same)))) small
    | inr le ↦ subst (λ w. w < 2 ^ 64) (sym (get_or_past (set words place mask) i 0 (omega (arith, le, length-set words place mask)))) (omega arith)
  ]
  | inr other ↦ subst (λ w. w < 2 ^ 64) (sym (get_or-set_other words place i mask 0 other)) (fit i)
]

repeated : (n i d : ℕ) → get_or (replicate n d) i d ≡ d
repeated n i d = elim (cases_lt i n) [
  | inl lt ↦ get_or-replicate n i d d lt
  | inr le ↦ get_or_past (replicate n d) i d (omega (arith, le, length-replicate n d))
]

filled : (words : List ℕ) (n i : ℕ) → get_or (words ++ replicate n 0) i 0 ≡ get_or words i 0
filled words n i = elim (cases_lt i (length words)) [
  | inl lt ↦ get_or_append_left words (replicate n 0) 0 i lt
  | inr le ↦ get_or-append_right words (replicate n 0) (length words) i 0 refl le ∙ repeated n (i - length words) 0 ∙ sym (get_or_past words i 0 le)
]

-- words of 0 at the end change no mask
pub word_filled : (words : List ℕ) (n step slot r : ℕ) → word_at (words ++ replicate n 0) step slot r ≡ word_at words step slot r
word_filled words n step slot r = word_at-is (words ++ replicate n 0) step slot r ∙ filled words n (step * slot + r) ∙ sym (word_at-is words step slot r)

pub filled_fit : (words : List ℕ) (n : ℕ) → AreWords words → AreWords (words ++ replicate n 0)
filled_fit words n fit i = subst (λ w. w < 2 ^ 64) (sym (filled words n i)) (fit i)
