-- Bits of numbers, and the numbers of bits.
use Rattle.std.proofs.Common.{◌≡◌, ℕ, zero, suc, ◌+◌, ◌*◌, ◌-◌, ◌/◌, ◌%◌, ◌^◌, ◌<◌, ◌≤◌, List, [], ◌∷◌, ◌++◌, length, take, drop, Bool, false, refl, sym}
use Rattle.std.proofs.Common.{ap, ◌∙◌, append_assoc, arith, sub-one, zero-add, eqb, bit_and, nat_eq, fold, append-nil, take_at, drop_at, pow-suc}
use Rattle.std.proofs.Common.{mod-eq_of_lt, mul-le-mul_right}
use Rattle.std.proofs.lemmas.Nat.{shr_le, shr-shr, and_mask, mod-pow-add, shr_high, mod_low}
use Rattle.std.proofs.lemmas.Bool.Decides.{nat_tests}
use mir.Val.{bool_byte}
use Rattle.item_defs.specs.Bits.{bit, bits_of, copies, digit, value_of}

pub length-bits_of : (w n : ℕ) → length (bits_of w n) ≡ w
unfolding bits_of
length-bits_of zero n = refl
length-bits_of (suc w) n = ap suc (length-bits_of w n)

pub bits_none : (n : ℕ) → bits_of 0 n ≡ []
unfolding bits_of
bits_none n = refl

-- ---- one bit

-- one more bit at the low end moves each other one up
bit_above : (p b i : ℕ) → b < 2 → bit (2 * p + b) (suc i) ≡ bit p i
bit_above p b i lt =
    let half : (2 * p + b) / 2 ≡ p = omega arith in
    let e : (2 * p + b) / 2 ^ 1 / 2 ^ i ≡ (2 * p + b) / 2 ^ (1 + i) = shr-shr (2 * p + b) 1 i in
    let one : 1 + i ≡ suc i = omega arith in
    let f : (2 * p + b) / 2 ^ suc i ≡ p / 2 ^ i = sym (ap (λ k. (2 * p + b) / 2 ^ k) one) ∙ sym e ∙ ap (λ k. k / 2 ^ i) half in
    ap (λ k. eqb (k % 2) 1) f

low_bit : (p : ℕ) (b : Bool) → bit (2 * p + digit b) 0 ≡ b
low_bit p b = grind (arith, nat_tests)

pub digit_small : (b : Bool) → digit b < 2
digit_small b = grind (arith, nat_tests)

-- the code's number of a bit
pub digit_code : (b : Bool) → bool_byte b ≡ digit b
digit_code b = grind (arith, nat_tests)

-- the code's test of a bit
pub bit_is : (n i : ℕ) → nat_eq (bit_and (n / 2 ^ i) 1) 1 ≡ bit n i
bit_is n i = ap (λ k. nat_eq k 1) (and_mask (n / 2 ^ i) 1)

digit_of : (k : ℕ) → digit (eqb (k % 2) 1) ≡ k % 2
digit_of k = grind (arith, nat_tests)

-- ---- bits at the ends

-- one more bit at the low end
pub bits_push : (w p : ℕ) (b : Bool) → bits_of (suc w) (2 * p + digit b) ≡ bits_of w p ++ b ∷ []
unfolding bits_of
bits_push zero p b = ap (λ x. x ∷ []) (low_bit p b)
bits_push (suc w) p b = rw (bit_above p (digit b) w (digit_small b)) (ap (λ xs. bit p w ∷ xs) (bits_push w p b))

pub bits_first : (w n : ℕ) → 0 < w → bits_of w n ≡ bit n (w - 1) ∷ bits_of (w - 1) n
unfolding bits_of
bits_first w n lt = grind (arith, nat_tests, sub-one)

pub bits_cons : (w n : ℕ) → bits_of (suc w) n ≡ bit n w ∷ bits_of w n
unfolding bits_of
bits_cons w n = refl

-- the highest m of m + n bits, and the n bits below them
pub bits_of-split : (m n x : ℕ) → bits_of (m + n) x ≡ bits_of m (x / 2 ^ n) ++ bits_of n x
unfolding bits_of
bits_of-split zero n x = rw zero-add refl
bits_of-split (suc m) n x =
    let e : suc m + n ≡ suc (m + n) = omega arith in
    let same : x / 2 ^ n / 2 ^ m ≡ x / 2 ^ (m + n) = shr-shr x n m ∙ ap (λ k. x / 2 ^ k) (let c : n + m ≡ m + n = omega arith in c) in
    rw e (ap (λ k. eqb (k % 2) 1 ∷ bits_of (m + n) x) (sym same) ∙ ap (λ r. bit (x / 2 ^ n) m ∷ r) (bits_of-split m n x))

pub take-bits_of : (m n x : ℕ) → take m (bits_of (m + n) x) ≡ bits_of m (x / 2 ^ n)
take-bits_of m n x = ap (take m) (bits_of-split m n x) ∙ take_at (bits_of m (x / 2 ^ n)) (bits_of n x) m (length-bits_of m (x / 2 ^ n))

pub drop-bits_of : (m n x : ℕ) → drop m (bits_of (m + n) x) ≡ bits_of n x
drop-bits_of m n x = ap (drop m) (bits_of-split m n x) ∙ drop_at (bits_of m (x / 2 ^ n)) (bits_of n x) m (length-bits_of m (x / 2 ^ n))

-- ---- numbers of bits

spread : (a d p q v : ℕ) → q ≡ p * 2 → (2 * a + d) * p + v ≡ a * q + ((2 * 0 + d) * p + v)
spread a d p q v e = rw e (grind arith)

-- the number, after bits whose number is a
pub value_after : (a : ℕ) (bits : List Bool) → fold (λ n b. 2 * n + digit b) a bits ≡ a * 2 ^ length bits + value_of bits
unfolding value_of
value_after a [] = omega arith
value_after a (b ∷ bits) =
    let p : 2 ^ suc (length bits) ≡ 2 ^ length bits * 2 = pow-suc 2 (length bits) in
    value_after (2 * a + digit b) bits ∙ spread a (digit b) (2 ^ length bits) (2 ^ suc (length bits)) (value_of bits) p
    ∙ ap (λ k. a * 2 ^ suc (length bits) + k) (sym (value_after (2 * 0 + digit b) bits))

pub value_of-append : (xs ys : List Bool) → value_of (xs ++ ys) ≡ value_of xs * 2 ^ length ys + value_of ys
unfolding value_of
value_of-append xs ys = appended 0 xs ys ∙ value_after (value_of xs) ys
  where
    appended : (a : ℕ) (xs ys : List Bool) → fold (λ n b. 2 * n + digit b) a (xs ++ ys) ≡ fold (λ n b. 2 * n + digit b) (fold (λ n b. 2 * n + digit b) a xs) ys
    appended a [] ys = refl
    appended a (x ∷ xs) ys = appended (2 * a + digit x) xs ys

room : (a d p q n : ℕ) → q ≡ p * 2 → d < 2 → n < (2 * a + d + 1) * p → n < (a + 1) * q
room a d p q n e lt h = grind (arith, nat_tests, mul-le-mul_right)

after_below : (a : ℕ) (bits : List Bool) → fold (λ n b. 2 * n + digit b) a bits < (a + 1) * 2 ^ length bits
after_below a [] = omega arith
after_below a (b ∷ bits) = room a (digit b) (2 ^ length bits) (2 ^ suc (length bits)) _ (pow-suc 2 (length bits)) (digit_small b)
    (after_below (2 * a + digit b) bits)

pub value_below : (bits : List Bool) → value_of bits < 2 ^ length bits
unfolding value_of
value_below bits = omega (arith, after_below 0 bits)

after_bits : (w a : ℕ) (bits : List Bool) → bits_of (w + length bits) (fold (λ n b. 2 * n + digit b) a bits) ≡ bits_of w a ++ bits
after_bits w a [] = let e : w + 0 ≡ w = omega arith in rw e (sym (append-nil (bits_of w a)))
after_bits w a (b ∷ bits) =
    let e : w + suc (length bits) ≡ suc w + length bits = omega arith in
    rw e (after_bits (suc w) (2 * a + digit b) bits ∙ ap (λ r. r ++ bits) (bits_push w a b) ∙ append_assoc (bits_of w a) (b ∷ []) bits)

pub bits_of-value_of : (bits : List Bool) → bits_of (length bits) (value_of bits) ≡ bits
unfolding value_of bits_of
bits_of-value_of bits =
    let e : 0 + length bits ≡ length bits = omega arith in
    rw e at (after_bits 0 0 bits)

spread_rest : (a d p q v r : ℕ) → q ≡ p * 2 → r ≡ d * p + v → (2 * a + d) * p + v ≡ a * q + r
spread_rest a d p q v r e f = rw (e, f) (grind arith)

value_after_bits : (w n a : ℕ) → fold (λ m b. 2 * m + digit b) a (bits_of w n) ≡ a * 2 ^ w + n % 2 ^ w
unfolding bits_of
value_after_bits zero n a = omega arith
value_after_bits (suc w) n a =
    let one : 1 + w ≡ suc w = omega arith in
    let split : n % 2 ^ (1 + w) ≡ (n / 2 ^ w % 2 ^ 1) * 2 ^ w + n % 2 ^ w = mod-pow-add n 1 w in
    let split' : n % 2 ^ suc w ≡ (n / 2 ^ w % 2) * 2 ^ w + n % 2 ^ w = rw one at split in
    let p : 2 ^ suc w ≡ 2 ^ w * 2 = pow-suc 2 w in
    let d : digit (bit n w) ≡ n / 2 ^ w % 2 = digit_of (n / 2 ^ w) in
    value_after_bits w n (2 * a + digit (bit n w)) ∙ ap (λ k. (2 * a + k) * 2 ^ w + n % 2 ^ w) d ∙ spread_rest a (n / 2 ^ w % 2) (2 ^ w) (2 ^ suc w)
    (n % 2 ^ w) (n % 2 ^ suc w) p split'

pub value_of-bits_of : (w n : ℕ) → value_of (bits_of w n) ≡ n % 2 ^ w
unfolding value_of
value_of-bits_of w n = let e : 0 * 2 ^ w + n % 2 ^ w ≡ n % 2 ^ w = omega arith in value_after_bits w n 0 ∙ e

-- only the lowest w bits of a number count
pub bits_of-mod : (w n : ℕ) → bits_of w (n % 2 ^ w) ≡ bits_of w n
bits_of-mod w n =
    let v : value_of (bits_of w n) ≡ n % 2 ^ w = value_of-bits_of w n in
    let b : bits_of (length (bits_of w n)) (value_of (bits_of w n)) ≡ bits_of w n = bits_of-value_of (bits_of w n) in
    ap (bits_of w) (sym v) ∙ ap (λ k. bits_of k (value_of (bits_of w n))) (sym (length-bits_of w n)) ∙ b

-- the bits of two numbers, one after the other, are those of one number
pub bits_join : (m n a b : ℕ) → b < 2 ^ n → bits_of m a ++ bits_of n b ≡ bits_of (m + n) (a * 2 ^ n + b)
bits_join m n a b lt = grind (arith, nat_tests, shr_high, mod_low, bits_of-split, bits_of-mod)

-- numbers of the same bits are the same
pub same_number : (w m n : ℕ) → m < 2 ^ w → n < 2 ^ w → bits_of w m ≡ bits_of w n → m ≡ n
same_number w m n p q e = sym (mod-eq_of_lt p) ∙ sym (value_of-bits_of w m) ∙ ap value_of e ∙ value_of-bits_of w n ∙ mod-eq_of_lt q

-- zero has zero bits, and one has a one after zeros
zero_bit : (i : ℕ) → bit 0 i ≡ false
zero_bit i = let e : 0 / 2 ^ i ≡ 0 = omega (arith, shr_le 0 i) in ap (λ k. eqb (k % 2) 1) e

pub bits_of_zero : (w : ℕ) → bits_of w 0 ≡ copies w false
unfolding bits_of copies
bits_of_zero zero = refl
bits_of_zero (suc w) = rw (zero_bit w) (ap (λ r. false ∷ r) (bits_of_zero w))

-- the bits of a number from place b up, and those from place c to there
pub bits_between : (a b c x : ℕ) → c ≤ b → b ≤ a → bits_of (a - b) (x / 2 ^ b) ++ bits_of (b - c) (x / 2 ^ c) ≡ bits_of (a - c) (x / 2 ^ c)
bits_between a b c x p q =
    let whole : (a - b) + (b - c) ≡ a - c = omega arith in
    let place : c + (b - c) ≡ b = omega arith in
    let high : x / 2 ^ c / 2 ^ (b - c) ≡ x / 2 ^ b = shr-shr x c (b - c) ∙ ap (λ k. x / 2 ^ k) place in
    ap (λ k. bits_of (a - b) k ++ bits_of (b - c) (x / 2 ^ c)) (sym high) ∙ sym (bits_of-split (a - b) (b - c) (x / 2 ^ c))
    ∙ ap (λ k. bits_of k (x / 2 ^ c)) whole
