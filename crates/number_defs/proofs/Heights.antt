-- Numbers, their heights and their two's complement form.
use Rattle.std.proofs.Common.{◌≡◌, ℕ, suc, ◌+◌, ◌*◌, ◌-◌, ◌%◌, ◌^◌, ◌<◌, ◌≤◌, ℤ, pos, negsuc, ◌+ℤ◌, ◌-ℤ◌, Bool, true, false, arith, ap, sym, ◌∙◌, inl, inr}
use Rattle.std.proofs.Common.{nat_abs, pow_mono}
use Rattle.std.proofs.lemmas.Int.{ints}
use Rattle.std.proofs.lemmas.Nat.{mod_low}
use Rattle.std.proofs.Math.Nat.{mod-eq_of_lt, pow-succ'}
use Rattle.std.proofs.lemmas.Bool.{cases_lt}
use Rattle.std.proofs.lemmas.Bool.Decides.{nat_tests}
use Rattle.number_defs.specs.Ranges.{IsInRange, negatives, number_at, height_of}
use Rattle.item_defs.specs.TwosComplement.{complement}

up_and_down : (a n : ℕ) → pos a -ℤ pos n +ℤ pos n ≡ pos a
up_and_down a n = omega (arith, ints)

pub height_back : (signed : Bool) (N height : ℕ) → height_of signed N (number_at signed N height) ≡ height
height_back signed N height = ap nat_abs (up_and_down height (negatives signed N))

once_more : (a w : ℕ) → a < 2 ^ w → (2 ^ w + a) % 2 ^ w ≡ a
once_more a w lt = let e : 2 ^ w + a ≡ 1 * 2 ^ w + a = omega arith in ap (λ n. n % 2 ^ w) e ∙ mod_low 1 w a lt

pub complement_less : (w a n : ℕ) → a < 2 ^ w → n ≤ 2 ^ w → (complement w (pos a -ℤ pos n) + n) % 2 ^ w ≡ a
complement_less w a n lt le =
    elim (cases_lt a n) [
      | inl under ↦
          let e : pos a -ℤ pos n ≡ negsuc (n - suc a) = omega (arith, ints) in
          let s : (n - suc a) % 2 ^ w ≡ n - suc a = mod-eq_of_lt (omega arith) in
          let t : (2 ^ w - 1 - (n - suc a) % 2 ^ w) + n ≡ 2 ^ w + a = omega arith in
          ap (λ z. (complement w z + n) % 2 ^ w) e ∙ ap (λ m. m % 2 ^ w) t ∙ once_more a w lt
      | inr over ↦
          let e : pos a -ℤ pos n ≡ pos (a - n) = omega (arith, ints) in
          let s : (a - n) % 2 ^ w ≡ a - n = mod-eq_of_lt (omega arith) in
          let t : (a - n) % 2 ^ w + n ≡ a = omega arith in
          ap (λ z. (complement w z + n) % 2 ^ w) e ∙ ap (λ m. m % 2 ^ w) t ∙ mod-eq_of_lt lt
    ]

pub negatives_fit : (signed : Bool) (N : ℕ) → negatives signed N ≤ 2 ^ N
negatives_fit signed N = grind (arith, nat_tests, pow_mono)

pub complement_back : (signed : Bool) (N height : ℕ) → height < 2 ^ N → (complement N (number_at signed N height) + negatives signed N) % 2 ^ N ≡ height
complement_back signed N height lt = complement_less N height (negatives signed N) lt (negatives_fit signed N)

-- a number of the range has a height of N bits, and this height determines it
pub height_below : (signed : Bool) (N : ℕ) (z : ℤ) → IsInRange signed N z → height_of signed N z < 2 ^ N
height_below signed N z h = grind (arith, nat_tests)

pub number_back : (signed : Bool) (N : ℕ) (z : ℤ) → IsInRange signed N z → number_at signed N (height_of signed N z) ≡ z
number_back signed N z h = omega (arith, ints, h.low, h.high)

pub half : (N : ℕ) → 1 ≤ N → 2 ^ N ≡ 2 * 2 ^ (N - 1)
half N low = let e : N ≡ suc (N - 1) = omega arith in ap (λ n. 2 ^ n) e ∙ pow-succ' 2 (N - 1)

-- two's complement exchanges the halves of the range
pub complement_is : (signed : Bool) (N height : ℕ) → 1 ≤ N → height < 2 ^ N → (height + negatives signed N) % 2 ^ N ≡ complement N (number_at signed N height)
complement_is false N height low lt =
    let e : pos height -ℤ pos 0 ≡ pos height = omega (arith, ints) in
    let z : height + 0 ≡ height = omega arith in
    ap (λ n. n % 2 ^ N) z ∙ ap (complement N) (sym e)
complement_is true N height low lt =
    let n = 2 ^ (N - 1) in
    let twice : 2 ^ N ≡ 2 * n = half N low in
    elim (cases_lt height n) [
      | inl under ↦
          let e : pos height -ℤ pos n ≡ negsuc (n - suc height) = omega (arith, ints) in
          let s : (n - suc height) % 2 ^ N ≡ n - suc height = mod-eq_of_lt (omega arith) in
          let t : (height + n) % 2 ^ N ≡ height + n = mod-eq_of_lt (omega arith) in
          let u : height + n ≡ 2 ^ N - 1 - (n - suc height) % 2 ^ N = omega arith in
          t ∙ u ∙ ap (complement N) (sym e)
      | inr over ↦
          let e : pos height -ℤ pos n ≡ pos (height - n) = omega (arith, ints) in
          let s : (height - n) % 2 ^ N ≡ height - n = mod-eq_of_lt (omega arith) in
          let t : height + n ≡ 2 ^ N + (height - n) = omega arith in
          ap (λ m. m % 2 ^ N) t ∙ once_more (height - n) N (omega arith) ∙ sym s ∙ ap (complement N) (sym e)
    ]
