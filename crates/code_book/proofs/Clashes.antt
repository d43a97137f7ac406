-- Two codes of which one is a prefix of the other, found one after another.
use Rattle.std.proofs.Common.{◌≡◌, ◌≤◌, ◌<◌, ◌+◌, ◌-◌, ◌/◌, ◌^◌, ℕ, suc, Bool, true, false, List, [], ◌∷◌, length, ap, subst, ◌∙◌, arith, ◌==◌, ◌||◌}
use Rattle.std.proofs.Common.{Option, Some, None}
use Rattle.std.specs.List.{list_all}
use Rattle.std.proofs.lemmas.Bool.{false≢true}
use Rattle.std.proofs.lemmas.Bool.Decides.{nat_tests}
use Rattle.item_defs.specs.Bits.{bits_of}
use Rattle.item_defs.proofs.NumberBits.{length-bits_of}
use Rattle.base_122.specs.declared.book.Code.{Code}
use Rattle.plane_defs.specs.Spans.{span}
use Rattle.plane_defs.specs.Codes.{code_bits, is_prefix}
use Rattle.plane_defs.proofs.Counting.{same, bits_agree, all_agree}
use Rattle.plane_defs.proofs.Tables.{list_all-span-at, list_all-span-zero}
use Rattle.code_book.specs.declared.fault.BookFault.{BookFault}
use Rattle.code_book.specs.declared.fault.BookFault.TheVariants.{Clash}
use Rattle.code_book.specs.Sound.{IsCode}
use Rattle.code_book.specs.Tests.{clashes, clash_of, pair_with, clash_from}

module _ (t : ℕ) (codes : List Code) (count : ℕ) where
  step : (i n m : ℕ) → n ≡ suc m → clash_from t codes count i n ≡ pair_with t i (clash_of codes count i) (clash_from t codes count (i + 1) m)
  step i n m e = ap (clash_from t codes count i) e

  pub clash_found : (whole : Option BookFault) (i bound r : ℕ) → whole ≡ clash_from t codes count i (bound - i) → i < bound →
      clash_of codes count i ≡ Some r → whole ≡ Some (Clash t i r)
  clash_found whole i bound r so_far lt e = grind (arith, nat_tests, step)

  pub clash_past : (whole : Option BookFault) (i bound : ℕ) → whole ≡ clash_from t codes count i (bound - i) → i < bound → clash_of codes count i ≡ None →
      whole ≡ clash_from t codes count (i + 1) (bound - (i + 1))
  clash_past whole i bound so_far lt e = grind (arith, nat_tests, step)

  pub clash_nowhere : (whole : Option BookFault) (i bound : ℕ) → whole ≡ clash_from t codes count i (bound - i) → bound ≤ i → whole ≡ None
  clash_nowhere whole i bound so_far le = let e : bound - i ≡ 0 = omega (arith, le) in so_far ∙ ap (clash_from t codes count i) e

-- ---- a code is a prefix of another one if its bits are the other's first ones: tested for all codes

same_so : (b c : Bool) → same b c ≡ true → b ≡ c
same_so b c e = grind (arith, nat_tests, false≢true)

begins_so : (a b : Code) → IsCode a → IsCode b → a.len ≤ b.len → is_prefix (code_bits a) (code_bits b) ≡ (b.bits / 2 ^ (b.len - a.len) == a.bits)
begins_so a b is_a is_b le =
    let some = is_a.some in
    let most = is_b.few in
    let m : 1 + (b.len - 1) ≡ b.len = omega (arith, some, le) in
    let n : 1 + (a.len - 1) ≡ a.len = omega (arith, some) in
    let outer : list_all (λ n. bits_agree n (1 + (b.len - 1))) (span 1 (1 + (b.len - 1))) ≡ true =
    list_all-span-at (λ m. list_all (λ n. bits_agree n m) (span 1 m)) 1 8 (b.len - 1) all_agree (omega (arith, most, some, le)) in
    let wide : list_all (λ n. bits_agree n b.len) (span 1 b.len) ≡ true = subst (λ k. list_all (λ n. bits_agree n k) (span 1 k) ≡ true) m outer in
    let inner : bits_agree (1 + (a.len - 1)) b.len ≡ true = list_all-span-at (λ n. bits_agree n b.len) 1 b.len (a.len - 1) wide (omega (arith, some, le)) in
    let here : bits_agree a.len b.len ≡ true = subst (λ k. bits_agree k b.len ≡ true) n inner in
    let row = list_all-span-zero (λ x. list_all (λ y. same (is_prefix (bits_of a.len x) (bits_of b.len y)) (y / 2 ^ (b.len - a.len) == x))
    (span 0 (2 ^ b.len))) (2 ^ a.len) a.bits here is_a.fits in
    same_so _ _ (list_all-span-zero (λ y. same (is_prefix (bits_of a.len a.bits) (bits_of b.len y)) (y / 2 ^ (b.len - a.len) == a.bits)) (2 ^ b.len) b.bits
    row is_b.fits)

-- a prefix of a string is not longer than the string
no_longer : (xs ys : List Bool) → is_prefix xs ys ≡ true → length xs ≤ length ys
no_longer [] ys e = omega arith
no_longer (x ∷ xs) [] e = absurd (false≢true e)
no_longer (true ∷ xs) (true ∷ ys) e = omega (arith, no_longer xs ys e)
no_longer (true ∷ xs) (false ∷ ys) e = absurd (false≢true e)
no_longer (false ∷ xs) (true ∷ ys) e = absurd (false≢true e)
no_longer (false ∷ xs) (false ∷ ys) e = omega (arith, no_longer xs ys e)

either_first : (a b : Bool) → (b ≡ true → a ≡ true) → (a || b) ≡ a
either_first a b f = grind (arith, nat_tests, false≢true)

swapped : (a b : Bool) → (a || b) ≡ (b || a)
swapped a b = grind (arith, nat_tests)

turn : (x y : ℕ) → (x / 2 ^ 0 == y) ≡ true → (y / 2 ^ 0 == x) ≡ true
turn x y e = grind (arith, nat_tests)

pub clash_test : (a b : Code) → IsCode a → IsCode b → a.len ≤ b.len → clashes a b ≡ (b.bits / 2 ^ (b.len - a.len) == a.bits)
clash_test a b is_a is_b le = grind (arith, nat_tests, either_first, begins_so, no_longer, length-bits_of, turn)

pub clash_test_back : (a b : Code) → IsCode a → IsCode b → b.len ≤ a.len → clashes a b ≡ (a.bits / 2 ^ (a.len - b.len) == b.bits)
clash_test_back a b is_a is_b le = swapped (is_prefix (code_bits a) (code_bits b)) (is_prefix (code_bits b) (code_bits a)) ∙ clash_test b a is_b is_a le
