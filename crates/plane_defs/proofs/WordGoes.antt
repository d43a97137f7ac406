-- Options and their identifiers, and due places.
use Rattle.std.proofs.Common.{◌≡◌, ℕ, suc, ◌<◌, ◌≤◌, ◌^◌, ◌&&◌, ◌||◌, not, nat_lt, Bool, true, false, if◌then◌else◌, List, [], ◌∷◌, length}
use Rattle.std.proofs.Common.{zero, length-append, ◌+◌, filter, refl, ap, arith, Option, Some, None}
use Rattle.std.specs.List.{list_all, list_any}
use Rattle.std.proofs.lemmas.Bool.Decides.{nat_tests}
use Rattle.item_defs.specs.Items.{false_flag, bad_option}
use Rattle.plane_defs.specs.Spans.{span}
use Rattle.plane_defs.specs.Codes.{identifier_number, names_option, identifier_width}
use Rattle.plane_defs.proofs.Tables.{list_all-span-zero}
use Rattle.item_defs.specs.Completing.{IsPossible}
use Rattle.plane_defs.specs.States.{State}
use Rattle.plane_defs.specs.WordScripts.{option_named}

-- the options that are known are options of their length
abbrev pub HasOptions : (ℕ → Option ℕ) → Type 0
HasOptions options = (count option : ℕ) → options count ≡ Some option → option < count

-- ---- identifiers

is_named : (count option : ℕ) → Bool
is_named count option = nat_lt (identifier_number count option) (2 ^ identifier_width count) && names_option count (identifier_number count option)

all_named : list_all (λ count. nat_lt count 2 || is_named count 0) (span 0 5) ≡ true
unfolding is_named span
all_named = refl

-- a number that names an option names one of its length
names_one : (count number : ℕ) → Bool
names_one count number = not (names_option count number) || nat_lt (option_named count number) count

all_name_one : list_all (λ count. nat_lt count 2 || list_all (names_one count) (span 0 4)) (span 0 5) ≡ true
unfolding names_one span
all_name_one = refl

past : (a b : Bool) → a ≡ false → (a || b) ≡ true → b ≡ true
past a b h1 h2 = grind (arith, nat_tests)

pub both : (a b : Bool) → (a && b) ≡ true → (a ≡ true) × (b ≡ true)
both true true e = (refl, refl)
both true false e = cc
both false b e = cc

module _ (count : ℕ) (low : 2 ≤ count) (high : count ≤ 4) where
  long : nat_lt count 2 ≡ false
  long = grind (arith, nat_tests)

  pub first_named : (nat_lt (identifier_number count 0) (2 ^ identifier_width count) ≡ true) × (names_option count (identifier_number count 0) ≡ true)
  unfolding is_named
  first_named = both _ _ (past (nat_lt count 2) (is_named count 0) long
      (list_all-span-zero (λ n. nat_lt n 2 || is_named n 0) 5 count all_named (omega (arith, high))))

  pub named_below : (number : ℕ) → number < 4 → names_option count number ≡ true → nat_lt (option_named count number) count ≡ true
  unfolding names_one
  named_below number lt names =
      past (not (names_option count number)) _ (ap not names)
      (list_all-span-zero (names_one count) 4 number
      (past (nat_lt count 2) _ long
      (list_all-span-zero (λ n. nat_lt n 2 || list_all (names_one n) (span 0 4)) 5 count all_name_one (omega (arith, high)))) lt)

pub below_of : (a b : ℕ) → nat_lt a b ≡ true → a < b
below_of a b e = grind (arith, nat_tests)

pub named_possible : (t : Bool) → t ≡ true → IsPossible (if not t then Some bad_option else None)
named_possible true e = tt
named_possible false e = absurd cc

pub possible_named : (t : Bool) → IsPossible (if not t then Some bad_option else None) → t ≡ true
possible_named t h1 = grind (arith, nat_tests)

pub word_possible : (t : Bool) → t ≡ false → IsPossible (if t then Some false_flag else None)
word_possible true e = absurd cc
word_possible false e = tt

-- ---- due places

pub some_due : (due : ℕ → Bool) (ps : List ℕ) → list_any due ps ≡ true → 1 ≤ length (filter due ps)
some_due due [] e = absurd cc
some_due due (p ∷ ps) e = by (due p) (some_due due ps) e
  where
    by : (t : Bool) → (list_any due ps ≡ true → 1 ≤ length (filter due ps)) → (t || list_any due ps) ≡ true →
        1 ≤ length (if t then p ∷ filter due ps else filter due ps)
    by true rest e = omega arith
    by false rest e = rest e

-- no more are due than there are
pub due_few : (due : ℕ → Bool) (ps : List ℕ) → length (filter due ps) ≤ length ps
due_few due [] = omega arith
due_few due (p ∷ ps) = more (due p) (due_few due ps)
  where
    more : (t : Bool) → length (filter due ps) ≤ length ps → length (if t then p ∷ filter due ps else filter due ps) ≤ suc (length ps)
    more true le = omega (arith, le)
    more false le = omega (arith, le)

-- ---- states and places

abbrev pub Options : State → Type 0
Options s = HasOptions s.options

pub span_short : (a n : ℕ) → length (span a n) ≤ n
unfolding span
span_short a zero = omega arith
span_short a (suc n) = let e = length-append (span a n) ((a + n) ∷ []) in let l = span_short a n in omega (arith, e, l)

pub four_long : (a : ℕ) → length (span a 4) ≤ 4
unfolding span
four_long a = omega arith

pub three_long : (a : ℕ) → length (span a 3) ≤ 4
unfolding span
three_long a = omega arith
