-- How an input ends.
use Rattle.std.proofs.Common.{◌≡◌, ◌≤◌, ◌<◌, ◌^◌, ℕ, List, [], ◌∷◌, ◌++◌, length, take, refl, ap, arith, nat_lt, Bool, true, false}
use Rattle.std.proofs.Common.{if◌then◌else◌, Option, None, Some, length-take}
use Rattle.std.proofs.lemmas.Bool.Decides.{nat_tests}
use Rattle.port_122.specs.Outside.{IsUsedUp}
use Rattle.bit_pipe.specs.Sinks.{Rose}
use Rattle.bit_pipe.specs.Sources.{End, IsOver, Plainly, TooLong, InPieces}
use Rattle.bare_stream.specs.declared.input.PortIn.{PortIn}
use Rattle.bare_stream.specs.Input.{waiting, faults_of, tail_with}
use Rattle.bare_stream.proofs.InputSteps.{none_waits}

-- ---- the end of the input

abbrev IsEnd : End → End → Type 0
IsEnd a b = a ≡ b

plainly_or_long : (b : Bool) → IsEnd (if b then Plainly else TooLong) InPieces → ⊥
plainly_or_long b e = grind (arith, nat_tests)

is_plain : (b : Bool) → IsEnd (if b then Plainly else TooLong) Plainly → b ≡ true
is_plain b e = grind (arith, nat_tests)

is_long : (b : Bool) → IsEnd (if b then Plainly else TooLong) TooLong → b ≡ false
is_long b e = grind (arith, nat_tests)

no_prefix : (a b : List ℕ) → a ++ b ≡ [] → a ≡ []
no_prefix [] b e = refl
no_prefix (x ∷ a) b e = absurd cc

no_rest : (a b : List ℕ) → a ++ b ≡ [] → b ≡ []
no_rest [] b e = e
no_rest (x ∷ a) b e = absurd cc

none_taken : (n : ℕ) (xs : List ℕ) → length xs < n → take n xs ≡ [] → xs ≡ []
none_taken n xs lt e = grind (arith, nat_tests, length-take)

-- nothing waits at the end, and fewer octets than the cap were taken
pub record EndsPlain (left : ℕ) (o : Option (List ℕ)) (waits : List ℕ) : Type 0 where
  pub none : waits ≡ []
  pub end : IsUsedUp o
  pub some : 0 < left

pub ends_plain : (o : Option (List ℕ)) (waits all : List ℕ) (left : ℕ) → o ≡ Some all → IsOver (tail_with o waits left) Plainly → EndsPlain left o waits
ends_plain None waits all left if_known over = absurd cc
ends_plain (Some rest) waits all left if_known over =
    let low : nat_lt (length rest) left ≡ true = is_plain (nat_lt (length rest) left) over.1 in
    let below : length rest < left = grind (arith, nat_tests) in
    record {
      none = no_prefix waits (take left rest) over.0;
      end = none_taken left rest below (no_rest waits (take left rest) over.0);
      some =
          omega (arith, below);
    }

-- the input is longer than the cap
pub ends_long : (o : Option (List ℕ)) (waits all : List ℕ) (left : ℕ) → o ≡ Some all → IsOver (tail_with o waits left) TooLong → (waits ≡ []) × (left ≡ 0)
ends_long None waits all left if_known over = absurd cc
ends_long (Some rest) waits all left if_known over =
    let high : nat_lt (length rest) left ≡ false = is_long (nat_lt (length rest) left) over.1 in
    let above : left ≤ length rest = grind (arith, nat_tests) in
    let none = ap length (no_rest waits (take left rest) over.0) in
    let size = length-take left rest in (
      no_prefix waits (take left rest) over.0,
      omega (arith, above, none, size),
    )

-- an input of a port doesn't break
pub not_broken : (o : Option (List ℕ)) (waits all : List ℕ) (left : ℕ) → o ≡ Some all → IsOver (tail_with o waits left) InPieces → ⊥
not_broken o waits all left if_known over = grind (arith, nat_tests, plainly_or_long)

-- ---- a fault

has_failed : (b : Bool) (m : ℕ) → Rose m (if b then 2 ^ 64 else 0) → b ≡ true
has_failed true m rose = refl
has_failed false m rose = absurd (omega (arith, rose))

-- the input failed, and no octet waits
pub failed_is : {X : Type 0} (s t : PortIn X) → Rose (faults_of s) (faults_of t) → t.failed ≡ true
failed_is s t rose = has_failed t.failed (faults_of s) rose

pub failed_waits : {X : Type 0} (t : PortIn X) → t.failed ≡ true → waiting t ≡ []
failed_waits t failed = none_waits t (let e = t.over failed in omega (arith, e))
