-- A lifting step at one place: the bound of its value, and that it only depends on the samples there.
use Rattle.std.proofs.Common.{◌≡◌, ℕ, ◌-◌, ◌*◌, ◌^◌, ◌≤◌, ℤ, arith}
use Rattle.std.proofs.lemmas.Int.{ints}
use Rattle.wave_defs.specs.Within.{IsWithin}
use Rattle.wave_defs.specs.Lifted.{less_predicted, less_correction, plus_predicted, plus_correction}
use Rattle.wave_defs.proofs.Floors.{predicted-within, correction-within}
use Rattle.wave_defs.proofs.Equations.{less_predicted-is, plus_predicted-is, less_correction-is, plus_correction-is}
use Rattle.std.proofs.lemmas.Bool.Decides.{nat_tests}

pub less_predicted-within : (m k : ℕ) (o a b c d : ℕ → ℤ) → 2 ≤ m → IsWithin (2 * m) (o k) → IsWithin (2 * m) (a k) → IsWithin (2 * m) (b k) →
    IsWithin (2 * m) (c k) → IsWithin (2 * m) (d k) → IsWithin (5 * m) (less_predicted o a b c d k)
less_predicted-within m k o a b c d two wo wa wb wc wd =
    rw less_predicted-is (
    let p = predicted-within m _ _ _ _ two wa wb wc wd in
    record { above = omega (arith, ints); below = omega (arith, ints) }
    )

pub less_predicted-same : (k m : ℕ) (o a b c d o' a' b' c' d' : ℕ → ℤ) → o k ≡ o' m → a k ≡ a' m → b k ≡ b' m → c k ≡ c' m → d k ≡ d' m →
    less_predicted o a b c d k ≡ less_predicted o' a' b' c' d' m
less_predicted-same k m o a b c d o' a' b' c' d' eo ea eb ec ed = grind (arith, nat_tests, less_predicted-is)

pub plus_predicted-within : (m k : ℕ) (o a b c d : ℕ → ℤ) → 2 ≤ m → IsWithin (2 * m) (o k) → IsWithin (2 * m) (a k) → IsWithin (2 * m) (b k) →
    IsWithin (2 * m) (c k) → IsWithin (2 * m) (d k) → IsWithin (5 * m) (plus_predicted o a b c d k)
plus_predicted-within m k o a b c d two wo wa wb wc wd =
    rw plus_predicted-is (
    let p = predicted-within m _ _ _ _ two wa wb wc wd in
    record { above = omega (arith, ints); below = omega (arith, ints) }
    )

pub plus_predicted-same : (k m : ℕ) (o a b c d o' a' b' c' d' : ℕ → ℤ) → o k ≡ o' m → a k ≡ a' m → b k ≡ b' m → c k ≡ c' m → d k ≡ d' m →
    plus_predicted o a b c d k ≡ plus_predicted o' a' b' c' d' m
plus_predicted-same k m o a b c d o' a' b' c' d' eo ea eb ec ed = grind (arith, nat_tests, plus_predicted-is)

pub less_correction-within : (m k : ℕ) (e b a : ℕ → ℤ) → 1 ≤ m → IsWithin m (e k) → IsWithin m (b k) → IsWithin m (a k) →
    IsWithin (2 * m) (less_correction e b a k)
less_correction-within m k e b a one we wb wa =
    rw less_correction-is (
    let p = correction-within m _ _ one wb wa in
    record { above = omega (arith, ints); below = omega (arith, ints) }
    )

pub less_correction-same : (k m : ℕ) (e b a e' b' a' : ℕ → ℤ) → e k ≡ e' m → b k ≡ b' m → a k ≡ a' m → less_correction e b a k ≡ less_correction e' b' a' m
less_correction-same k m e b a e' b' a' ee eb ea = grind (arith, nat_tests, less_correction-is)

pub plus_correction-within : (m k : ℕ) (e b a : ℕ → ℤ) → 1 ≤ m → IsWithin m (e k) → IsWithin m (b k) → IsWithin m (a k) →
    IsWithin (2 * m) (plus_correction e b a k)
plus_correction-within m k e b a one we wb wa =
    rw plus_correction-is (
    let p = correction-within m _ _ one wb wa in
    record { above = omega (arith, ints); below = omega (arith, ints) }
    )

pub plus_correction-same : (k m : ℕ) (e b a e' b' a' : ℕ → ℤ) → e k ≡ e' m → b k ≡ b' m → a k ≡ a' m → plus_correction e b a k ≡ plus_correction e' b' a' m
plus_correction-same k m e b a e' b' a' ee eb ea = grind (arith, nat_tests, plus_correction-is)

-- what the steps in 32 bits give fits them

pub plus_predicted-narrow : (k : ℕ) (o a b c d : ℕ → ℤ) → IsWithin (2 ^ 30) (o k) → IsWithin (7 * 2 ^ 26) (a k) → IsWithin (7 * 2 ^ 26) (b k) →
    IsWithin (7 * 2 ^ 26) (c k) → IsWithin (7 * 2 ^ 26) (d k) → IsWithin (2 ^ 31 - 1) (plus_predicted o a b c d k)
plus_predicted-narrow k o a b c d wo wa wb wc wd =
    rw plus_predicted-is (
    let p = predicted-within (7 * 2 ^ 25) _ _ _ _ (omega arith) wa wb wc wd in
    record { above = omega (arith, ints); below = omega (arith, ints) }
    )

pub plus_correction-narrow : (k : ℕ) (e b a : ℕ → ℤ) → IsWithin (3 * 2 ^ 29) (e k) → IsWithin (3 * 2 ^ 27) (b k) → IsWithin (3 * 2 ^ 27) (a k) →
    IsWithin (2 ^ 31 - 1) (plus_correction e b a k)
plus_correction-narrow k e b a we wb wa =
    rw plus_correction-is (
    let p = correction-within (3 * 2 ^ 27) _ _ (omega arith) wb wa in
    record { above = omega (arith, ints); below = omega (arith, ints) }
    )
