-- A prediction that is divided by eight and then by two.
use Rattle.std.proofs.Common.{◌≡◌, ℕ, ◌≤◌, ℤ, pos, negsuc, ◌+ℤ◌, ◌*ℤ◌, ◌-ℤ◌, ◌≤ℤ◌, ◌<ℤ◌, arith}
use Rattle.std.proofs.lemmas.Int.{ints}
use Rattle.wave_defs.specs.Line.{floor_div, predicted}
use Rattle.wave_defs.specs.Within.{IsWithin}
use Rattle.wave_defs.proofs.Floors.{floor_16}
use Rattle.wave_defs.proofs.Equations.{predicted-is}

floor_8 : (z : ℤ) → ((pos 8 *ℤ floor_div z 8) ≤ℤ z) × (z <ℤ ((pos 8 *ℤ floor_div z 8) +ℤ pos 8))
floor_8 (pos a) = (omega (arith, ints), omega (arith, ints))
floor_8 (negsuc a) = (omega (arith, ints), omega (arith, ints))

floor_2 : (z : ℤ) → ((pos 2 *ℤ floor_div z 2) ≤ℤ z) × (z <ℤ ((pos 2 *ℤ floor_div z 2) +ℤ pos 2))
floor_2 (pos a) = (omega (arith, ints), omega (arith, ints))
floor_2 (negsuc a) = (omega (arith, ints), omega (arith, ints))

-- what is divided by eight
abbrev pub eighth : ℤ → ℤ → ℤ → ℤ → ℤ
eighth a b c d = floor_div ((b +ℤ c) -ℤ (a +ℤ d) +ℤ pos 8) 8

pub eighth-within : (m : ℕ) (a b c d : ℤ) → 4 ≤ m → IsWithin m a → IsWithin m b → IsWithin m c → IsWithin m d → IsWithin m (eighth a b c d)
eighth-within m a b c d four wa wb wc wd =
    let f = floor_8 ((b +ℤ c) -ℤ (a +ℤ d) +ℤ pos 8) in
    record { above = omega (arith, ints); below = omega (arith, ints) }

pub in_two_steps : (a b c d : ℤ) → floor_div ((b +ℤ c) +ℤ eighth a b c d) 2 ≡ predicted a b c d
in_two_steps a b c d =
    rw predicted-is (
    let e = floor_8 ((b +ℤ c) -ℤ (a +ℤ d) +ℤ pos 8) in
    let h = floor_2 ((b +ℤ c) +ℤ eighth a b c d) in
    let p = floor_16 (pos 9 *ℤ (b +ℤ c) -ℤ (a +ℤ d) +ℤ pos 8) in
    omega (arith, ints)
    )
