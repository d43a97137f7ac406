-- What the code's shift to the right computes, and numbers that fit.
use Rattle.std.proofs.Common.{◌≡◌, ℕ, ℤ, ap, ◌∙◌, SFits, to_z, of_z, ◌<◌, ◌^◌, arith}
use mir.Syntax.{Width}
use mir.Val.{hbits}
use lib.Signed.{shr_z, mag_shr}
use Rattle.std.proofs.lemmas.Int.{to_z-of_z, ints}
use native.Mathlib.Nat.{lt_of_le_of_lt}
use Rattle.wave_defs.specs.Line.{floor_div}
use Rattle.wave_defs.specs.Within.{IsWithin}

pub SFits-floor_div : (w : Width) (z : ℤ) (k : ℕ) → SFits w z → SFits w (floor_div z k)
SFits-floor_div w z k f = record { sfits = lt_of_le_of_lt (mag_shr z k) f.sfits }

-- `z >> n` at a number that the code has computed without overflow; k is 2 ^ n
pub shifted : (w : Width) (k : ℕ) (z y : ℤ) → z ≡ y → SFits w y → to_z w (of_z w (shr_z z k)) ≡ floor_div y k
shifted w k z y e f = ap (λ (v : ℤ). to_z w (of_z w (shr_z v k))) e ∙ to_z-of_z w (floor_div y k) (SFits-floor_div w y k f)

pub SFits-IsWithin : (w : Width) (b : ℕ) (z : ℤ) → b < 2 ^ hbits w → IsWithin b z → SFits w z
SFits-IsWithin w b z h f = record { sfits = grind (arith, ints) }

-- a number that the code has read or computed is itself
pub kept : (w : Width) (b : ℕ) (z : ℤ) → b < 2 ^ hbits w → IsWithin b z → to_z w (of_z w z) ≡ z
kept w b z h f = to_z-of_z w z (SFits-IsWithin w b z h f)
