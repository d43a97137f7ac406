-- An odd sample of which half the bound is known fits 32 bits.
use Rattle.std.proofs.Common.{ℕ, ◌-◌, ◌^◌, ◌≤◌, ℤ, arith}
use Rattle.std.proofs.lemmas.Int.{ints}
use Rattle.wave_defs.specs.Within.{IsWithin, AllWithin}
use Rattle.wave_defs.specs.Line.{predicted}
use Rattle.wave_defs.specs.Lifted.{plus_predicted}
use Rattle.wave_defs.proofs.Equations.{plus_predicted-is}
use Rattle.wave_defs.proofs.Floors.{half_more, predicted-double}
use Rattle.wave_defs.proofs.LevelWithin.{IsWithin-more}

-- two thirds of 2 ^ 30, rounded up
abbrev part : ℕ
part = 715827883

more : (z : ℤ) → IsWithin (2 ^ 30) z → IsWithin (half_more part) z
more z w = IsWithin-more (2 ^ 30) (half_more part) z (omega arith) w

pub widened_fits : (n : ℕ) (high a b c d : ℕ → ℤ) → AllWithin (2 ^ 29) n high → AllWithin (2 ^ 30) n a → AllWithin (2 ^ 30) n b
    → AllWithin (2 ^ 30) n c → AllWithin (2 ^ 30) n d → AllWithin (2 ^ 31 - 1) n (plus_predicted high a b c d)
widened_fits n high a b c d wh wa wb wc wd = record {
  at = λ j h.
      let p = predicted-double part _ _ _ _ (omega arith) (more _ (wa.at j h)) (more _ (wb.at j h)) (more _ (wc.at j h)) (more _ (wd.at j h)) in
      let o = wh.at j h in
      rw (plus_predicted-is high a b c d j) (record { above = omega (arith, ints); below = omega (arith, ints) });
}
