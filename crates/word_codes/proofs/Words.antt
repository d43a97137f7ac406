-- The result of a call for a word's code.
use Rattle.std.proofs.Common.{◌≡◌, ℕ, ◌+◌, ◌<◌, true, false, arith, ◌==◌}
use Rattle.plane_defs.specs.Codes.{uncoded}

pub is_plain : (n option : ℕ) → option + 1 ≡ n → (option == uncoded n) ≡ true
is_plain n option e = grind arith

pub is_coded : (n option : ℕ) → option + 1 < n → (option == uncoded n) ≡ false
is_coded n option lt = grind arith
