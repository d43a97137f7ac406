use Rattle.std.proofs.Common.{◌≤◌, ℕ, pos, get_or, unsigned_abs}
use Rattle.wave_tests.proofs.places.each_named.Given as goal

abbrev pub invariant-loop-i : goal.invariant-loop-i
invariant-loop-i l = (k : ℕ) → unsigned_abs (get_or l.cells k (pos 0)) ≤ 400
