use Rattle.std.proofs.Common.{◌≡◌, ℕ, ◌<◌, ◌-◌, length, get_or}
use Rattle.command_words.proofs.values.read_weights.Given as goal

abbrev pub invariant-loop-i : goal.invariant-loop-i
invariant-loop-i l = record {
  size : length l.shifts ≡ 10;
  each : (k : ℕ) → k < l.i → get_or l.shifts k 0 ≡ get_or l.digits k 0 - 48;
}
