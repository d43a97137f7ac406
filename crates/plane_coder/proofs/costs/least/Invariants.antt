use Rattle.std.proofs.Common.{◌≡◌, ◌≤◌, ◌<◌, ◌+◌, ◌*◌, ◌/◌, ◌%◌, ◌^◌, ℕ}
use Rattle.plane_coder.proofs.costs.least.Given as goal

abbrev pub invariant-loop-option : goal.invariant-loop-option
invariant-loop-option l = record {
  known : l.best < l.option;
  value : l.fewest ≡ l.sums / 2 ^ (12 * (l.from + l.best)) % 2 ^ 12;
  fewest : (other : ℕ) → other < l.option → l.fewest ≤ l.sums / 2 ^ (12 * (l.from + other)) % 2 ^ 12;
  least : (other : ℕ) → other < l.best → l.fewest < l.sums / 2 ^ (12 * (l.from + other)) % 2 ^ 12;
}
