use Rattle.std.proofs.Common.{◌≡◌, ◌≤◌, ◌<◌, ℕ}
use Rattle.plane_defs.specs.Choice.{cost}
use Rattle.word_codes.proofs.choice.best_option.Given as goal

abbrev pub invariant-loop-option : goal.invariant-loop-option
invariant-loop-option l = record {
  known : l.best < l.option;
  value : l.fewest ≡ cost l.book l.length l.counts l.best;
  fewest : (other : ℕ) → other < l.option → l.fewest ≤ cost l.book l.length l.counts other;
  least : (other : ℕ) → other < l.best → l.fewest < cost l.book l.length l.counts other;
}
