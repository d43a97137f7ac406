use Rattle.std.proofs.Common.{◌≡◌, ◌≤◌}
use Rattle.strip122.proofs.TrialsCounted.{equal_before}
use Rattle.strip122.proofs.trial.count_equal.Given as goal

abbrev pub invariant-loop-place : goal.invariant-loop-place
invariant-loop-place l = record {
  counted : l.equal ≡ equal_before l.setting l.made l.given l.place;
  most : l.equal ≤ l.place;
}
