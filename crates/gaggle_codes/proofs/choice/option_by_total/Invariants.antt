use Rattle.std.proofs.Common.{◌≡◌, ◌≤◌, ◌-◌}
use Rattle.number_defs.specs.Choice.{greatest_suiting}
use Rattle.gaggle_codes.proofs.choice.option_by_total.Given as goal

abbrev pub invariant-loop-k : goal.invariant-loop-k
invariant-loop-k l = record {
  within : l.k ≤ l.bits - 2;
  so_far : greatest_suiting l.count l.total l.k ≡ greatest_suiting l.count l.total (l.bits - 2);
}

abbrev pub decreases-loop-k : goal.decreases-loop-k
decreases-loop-k l = l.k
