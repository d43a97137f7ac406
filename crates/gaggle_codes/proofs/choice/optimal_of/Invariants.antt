use Rattle.gaggle_codes.proofs.Least.{IsBest}
use Rattle.gaggle_codes.proofs.choice.optimal_of.Given as goal

abbrev pub invariant-loop-k : goal.invariant-loop-k
invariant-loop-k l = IsBest l.bits l.values l.k l.best l.fewest
