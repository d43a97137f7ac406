use Rattle.std.proofs.Common.{flat_map}
use Rattle.plane_defs.specs.Spans.{span}
use Rattle.plane_coder.specs.Listed.{entries_at}
use Rattle.plane_coder.specs.Costs.{Adds}
use Rattle.plane_coder.proofs.costs.Costs.add_words.Given as goal

abbrev pub invariant-loop-i : goal.invariant-loop-i
invariant-loop-i g l = record {
  adds : Adds l.tables.book l.initial.self l.self (flat_map (entries_at l.words.list) (span 0 l.i)) l.i;
}
