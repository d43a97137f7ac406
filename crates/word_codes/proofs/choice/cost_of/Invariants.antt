use Rattle.std.proofs.Common.{◌≡◌, ◌≤◌, ◌*◌, take, get_or, sum, sum_by}
use Rattle.plane_defs.specs.Spans.{span}
use Rattle.plane_defs.specs.Choice.{code_length}
use Rattle.word_codes.proofs.choice.cost_of.Given as goal

abbrev pub invariant-loop-symbol : goal.invariant-loop-symbol
invariant-loop-symbol l = record {
  so_far : l.total ≡ sum_by (λ s. get_or l.counts s 0 * code_length l.book l.length l.option s) (span 0 l.symbol);
  bound : l.total ≤ 255 * sum (take l.symbol l.counts);
}
