use Rattle.std.proofs.Common.{◌≡◌, ◌<◌, ◌≤◌, flat_map}
use Rattle.plane_defs.specs.Spans.{span}
use Rattle.plane_coder.specs.Listed.{entries_at}
use Rattle.plane_coder.proofs.KeptBits.{SoKept}
use Rattle.plane_coder.proofs.kept.keep_words.Given as goal

abbrev pub invariant-loop-i : goal.invariant-loop-i
invariant-loop-i g l = record {
  so_far : SoKept l.option_codes.tables.now.book l.initial.pending.gaggle l.used l.initial.free l.free l.end l.pending
      (flat_map (entries_at l.words.list) (span 0 l.i));
  last : l.first ≡ l.words.count;
}

abbrev pub invariant-loop-j : goal.invariant-loop-j
invariant-loop-j g l = record {
  so_far : SoKept l.option_codes.tables.now.book l.fn.pending.gaggle l.used l.fn.free l.free l.end l.pending
      (flat_map (entries_at l.words.list) (span 0 l.j));
  none : l.j < l.words.count → l.pending.closed ≡ 0;
  within : l.j ≤ l.words.count;
}
