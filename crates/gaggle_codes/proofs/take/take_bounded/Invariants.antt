use Rattle.std.proofs.Common.{◌<◌, ◌^◌, ℕ, Bool}
use Rattle.bit_pipe.specs.SourceState.{source_state, IsIn}
use Rattle.gaggle_codes.specs.Given.{IsBound, kind_of}
use Rattle.gaggle_codes.proofs.NumbersRead.{SoFar}
use Rattle.gaggle_codes.proofs.take.take_bounded.Given as goal

abbrev pub invariant-loop-gaggle : goal.invariant-loop-gaggle
invariant-loop-gaggle g l = record {
  is_in : IsIn (source_state l.input);
  small : l.before < 2 ^ l.bounded.range.bits;
  so_far : (too_great : ℕ → Bool) → IsBound l.bounded.most l.bounded.range.bits too_great →
      SoFar g.I.OctetIn.source (kind_of l.bounded.range too_great) l.bounded.range l.bounded.most l.shift l.stride l.count l.gaggle l.before (source_state
      l.fn.input)
      (source_state l.input)
      l.fn.cells l.cells;
}
