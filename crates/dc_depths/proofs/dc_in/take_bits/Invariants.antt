use Rattle.std.proofs.Common.{ℕ, ℤ, List, unsigned_abs}
use Rattle.bit_pipe.specs.SourceState.{source_state, IsIn}
use Rattle.number_defs.specs.DcLows.{DcGiven}
use Rattle.dc_depths.specs.Dcs.{block_count, SetsDcs}
use Rattle.dc_depths.specs.Reach.{AreGivenTo, all_to}
use Rattle.dc_depths.proofs.DcReads.{BitsSoFar, GrewTo}
use Rattle.dc_depths.proofs.dc_in.take_bits.Given as goal

abbrev pub invariant-loop-block : goal.invariant-loop-block
invariant-loop-block g l = record {
  is_in : IsIn (source_state l.input);
  grew : GrewTo (unsigned_abs l.weight) l.block l.initial.blocks l.blocks;
  so_far : (q : ℕ) (given : DcGiven) (first : List ℤ) → SetsDcs given.dcs first l.initial.blocks →
      AreGivenTo q (block_count first) (all_to l.plane 0) given.lows →
      BitsSoFar g.I.OctetIn.source l.weight q l.plane (block_count first) l.block given (source_state l.initial.input) (source_state l.input) first l.blocks;
}
