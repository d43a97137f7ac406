use Rattle.std.proofs.Common.{◌≤◌, ◌-◌, ℤ, List}
use Rattle.bit_pipe.specs.SourceState.{source_state, IsIn}
use Rattle.number_defs.specs.DcLows.{DcGiven}
use Rattle.dc_depths.specs.Dcs.{block_count, SetsDcs, q_in, planes_in}
use Rattle.dc_depths.specs.Reach.{AreGivenTo, all_to}
use Rattle.dc_depths.proofs.DcReads.{PlanesSoFar, PlanesGrew}
use Rattle.dc_depths.proofs.dc_in.take_dc_planes.Given as goal

abbrev pub invariant-loop-plane : goal.invariant-loop-plane
invariant-loop-plane g l = record {
  within : l.plane ≤ q_in l.plan;
  far : q_in l.plan - l.plane ≤ planes_in l.plan;
  is_in : IsIn (source_state l.input);
  grew : PlanesGrew (q_in l.plan) l.plane l.initial.blocks l.blocks;
  so_far : (given : DcGiven) (first : List ℤ) → SetsDcs given.dcs first l.initial.blocks →
      AreGivenTo (q_in l.plan) (block_count first) (all_to (q_in l.plan) (block_count first)) given.lows →
      PlanesSoFar g.I.OctetIn.source (q_in l.plan) (planes_in l.plan) (block_count first) l.plane given
      (source_state l.initial.input) (source_state l.input) first l.blocks;
}

abbrev pub decreases-loop-plane : goal.decreases-loop-plane
decreases-loop-plane g l = l.plane
