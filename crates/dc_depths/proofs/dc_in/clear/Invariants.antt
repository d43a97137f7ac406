use Rattle.std.proofs.Common.{pos}
use Rattle.dc_depths.specs.Dcs.{SetsDcs}
use Rattle.dc_depths.proofs.DcCells.{set_below}
use Rattle.dc_depths.proofs.dc_in.clear.Given as goal

abbrev pub invariant-loop-block : goal.invariant-loop-block
invariant-loop-block l = SetsDcs (set_below (λ r. pos 0) l.block l.initial.blocks) l.initial.blocks l.blocks
