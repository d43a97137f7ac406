use Rattle.dc_depths.specs.Dcs.{SetsDcs}
use Rattle.dc_depths.proofs.DcCells.{set_below}
use Rattle.dc_depths.proofs.Restored.{moved}
use Rattle.dc_depths.proofs.restore.restore_dcs.Given as goal

abbrev pub invariant-loop-block : goal.invariant-loop-block
invariant-loop-block l = SetsDcs (set_below (moved l.plan.shift l.q l.reach l.initial.blocks) l.block l.initial.blocks) l.initial.blocks l.blocks
