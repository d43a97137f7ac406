use Rattle.std.proofs.Common.{arith, length, pos, refl}
use Rattle.number_defs.proofs.CellPlaces.{place_within}
use Rattle.dc_depths.proofs.DcCells.{set_none, set_more, set_all}
use Rattle.dc_depths.proofs.dc_in.clear.Goals as goal

pub loop-block-init : goal.loop-block-init
loop-block-init c = set_none (λ r. pos 0) c.args.blocks.now

pub loop-block-preserved : goal.loop-block-preserved
loop-block-preserved c = set_more (λ r. pos 0) c.loop-block.block (pos 0) (place_within (length c.args.blocks.now) 64 c.loop-block.block (omega arith)
    (omega (arith, c.div_ceil-block-end.ensures))) refl c.loop-block.invariant

pub returns : goal.returns
returns c = set_all (λ r. pos 0) c.loop-block.block (omega (arith, c.div_ceil-block-end.ensures)) c.loop-block.invariant
