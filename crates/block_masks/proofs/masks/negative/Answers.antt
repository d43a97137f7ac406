use Rattle.std.proofs.Common.{◌+◌, pos, get_or, cond, w32}
use lib.Signed.{lt_z}
use mir.Val.{to_z}
use Rattle.plane_defs.specs.Entries.{negative as is_negative}
use Rattle.block_masks.proofs.LaneMasks.{compared, negative_lane}
use Rattle.block_masks.proofs.masks.negative.Goals as goal

pub returns : goal.returns
returns c =
    let cells = c.args.block.now in
    compared (λ a b. cond (lt_z (to_z w32 a) (to_z w32 b)) 4294967295 0) 0 (λ p. is_negative (get_or cells p (pos 0))) cells c.args.start c.requires
    (λ k below. negative_lane (get_or cells (c.args.start + k) (pos 0)) (c.read.ensures k below))
