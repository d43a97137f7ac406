use Rattle.std.proofs.Common.{◌≡◌, ◌<◌, ap, sym, subst, w32, of_z}
use Rattle.block_masks.proofs.ByteLanes.{each_low, each_shifted, low_fits, bytes_are, moved_long}
use Rattle.block_masks.proofs.bytes.bytes_of.Goals as goal

pub overflow_shr-moved : goal.overflow_shr-moved
overflow_shr-moved c =
    let by : of_z w32 c.from.result ≡ c.args.from = ap (of_z w32) c.from.ensures in
    each_shifted _ _ (λ x. subst (λ n. n < 32) (sym by) c.requires.low) _ 16

pub overflow_cast-result : goal.overflow_cast-result
overflow_cast-result c = each_low _ _ 255 low_fits _ (moved_long c.args.block.now c.args.start (of_z w32 c.from.result) c.requires.within)

pub returns : goal.returns
returns c = bytes_are c.args.block.now c.args.start c.args.from _ c.requires.within (ap (of_z w32) c.from.ensures) c.read.ensures c.requires.small
