use Rattle.std.proofs.Common.{arith, ◌+◌, ◌*◌}
use Rattle.block_masks.proofs.MarkParts.{mark_parts_z}
use Rattle.block_masks.proofs.gaggle.packed_mark.Goals as goal

pub returns : goal.returns
returns c =
    let p = mark_parts_z
    (c.from-4.result + (32 * c.from.result + 64 * c.from-2.result + 256 * c.from-3.result) +
    (1024 * c.digit_of.result + 2048 * c.digit_of-2.result + 4096 * c.digit_of-3.result))
    c.args.depth c.args.options.0 c.args.options.1 c.args.options.2 c.args.sent.0 c.args.sent.1 c.args.sent.2
    c.requires.below c.requires.two c.requires.three c.requires.four (omega arith) in
    record { depth_kept = p.depth; options = p.options; sent = p.sent; families = p.families }
