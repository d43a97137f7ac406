use Rattle.std.proofs.Common.{rules, ◌*◌, FitsSigned, w32, get_or, pos}
use Rattle.std.proofs.lemmas.Int.{to_z-of_z}
use Rattle.block_masks.proofs.gaggle.load.Goals as goal

pub returns : goal.returns
returns c =
    let fits : FitsSigned w32 (get_or c.args.marks.now (16 * c.args.g) (pos 0)) = search rules in
    record { options = simp to_z-of_z at c.gaggle_in.ensures.options; sent = simp to_z-of_z at c.gaggle_in.ensures.sent }
