use Rattle.std.proofs.Common.{◌∙◌, sym, subst, w32, FitsSigned}
use Rattle.std.proofs.lemmas.Int.{to_z-of_z}
use Rattle.plane_reader.proofs.DcSums.{sum_is, fits_still}
use Rattle.plane_reader.proofs.restoring.with_bit.Goals as goal

pub overflow_add-result : goal.overflow_add-result
overflow_add-result c =
    subst (FitsSigned w32) (sym (sum_is c.args.dc c.args.plane c.ranges.dc c.requires.low))
    (fits_still c.args.dc c.args.plane c.ranges.dc c.requires.low c.requires.room)

pub returns : goal.returns
returns c =
    let sum = sum_is c.args.dc c.args.plane c.ranges.dc c.requires.low in
    to_z-of_z w32 _ (subst (FitsSigned w32) (sym sum) (fits_still c.args.dc c.args.plane c.ranges.dc c.requires.low c.requires.room)) ∙ sum
