use Rattle.std.proofs.Common.{length, refl, arith}
use Rattle.std.proofs.lemmas.Int.{to_z-of_z}
use Rattle.std.proofs.lemmas.List.Edits.{length-between}
use Rattle.lift_rows.proofs.Ends.{corrected_by_parts}
use Rattle.lift_rows.proofs.halves.lift_low.Goals as goal

pub returns : goal.returns
returns c =
    corrected_by_parts (length c.args.even.now) c.args.even.now c.args.high.now c.update_sub.new.even _ c.requires.long refl c.requires.same (omega arith)
    (grind (arith, to_z-of_z))
    (record { at = λ k h. c.update_sub.ensures.at k (omega (arith, length-between c.args.even.now 1 (length c.args.even.now) (omega arith))) })
