use Rattle.std.proofs.Common.{◌-◌, length, refl, arith}
use Rattle.std.proofs.lemmas.Int.{to_z-of_z}
use Rattle.std.proofs.lemmas.List.Edits.{length-between}
use Rattle.lift_rows.proofs.Ends.{predicted_by_parts}
use Rattle.lift_rows.proofs.halves.lift_high.Goals as goal

pub returns : goal.returns
returns c =
    predicted_by_parts (length c.args.odd.now) c.args.odd.now c.args.even.now c.predict_sub.new.odd _ _ _ c.requires.long refl c.requires.same (omega arith)
    (grind (arith, to_z-of_z)) (grind (arith, to_z-of_z)) (grind (arith, to_z-of_z))
    (record { at = λ k h. c.predict_sub.ensures.at k (omega (arith, length-between c.args.odd.now 1 (length c.args.odd.now - 2) (omega arith))) })
