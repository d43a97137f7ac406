use Rattle.std.proofs.Common.{◌∙◌, arith}
use Rattle.plane_reader.proofs.SlicedCells.{none_left, group_numbers}
use Rattle.plane_reader.proofs.slicing.slice_group.Goals as goal

pub put_dcs-requires-clause-empty : goal.put_dcs-requires-clause-empty
put_dcs-requires-clause-empty c = let l = c.lift_dcs-dcs.ensures in
    none_left c.args.part.now c.lift_dcs-dcs.new.part c.requires.whole l.long l.gone l.others c.requires.no_acs

pub returns-clause-numbers : goal.returns-clause-numbers
returns-clause-numbers c =
    let l = c.lift_dcs-dcs.ensures in
    let p = c.put_dcs.ensures in
    group_numbers c.args.part.now c.put_dcs.new.part c.lift_dcs-dcs.result c.requires.whole (p.long ∙ l.long) (record {
      others =
          λ r s lt few other. p.others r s (omega (arith, lt, p.long)) few other;
    }) (λ b lt. p.dcs b (omega (arith, lt, p.long))) l.dcs c.requires.no_acs

pub returns-clause-only : goal.returns-clause-only
returns-clause-only c = let p = c.put_dcs.ensures in record { others = λ r s lt few other. p.others r s (omega (arith, lt, p.long)) few other }
