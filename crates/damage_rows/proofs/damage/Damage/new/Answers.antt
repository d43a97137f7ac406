use Rattle.std.proofs.Common.{ap, ◌∙◌}
use Rattle.stream_defs.specs.Marks.{Marks}
use Rattle.damage_rows.specs.Table.{set_rows}
use Rattle.damage_rows.proofs.TableLaws.{none_set}
use Rattle.damage_rows.proofs.damage.Damage.new.Goals as goal

pub returns : goal.returns
returns c = ap (λ missing. let m : Marks = record { rows = c.args.rows; missing = missing } in m)
    (ap set_rows (c.in_ok-words.ensures.items_if_clones_equal (λ y e. e)) ∙ none_set)
