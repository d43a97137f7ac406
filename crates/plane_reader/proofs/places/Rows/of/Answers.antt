use Rattle.std.proofs.Common.{◌∙◌, ap, not}
use Rattle.plane_reader.proofs.RowDigits.{missing_rows, known_rows}
use Rattle.plane_reader.proofs.places.Rows.of.Goals as goal

pub returns-then-is_none : goal.returns-then-is_none
returns-then-is_none c = missing_rows c.args.tables.now.entries c.args.gaggle.now (c.is_none.ensures ∙ ap not c.if-is_none.true)

pub returns : goal.returns
returns c = known_rows c.args.tables.now.entries c.args.gaggle.now c.requires.known (c.is_none.ensures ∙ ap not c.if-is_none.false)
    c.option_of-two.ensures c.option_of-three.ensures c.option_of-four.ensures
