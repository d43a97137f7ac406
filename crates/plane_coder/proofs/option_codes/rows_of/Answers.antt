use Rattle.plane_coder.proofs.CodeRows.{rows_chosen, rows_within}
use Rattle.plane_coder.proofs.option_codes.rows_of.Goals as goal

pub returns : goal.returns
returns c = record { rows = rows_chosen c.args.options; within = rows_within c.args.options c.requires }
