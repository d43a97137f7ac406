use Rattle.std.proofs.Common.{◌∙◌}
use Rattle.camera_mux.proofs.LineLists.{gave_one, gave_part}
use Rattle.camera_mux.proofs.giving.give_lines.Goals as goal

pub returns-in-Err : goal.returns-in-Err
returns-in-Err g c =
    gave_part c.args.entries.now c.loop-entry.entry-index _ c.loop-entry-test.true c.as_bytes.result.now
    (c.as_bytes.ensures.value ∙ c.as_str.ensures.value ∙ c.line_of.ensures) c.loop-entry.invariant
    (rw c.in-Err.is at c.write_all.ensures)

pub loop-entry-preserved : goal.loop-entry-preserved
loop-entry-preserved g c =
    gave_one c.args.entries.now c.loop-entry.entry-index _ c.loop-entry-test.true c.as_bytes.result.now
    (c.as_bytes.ensures.value ∙ c.as_str.ensures.value ∙ c.line_of.ensures) c.loop-entry.invariant
    (rw c.in_default.is at c.write_all.ensures)
