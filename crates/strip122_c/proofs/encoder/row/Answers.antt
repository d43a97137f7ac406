use Rattle.std.proofs.Common.{◌∙◌, ap, arith}
use Rattle.strip122_c.proofs.RowsInto.{takes_into}
use Rattle.strip122_c.specs.RowReports.{row_report}
use Rattle.strip122_c.proofs.encoder.row.Goals as goal

pub returns : goal.returns
returns c =
    takes_into c.args.place.now c.in-Some.encoder c.row-ended.new.self c.args.room.now c.row-ended.new.room c.args.report.now c.row_report.result
    c.row_answer.result c.in-Some.is
    (omega (arith, c.if-report-ne-ENCODED_SIZE.false)) c.row-ended.ensures.open c.args.octets.now c.row-ended.result c.row-ended.ensures.answers
    (c.row_report.ensures ∙ ap (λ p. row_report p c.row-ended.result) c.progress.ensures.value) c.row_answer.ensures
