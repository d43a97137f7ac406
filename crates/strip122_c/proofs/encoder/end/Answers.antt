use Rattle.std.proofs.Common.{◌∙◌, ap, arith}
use Rattle.strip122_c.proofs.RowsInto.{ends_into}
use Rattle.strip122_c.specs.RowReports.{end_report}
use Rattle.strip122_c.proofs.encoder.end.Goals as goal

pub returns : goal.returns
returns c =
    ends_into c.args.place.now c.in-Some.encoder c.end-ended.new.self c.args.room.now c.end-ended.new.room c.args.report.now c.end_report.result
    c.end_answer.result c.in-Some.is
    (omega (arith, c.if-report-ne-ENCODED_SIZE.false)) c.end-ended.ensures.open c.args.image c.end-ended.result c.end-ended.ensures.answers
    (c.end_report.ensures ∙ ap (λ p. end_report p c.end-ended.result) c.progress-before.ensures.value) c.end_answer.ensures
