use Rattle.std.proofs.lemmas.Result.{err_from_is_err_and}
use Rattle.segment_code.proofs.Joined.{failed_joined, over_joined, whole_joined}
use Rattle.segment_code.proofs.text_end.end_input.Goals as goal

pub returns-in_err-take : goal.returns-in_err-take
returns-in_err-take g c = λ wish head before blocks p.
    let e = err_from_is_err_and c.from_residual.result c.from_residual.ensures.1 in
    rw (e.1, e.2) (failed_joined g.I.OctetIn.source wish head before c.args.input.now c.take.new.self blocks p _ c.in_err-take.ensures)

pub returns-in_default : goal.returns-in_default
returns-in_default g c = λ wish head before blocks p.
    over_joined g.I.OctetIn.source wish head before c.args.input.now c.take.new.self blocks p c.in_default.field-0 (rw c.in_default.is at c.in_ok-take.ensures)

pub returns : goal.returns
returns g c = λ wish head before blocks p.
    whole_joined g.I.OctetIn.source wish head before c.args.input.now c.take.new.self blocks p (rw c.in-None.is at c.in_ok-take.ensures)
