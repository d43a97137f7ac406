use Rattle.std.proofs.lemmas.Result.{err_from_is_err_and}
use Rattle.std.proofs.Common.{arith}
use Rattle.plane_reader.proofs.WordReads.{opens_known, opens_fault, opens_end, opens_new}
use Rattle.plane_reader.proofs.word.open.Goals as goal

pub returns-then-gaggle-place-clause-option : goal.returns-then-gaggle-place-clause-option
returns-then-gaggle-place-clause-option g c = λ s are. opens_known c.args.length s c.args.gaggle.now are c.requires.short c.requires.long c.requires.open
    c.if-gaggle-place.true

pub returns-in_err-option-clause-option : goal.returns-in_err-option-clause-option
returns-in_err-option-clause-option g c = λ s are.
    let p = err_from_is_err_and c.from_residual.result c.from_residual.ensures.1 in
    rw (p.1, p.2) (opens_fault c.args.length s c.args.gaggle.now are c.requires.short c.requires.long _ c.if-gaggle-place.false c.in_err-option.ensures)

pub returns-in_default-clause-option : goal.returns-in_default-clause-option
returns-in_default-clause-option g c = λ s are.
    opens_end c.args.length s c.args.gaggle.now are c.requires.short c.requires.long c.if-gaggle-place.false (rw c.in_default.is at c.in_ok-option.ensures)

pub returns-clause-option : goal.returns-clause-option
returns-clause-option g c = λ s are.
    opens_new c.args.length s c.args.gaggle.now are c.requires.short c.requires.long c.in-Some.option c.requires.open c.if-gaggle-place.false (omega arith)
    (omega arith) (rw c.in-Some.is at c.in_ok-option.ensures)
