use Rattle.std.proofs.lemmas.Result.{err_from_is_err_and}
use Rattle.plane_reader.proofs.HeldStates.{holds_closed, held_by_calls}
use Rattle.plane_reader.proofs.reading.Reading.types_singly.Goals as goal

pub returns-in_err-read-clause-types : goal.returns-in_err-read-clause-types
returns-in_err-read-clause-types g c = λ s f is shown.
    let p = err_from_is_err_and c.from_residual.result c.from_residual.ensures.1 in
    rw (p.1, p.2) (held_by_calls _ _ c.close.ensures.stays c.close.ensures.none c.close.ensures.none (c.in_err-read.ensures.types s f is shown))

pub returns-in_err-read-clause-holds : goal.returns-in_err-read-clause-holds
returns-in_err-read-clause-holds g c = holds_closed c.close.ensures.closed

pub returns-in_err-read-clause-is_in : goal.returns-in_err-read-clause-is_in
returns-in_err-read-clause-is_in g c = c.in_err-read.ensures.is_in

pub returns-in_default-clause-types : goal.returns-in_default-clause-types
returns-in_default-clause-types g c = λ s f is shown.
    let t = rw c.in_default.is at c.in_ok-read.ensures in
    held_by_calls _ _ c.close.ensures.stays c.close.ensures.none c.close.ensures.none (t.types s f is shown)

pub returns-in_default-clause-holds : goal.returns-in_default-clause-holds
returns-in_default-clause-holds g c = holds_closed c.close.ensures.closed

pub returns-in_default-clause-is_in : goal.returns-in_default-clause-is_in
returns-in_default-clause-is_in g c = c.in_ok-read.ensures.is_in

pub returns-clause-types : goal.returns-clause-types
returns-clause-types g c = λ s f is shown.
    let t = rw c.in-Some.is at c.in_ok-read.ensures in
    held_by_calls _ _ c.close.ensures.stays c.close.ensures.none c.open-self.ensures.none (t.types s f is shown)
