use Rattle.std.proofs.lemmas.Result.{err_from_is_err_and}
use Rattle.plane_reader.proofs.HeldStates.{holds_closed}
use Rattle.plane_reader.proofs.HeldWords.{flag_by_calls}
use Rattle.plane_reader.proofs.reading.Reading.flag_singly.Goals as goal

pub returns-in_err-flag-clause-flag : goal.returns-in_err-flag-clause-flag
returns-in_err-flag-clause-flag g c =
    let p = err_from_is_err_and c.from_residual.result c.from_residual.ensures.1 in
    rw (p.1, p.2) (flag_by_calls _ c.close.ensures.stays c.close.ensures.none c.close.ensures.none c.in_err-flag.ensures.flag)

pub returns-in_err-flag-clause-holds : goal.returns-in_err-flag-clause-holds
returns-in_err-flag-clause-holds g c = holds_closed c.close.ensures.closed

pub returns-in_err-flag-clause-is_in : goal.returns-in_err-flag-clause-is_in
returns-in_err-flag-clause-is_in g c = c.in_err-flag.ensures.is_in

pub returns-in_default-clause-flag : goal.returns-in_default-clause-flag
returns-in_default-clause-flag g c =
    let t = rw c.in_default.is at c.in_ok-flag.ensures in
    flag_by_calls _ c.close.ensures.stays c.close.ensures.none c.close.ensures.none t.flag

pub returns-in_default-clause-holds : goal.returns-in_default-clause-holds
returns-in_default-clause-holds g c = holds_closed c.close.ensures.closed

pub returns-in_default-clause-is_in : goal.returns-in_default-clause-is_in
returns-in_default-clause-is_in g c = c.in_ok-flag.ensures.is_in

pub returns-clause-flag : goal.returns-clause-flag
returns-clause-flag g c =
    let t = rw c.in-Some.is at c.in_ok-flag.ensures in
    flag_by_calls _ c.close.ensures.stays c.close.ensures.none c.open-self.ensures.none t.flag
