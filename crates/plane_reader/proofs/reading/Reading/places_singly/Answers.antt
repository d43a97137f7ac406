use Rattle.std.proofs.lemmas.Result.{err_from_is_err_and}
use Rattle.plane_reader.proofs.HeldStates.{holds_closed, places_by_calls}
use Rattle.plane_reader.proofs.reading.Reading.places_singly.Goals as goal

pub returns-in_err-places-clause-places : goal.returns-in_err-places-clause-places
returns-in_err-places-clause-places g c = λ s f start count are few shown.
    let p = err_from_is_err_and c.from_residual.result c.from_residual.ensures.1 in
    rw (p.1, p.2) (places_by_calls c.args.self.now.tables.now.words.book c.args.due f start count s _ c.close.ensures.stays c.close.ensures.none
    c.close.ensures.none (c.in_err-places.ensures.places s f start count are few shown))

pub returns-in_err-places-clause-holds : goal.returns-in_err-places-clause-holds
returns-in_err-places-clause-holds g c = holds_closed c.close.ensures.closed

pub returns-in_err-places-clause-is_in : goal.returns-in_err-places-clause-is_in
returns-in_err-places-clause-is_in g c = c.in_err-places.ensures.is_in

pub returns-in_default-clause-places : goal.returns-in_default-clause-places
returns-in_default-clause-places g c = λ s f start count are few shown.
    let t = rw c.in_default.is at c.in_ok-places.ensures in
    places_by_calls c.args.self.now.tables.now.words.book c.args.due f start count s _ c.close.ensures.stays c.close.ensures.none c.close.ensures.none
    (t.places s f start count are few shown)

pub returns-in_default-clause-holds : goal.returns-in_default-clause-holds
returns-in_default-clause-holds g c = holds_closed c.close.ensures.closed

pub returns-in_default-clause-is_in : goal.returns-in_default-clause-is_in
returns-in_default-clause-is_in g c = c.in_ok-places.ensures.is_in

pub returns-clause-places : goal.returns-clause-places
returns-clause-places g c = λ s f start count are few shown.
    let t = rw c.in-Some.is at c.in_ok-places.ensures in
    places_by_calls c.args.self.now.tables.now.words.book c.args.due f start count s _ c.close.ensures.stays c.close.ensures.none c.open-self.ensures.none
    (t.places s f start count are few shown)
