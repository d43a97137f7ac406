use Rattle.std.proofs.Common.{◌≡◌, ◌-◌, suc, arith}
use Rattle.std.proofs.lemmas.List.{nil_from_length}
use Rattle.gaggle_codes.proofs.take_gaggle.take_gaggle.Goals as goal

pub returns-then-gaggle-eq0-clause-read : goal.returns-then-gaggle-eq0-clause-read
returns-then-gaggle-eq0-clause-read g c = λ too_great all prior bound size long last.
    let none : c.args.gaggle ≡ 0 = omega arith in
    let start = nil_from_length prior (omega (arith, long, none)) in
    rw (none, start) (c.take_first.ensures.read too_great all bound (omega (arith, size, none)))

pub returns-clause-read : goal.returns-clause-read
returns-clause-read g c = λ too_great all prior bound size long last.
    let some : c.args.gaggle ≡ suc (c.args.gaggle - 1) = omega arith in
    rw some (c.take_next.ensures.read too_great all (c.args.gaggle - 1) prior bound (rw some at size) (last (omega arith)))
