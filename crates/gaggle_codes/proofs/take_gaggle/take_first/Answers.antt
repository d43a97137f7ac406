use Rattle.std.proofs.Common.{◌∷◌, [], refl, nat_lt}
use Rattle.std.proofs.lemmas.Result.{err_from_is_err_and}
use Rattle.bit_pipe.proofs.ScriptReading.{in_read}
use Rattle.gaggle_codes.specs.Given.{last_in, kind_of}
use Rattle.gaggle_codes.proofs.GaggleReads.{gaggle_fault, gaggle_cut, first_fault, first_cut, first_read}
use Rattle.gaggle_codes.proofs.take_gaggle.take_first.Goals as goal

pub returns-in_err-option-clause-read : goal.returns-in_err-option-clause-read
returns-in_err-option-clause-read g c = λ too_great all bound size.
    let p = err_from_is_err_and c.from_residual.result c.from_residual.ensures.1 in
    rw (p.1, p.2, c.requires.none) (gaggle_fault (kind_of c.args.bounded.range too_great) all 0 [] _ (c.in_err-option.ensures.read []))

pub returns-in_default-clause-read : goal.returns-in_default-clause-read
returns-in_default-clause-read g c = λ too_great all bound size.
    rw c.requires.none (gaggle_cut (kind_of c.args.bounded.range too_great) all 0 [] (rw c.in_default.is at (c.in_ok-option.ensures.read [])))

pub take_reference-requires-clause-open : goal.take_reference-requires-clause-open
take_reference-requires-clause-open g c = in_read c.requires.open (rw c.in-Some.is at (c.in_ok-option.ensures.read []))

pub returns-in_err-take_reference-clause-read : goal.returns-in_err-take_reference-clause-read
returns-in_err-take_reference-clause-read g c = λ too_great all bound size.
    let p = err_from_is_err_and c.from_residual-in_err-take_reference.result c.from_residual-in_err-take_reference.ensures.1 in
    let same = c.in_err-take_reference.ensures.adds in
    rw (p.1, p.2, same) (first_fault (kind_of c.args.bounded.range too_great) all c.args.size c.in-Some.option (rw c.in-Some.is at
    (c.in_ok-option.ensures.read [])) _
    (rw same at (c.in_err-take_reference.ensures.read too_great bound)))

pub returns-in_default-2-clause-read : goal.returns-in_default-2-clause-read
returns-in_default-2-clause-read g c = λ too_great all bound size.
    let same = rw c.in_default-2.is at c.in_ok-take_reference.ensures.adds in
    rw same (first_cut (kind_of c.args.bounded.range too_great) all c.args.size c.in-Some.option (rw c.in-Some.is at (c.in_ok-option.ensures.read []))
    (rw (c.in_default-2.is, same) at (c.in_ok-take_reference.ensures.read too_great bound)))

pub take_differences-requires-clause-open : goal.take_differences-requires-clause-open
take_differences-requires-clause-open g c =
    in_read (in_read c.requires.open (rw c.in-Some.is at (c.in_ok-option.ensures.read [])))
    (rw c.in-Whole.is at (c.in_ok-take_reference.ensures.read (λ h. nat_lt c.args.bounded.most h) (record { at = λ h lt. refl })))

pub returns-clause-read : goal.returns-clause-read
returns-clause-read g c = λ too_great all bound size.
    let now = rw c.in-Whole.is at c.in_ok-take_reference.ensures.adds in
    first_read (kind_of c.args.bounded.range too_great) all c.args.size c.in-Some.option (rw c.in-Some.is at (c.in_ok-option.ensures.read []))
    (last_in c.take_reference.new.numbers ∷ []) _ size
    (rw (c.in-Whole.is, now) at (c.in_ok-take_reference.ensures.read too_great bound)) (rw now at (c.take_differences.ensures.read too_great [] bound (rw
    now refl)))

pub take_differences-requires-clause-before : goal.take_differences-requires-clause-before
take_differences-requires-clause-before g c =
    let now = rw c.in-Whole.is at c.in_ok-take_reference.ensures.adds in
    let within = rw now at c.in_ok-take_reference.ensures.within in
    within.few 0
