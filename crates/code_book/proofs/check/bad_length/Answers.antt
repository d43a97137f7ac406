use Rattle.std.proofs.Common.{◌≡◌, ◌-◌, sym, ap, ◌∙◌, arith, not}
use Rattle.plane_defs.specs.Codes.{entry}
use Rattle.code_book.specs.Tests.{first_from, bad_length, has_length}
use Rattle.code_book.proofs.Firsts.{found, past, nowhere}
use Rattle.code_book.proofs.check.bad_length.Goals as goal

pub loop-symbol-init : goal.loop-symbol-init
loop-symbol-init c = let e : c.args.count ≡ c.args.count - 0 = omega arith in ap (first_from (λ s. not (has_length (entry c.args.codes.now s))) 0) e

pub returns-then-not-has_length : goal.returns-then-not-has_length
returns-then-not-has_length c =
    let codes = c.args.codes.now in
    sym (found (λ s. not (has_length (entry codes s))) (bad_length codes c.args.count) c.loop-symbol.symbol c.args.count c.loop-symbol.invariant
    c.loop-symbol-test.true
    (ap not (sym c.has_length.ensures ∙ c.if-not-has_length.true)))

pub loop-symbol-preserved : goal.loop-symbol-preserved
loop-symbol-preserved c =
    let codes = c.args.codes.now in
    past (λ s. not (has_length (entry codes s))) (bad_length codes c.args.count) c.loop-symbol.symbol c.args.count c.loop-symbol.invariant
    c.loop-symbol-test.true
    (ap not (sym c.has_length.ensures ∙ c.if-not-has_length.false))

pub returns : goal.returns
returns c =
    let codes = c.args.codes.now in
    sym (nowhere (λ s. not (has_length (entry codes s))) (bad_length codes c.args.count) c.loop-symbol.symbol c.args.count c.loop-symbol.invariant
    (omega (arith, c.loop-symbol-test.false)))
