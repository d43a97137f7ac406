use Rattle.std.proofs.Common.{◌≡◌, ◌-◌, sym, ap, ◌∙◌, arith}
use Rattle.code_book.specs.Tests.{clash_from}
use Rattle.code_book.proofs.Clashes.{clash_found, clash_past, clash_nowhere}
use Rattle.code_book.proofs.check.first_clash.Goals as goal

pub loop-first-init : goal.loop-first-init
loop-first-init c = let e : c.args.count ≡ c.args.count - 0 = omega arith in ap (clash_from c.args.table c.args.codes.now c.args.count 0) e

pub returns-in-Some : goal.returns-in-Some
returns-in-Some c =
    sym (clash_found c.args.table c.args.codes.now c.args.count _ c.loop-first.first c.args.count c.in-Some.second c.loop-first.invariant
    c.loop-first-test.true (sym c.clash_of.ensures ∙ c.in-Some.is))

pub loop-first-preserved : goal.loop-first-preserved
loop-first-preserved c =
    clash_past c.args.table c.args.codes.now c.args.count _ c.loop-first.first c.args.count c.loop-first.invariant c.loop-first-test.true
    (sym c.clash_of.ensures ∙ c.in_default.is)

pub returns : goal.returns
returns c = sym (clash_nowhere c.args.table c.args.codes.now c.args.count _ c.loop-first.first c.args.count c.loop-first.invariant
    (omega (arith, c.loop-first-test.false)))
