use Rattle.std.proofs.Common.{refl, sym, ◌∙◌, arith}
use Rattle.plane_defs.specs.Codes.{entry}
use Rattle.code_book.specs.Tests.{clash_of, clashes}
use Rattle.code_book.proofs.Firsts.{found, past, nowhere}
use Rattle.code_book.proofs.check.clash_of.Goals as goal

pub loop-second-init : goal.loop-second-init
loop-second-init c = refl

pub clashes-requires-clause-a : goal.clashes-requires-clause-a
clashes-requires-clause-a c = c.requires.codes.each c.args.first c.requires.first

pub clashes-requires-clause-b : goal.clashes-requires-clause-b
clashes-requires-clause-b c = c.requires.codes.each c.loop-second.second c.loop-second-test.true

pub returns-then-clashes : goal.returns-then-clashes
returns-then-clashes c =
    let codes = c.args.codes.now in
    sym (found (λ s. clashes (entry codes c.args.first) (entry codes s)) (clash_of codes c.args.count c.args.first) c.loop-second.second c.args.count
    c.loop-second.invariant c.loop-second-test.true
    (sym c.clashes.ensures ∙ c.if-clashes.true))

pub loop-second-preserved : goal.loop-second-preserved
loop-second-preserved c =
    let codes = c.args.codes.now in
    past (λ s. clashes (entry codes c.args.first) (entry codes s)) (clash_of codes c.args.count c.args.first) c.loop-second.second c.args.count
    c.loop-second.invariant c.loop-second-test.true
    (sym c.clashes.ensures ∙ c.if-clashes.false)

pub returns : goal.returns
returns c =
    let codes = c.args.codes.now in
    sym (nowhere (λ s. clashes (entry codes c.args.first) (entry codes s)) (clash_of codes c.args.count c.args.first) c.loop-second.second c.args.count
    c.loop-second.invariant
    (omega (arith, c.loop-second-test.false)))
