use Rattle.std.proofs.Common.{◌≡◌, ◌==◌, true, false, arith}
use Rattle.std.proofs.lemmas.Result.{err_from_is_err_and}
use Rattle.std.proofs.lemmas.Bool.Decides.{nat_tests}
use Rattle.plane_reader.specs.Blocks.{terms_of}
use Rattle.plane_reader.proofs.Frames.{blank}
use Rattle.plane_reader.proofs.BlockReads.{blank_found, numbers_fault, numbers_cut, numbers_read, children_read}
use Rattle.plane_reader.proofs.stages.take_words.Goals as goal

pub returns-then-this-eq2-clause-words : goal.returns-then-this-eq2-clause-words
returns-then-this-eq2-clause-words g c = λ block s are above families now.
    let two : (g.row.STAGE == 2) ≡ true = grind (arith, nat_tests, c.if-this-eq2.true) in
    children_read (terms_of c.args.plan.now c.args.reading.now.tables.now.words.book) g.row.STAGE block s _ two (c.take_children.ensures.children block
    (blank s) (blank_found s c.requires.bits c.requires.minus c.requires.raw are) above)

pub returns-in_err-take_numbers-clause-words : goal.returns-in_err-take_numbers-clause-words
returns-in_err-take_numbers-clause-words g c = λ block s are above families now.
    let e = err_from_is_err_and c.from_residual.result c.from_residual.ensures.1 in
    let other : (g.row.STAGE == 2) ≡ false = grind (arith, nat_tests, c.if-this-eq2.false) in
    rw (e.1, e.2) (numbers_fault (terms_of c.args.plan.now c.args.reading.now.tables.now.words.book) g.row.STAGE block s _ other
    (c.in_err-take_numbers.ensures.numbers block s (blank s) (blank_found s c.requires.bits c.requires.minus c.requires.raw are) above families now))

pub returns-in_default-clause-words : goal.returns-in_default-clause-words
returns-in_default-clause-words g c = λ block s are above families now.
    let x = rw c.in_default.is at c.in_ok-take_numbers.ensures in
    let other : (g.row.STAGE == 2) ≡ false = grind (arith, nat_tests, c.if-this-eq2.false) in
    numbers_cut (terms_of c.args.plan.now c.args.reading.now.tables.now.words.book) g.row.STAGE block s other (x.numbers block s (blank s)
    (blank_found s c.requires.bits c.requires.minus c.requires.raw are) above families now)

pub returns-clause-words : goal.returns-clause-words
returns-clause-words g c = λ block s are above families now.
    let x = rw c.in-Some.is at c.in_ok-take_numbers.ensures in
    let other : (g.row.STAGE == 2) ≡ false = grind (arith, nat_tests, c.if-this-eq2.false) in
    numbers_read (terms_of c.args.plan.now c.args.reading.now.tables.now.words.book) g.row.STAGE block s families other (x.numbers block s (blank s)
    (blank_found s c.requires.bits c.requires.minus c.requires.raw are) above families now)
