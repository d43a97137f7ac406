use Rattle.std.proofs.Common.{◌≤◌, arith}
use Rattle.std.proofs.lemmas.Result.{err_from_is_err_and}
use Rattle.plane_reader.proofs.WordReads.{word_none, word_raw, unopened_fault, unopened_end, opened_word}
use Rattle.plane_reader.proofs.word.take_any.Goals as goal

pub returns-then-count-eq0-clause-word : goal.returns-then-count-eq0-clause-word
returns-then-count-eq0-clause-word g c = λ s are. rw c.if-count-eq0.true (word_none c.args.tables.now.book s c.args.gaggle.now are c.requires.open)

pub returns-then-count-eq1-clause-word : goal.returns-then-count-eq1-clause-word
returns-then-count-eq1-clause-word g c = λ s are. rw c.if-count-eq1.true
    (word_raw c.args.tables.now.book s c.args.gaggle.now are c.requires.open c.take_raw.ensures)

pub returns-in_err-option-clause-word : goal.returns-in_err-option-clause-word
returns-in_err-option-clause-word g c = λ s are.
    let p = err_from_is_err_and c.from_residual.result c.from_residual.ensures.1 in
    let low : 2 ≤ c.args.count = omega (arith, c.if-count-eq0.false, c.if-count-eq1.false) in
    rw (p.1, p.2) (unopened_fault c.args.tables.now.book c.args.count low c.requires.few s _ (c.in_err-option.ensures.option s are))

pub returns-in_default-clause-word : goal.returns-in_default-clause-word
returns-in_default-clause-word g c = λ s are.
    let low : 2 ≤ c.args.count = omega (arith, c.if-count-eq0.false, c.if-count-eq1.false) in
    let o = rw c.in_default.is at c.in_ok-option.ensures in
    unopened_end c.args.tables.now.book c.args.count low c.requires.few s (o.option s are)

pub returns-clause-word : goal.returns-clause-word
returns-clause-word g c = λ s are.
    let low : 2 ≤ c.args.count = omega (arith, c.if-count-eq0.false, c.if-count-eq1.false) in
    let o = rw c.in-Some.is at c.in_ok-option.ensures in
    opened_word c.args.tables.now.book c.args.count low c.requires.few s c.args.tables.now.sound c.in-Some.option o.fits c.requires.open
    (o.option s are) c.take_word_by.ensures
