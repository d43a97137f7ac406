use Rattle.std.proofs.lemmas.Result.{err_from_is_err_and}
use Rattle.std.proofs.Common.{count_ones, refl, arith}
use Rattle.bit_pipe.proofs.Taking.{in_later}
use Rattle.plane_defs.specs.Steps.{free}
use Rattle.plane_reader.proofs.WindowWords.{few_ones}
use Rattle.plane_reader.proofs.PlaceReads.{due_fault, due_missing, due_given, small_word, ones_shown, any_state}
use Rattle.item_defs.specs.Bits.{bit}
use Rattle.block_masks.proofs.Viewing.{shows_own}
use Rattle.plane_reader.proofs.word.take_due.Goals as goal

pub take_any-requires-clause-few : goal.take_any-requires-clause-few
take_any-requires-clause-few g c = rw c.count_of.ensures (few_ones c.args.due c.requires.due)

pub returns-in_err-word-clause-places : goal.returns-in_err-word-clause-places
returns-in_err-word-clause-places g c = λ s f start count are few shown.
    let p = err_from_is_err_and c.from_residual.result c.from_residual.ensures.1 in
    rw (p.1, p.2) (due_fault c.args.tables.now.book s f start count c.args.due few shown _ (rw c.count_of.ensures at (c.in_err-word.ensures.word s are)))

pub returns-in_default-clause-places : goal.returns-in_default-clause-places
returns-in_default-clause-places g c = λ s f start count are few shown.
    let t = rw c.in_default.is at c.in_ok-word.ensures in
    due_missing c.args.tables.now.book s f start count c.args.due few shown (rw c.count_of.ensures at (t.word s are))

pub spread-requires-clause-word : goal.spread-requires-clause-word
spread-requires-clause-word g c =
    let t = rw c.in-Some.is at c.in_ok-word.ensures in
    small_word (count_ones c.args.due) c.in-Some.word (few_ones c.args.due c.requires.due) (rw c.count_of.ensures at t.fits)

pub returns-clause-places : goal.returns-clause-places
returns-clause-places g c = λ s f start count are few shown.
    let t = rw c.in-Some.is at c.in_ok-word.ensures in
    due_given c.args.tables.now.book s f start count c.args.due few shown c.requires.open c.in-Some.word c.spread.result
    (rw c.count_of.ensures at t.fits) c.spread.ensures (rw c.count_of.ensures at (t.word s are))

pub returns-clause-small : goal.returns-clause-small
returns-clause-small g c = λ count few lt.
    let t = rw c.in-Some.is at c.in_ok-word.ensures in
    (ones_shown (bit c.args.due) 0 count c.args.due c.in-Some.word c.spread.result few (shows_own c.args.due count lt)
    (rw c.count_of.ensures at t.fits) c.spread.ensures).small

pub returns-in_err-word-clause-is_in : goal.returns-in_err-word-clause-is_in
returns-in_err-word-clause-is_in g c =
    let s = any_state c.args.gaggle.now in
    in_later c.requires.open ((due_fault c.args.tables.now.book s (bit c.args.due) 0 4 c.args.due (omega arith) (shows_own c.args.due 4 c.requires.due) _
    (rw c.count_of.ensures at (c.in_err-word.ensures.word s (λ n low high. refl)))).read free (λ e. refl)).taken

pub returns-in_default-clause-is_in : goal.returns-in_default-clause-is_in
returns-in_default-clause-is_in g c =
    let s = any_state c.args.gaggle.now in
    let t = rw c.in_default.is at c.in_ok-word.ensures in
    in_later c.requires.open ((due_missing c.args.tables.now.book s (bit c.args.due) 0 4 c.args.due (omega arith) (shows_own c.args.due 4 c.requires.due)
    (rw c.count_of.ensures at (t.word s (λ n low high. refl)))).read free (λ e. refl)).taken
