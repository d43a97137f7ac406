use Rattle.std.proofs.Common.{◌/◌, ◌∙◌, sym, arith, subst}
use Rattle.std.proofs.lemmas.Result.{err_from_is_err_and}
use Rattle.plane_reader.specs.Takes.{AreIn}
use Rattle.plane_reader.specs.Gaggles.{gaggle_at}
use Rattle.plane_reader.proofs.GaggleEnds.{same_options, depths_same, gaggle_fault, gaggle_cut, gaggle_whole}
use Rattle.plane_reader.proofs.gaggles.take_gaggle.Goals as goal

pub load-requires : goal.load-requires
load-requires g c = omega (arith, c.requires.column.block, c.requires.whole)

pub open-reading-requires-clause-known : goal.open-reading-requires-clause-known
open-reading-requires-clause-known g c = rw c.load.ensures.options c.requires.known

pub returns-in_err-read-clause-blocks : goal.returns-in_err-read-clause-blocks
returns-in_err-read-clause-blocks g c = λ depths numbers p deep above have families are.
    let e = err_from_is_err_and c.from_residual.result c.from_residual.ensures.1 in
    let n = c.args.blocks.first.block / 16 in
    let known = subst (λ o. AreIn o (p.options n)) (sym c.open-reading.ensures.gaggle) (same_options
    (gaggle_at c.args.marks.now n) c.load.ensures.options c.load.ensures.sent are) in
    let read = c.in_err-read.ensures.blocks depths numbers p deep above have families known in
    rw (e.1, e.2) (gaggle_fault c.open-reading.ensures.none c.close.ensures.stays c.close.ensures.none c.close.ensures.kept _
    (rw c.open-reading.ensures.tables at read))

pub returns-in_default-clause-blocks : goal.returns-in_default-clause-blocks
returns-in_default-clause-blocks g c = λ depths numbers p deep above have families are.
    let x = rw c.in_default.is at c.in_ok-read.ensures in
    let n = c.args.blocks.first.block / 16 in
    let known = subst (λ o. AreIn o (p.options n)) (sym c.open-reading.ensures.gaggle) (same_options
    (gaggle_at c.args.marks.now n) c.load.ensures.options c.load.ensures.sent are) in
    let read = x.blocks depths numbers p deep above have families known in
    gaggle_cut c.open-reading.ensures.none c.close.ensures.stays c.close.ensures.none c.close.ensures.kept (rw c.open-reading.ensures.tables at read)

pub returns-clause-blocks : goal.returns-clause-blocks
returns-clause-blocks g c = λ depths numbers p deep above have families are.
    let x = rw c.in-Whole.is at c.in_ok-read.ensures in
    let n = c.args.blocks.first.block / 16 in
    let known = subst (λ o. AreIn o (p.options n)) (sym c.open-reading.ensures.gaggle) (same_options
    (gaggle_at c.args.marks.now n) c.load.ensures.options c.load.ensures.sent are) in
    let read = x.blocks depths numbers p deep above have families known in
    gaggle_whole c.open-reading.ensures.none c.close.ensures.stays c.close.ensures.none c.close.ensures.kept (rw c.close.ensures.gaggle at c.store.ensures)
    (rw c.open-reading.ensures.tables at read)

pub returns-in_err-read-clause-depths : goal.returns-in_err-read-clause-depths
returns-in_err-read-clause-depths g c = depths_same c.in_err-read.ensures.states

pub returns-in_default-clause-depths : goal.returns-in_default-clause-depths
returns-in_default-clause-depths g c = let x = rw c.in_default.is at c.in_ok-read.ensures in depths_same x.states

pub returns-clause-depths : goal.returns-clause-depths
returns-clause-depths g c = let x = rw c.in-Whole.is at c.in_ok-read.ensures in c.store.ensures.depths ∙ depths_same x.states
