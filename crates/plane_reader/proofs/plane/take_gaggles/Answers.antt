use Rattle.std.proofs.Common.{◌≡◌, ◌<◌, ◌-◌, ◌*◌, ◌/◌, ◌∙◌, length, refl, ap, subst, arith, min, Ok, Err}
use Rattle.bit_pipe.specs.declared.fault.Part.TheVariants.{Whole, Ended}
use Rattle.block_masks.specs.Gaggles.{AreOptions, options_at}
use Rattle.std.proofs.lemmas.Result.{err_from_is_err_and}
use Rattle.block_masks.proofs.Marking.{length-depths_of}
use Rattle.plane_defs.specs.Marks.{depths_of}
use Rattle.plane_reader.specs.Blocks.{terms_of}
use Rattle.plane_reader.specs.Gaggles.{AreDeep}
use Rattle.plane_reader.proofs.GaggleReads.{slots_kept, slots_then, above_after}
use Rattle.plane_reader.proofs.StageReads.{gaggles_start, at_gaggle, gaggles_more, gaggles_cut, gaggles_fault, stage_cut, stage_fault, stage_done}
use Rattle.plane_reader.proofs.StageReads.{known_after, OthersStay}
use Rattle.plane_reader.proofs.plane.take_gaggles.Goals as goal

pub loop-g-init : goal.loop-g-init
loop-g-init g c =
    let t = terms_of c.args.terms.now.plan.now c.args.terms.now.tables.now.words.book in
    let marks = c.args.marks.now in
    record {
      is_in = c.requires.open;
      known = c.requires.known;
      keeps = slots_kept c.args.cells.now;
      depths = refl;
      left = λ numbers p above have. gaggles_start t g.row.STAGE (depths_of marks) numbers c.args.terms.now.plan.now.plane _ p (16 * 0)
          (length marks - 16 * 0) (omega arith) (omega (arith, length-depths_of marks)) have;
    }

pub take_gaggle-requires-clause-known : goal.take_gaggle-requires-clause-known
take_gaggle-requires-clause-known g c =
    let here : 16 * (c.gaggle_of-blocks.result.first.block / 16) < length c.loop-g.marks = omega (
      arith,
      c.gaggle_of-blocks.ensures.block,
      c.loop-g-test.true,
      c.div_ceil-g-end.ensures,
      c.loop-g.auto.marks,
    ) in
    c.loop-g.invariant.known.at (c.gaggle_of-blocks.result.first.block / 16) here

pub loop-g-preserved : goal.loop-g-preserved
loop-g-preserved g c =
    let x = rw c.in-Whole.is at c.in_ok-take_gaggle.ensures in
    let i = c.loop-g.invariant in
    let n = c.loop-g.g in
    let b = c.gaggle_of-blocks.result in
    let first : b.first.block ≡ 16 * n = c.gaggle_of-blocks.ensures.block in
    let same : b.first.block / 16 ≡ n = omega (arith, first) in
    let long : length c.take_gaggle.new.marks ≡ length c.loop-g.marks = omega (arith, c.take_gaggle.auto.marks) in
    let others = subst (λ h. OthersStay h c.loop-g.marks c.take_gaggle.new.marks) same x.others in
    let known = subst (λ h. AreOptions (options_at c.take_gaggle.new.marks h)) same x.options in
    record {
      is_in = x.is_in;
      known = known_after long known others i.known;
      keeps = slots_then i.keeps x.keeps;
      depths = x.depths ∙ i.depths;
      left = λ numbers p above have.
          let plan = c.args.terms.now.plan.now in
          let t = terms_of plan c.args.terms.now.tables.now.words.book in
          let depths = depths_of c.args.marks.now in
          let l = i.left numbers p above have in
          let in_marks : 16 * n < length c.args.marks.now = omega (arith, c.loop-g-test.true, c.div_ceil-g-end.ensures) in
          let deep = subst (λ d. AreDeep plan.plane d b) i.depths c.gaggle_of-blocks.ensures.deep in
          let are = l.options (b.first.block / 16) (omega (arith, first, in_marks, c.loop-g.auto.marks)) in
          let read = at_gaggle t g.row.STAGE depths numbers plan.plane b.first.block n b.count first (Ok Whole) (x.blocks depths numbers l.state deep
          (above_after numbers plan.low i.keeps above) l.has l.families are) in
          gaggles_more t g.row.STAGE depths numbers plan.plane n (length c.args.marks.now) in_marks l (c.gaggle_of-blocks.ensures.count ∙ ap (λ m. min
          (m - 16 * n) 16) c.loop-g.auto.marks) long others read;
    }

pub returns-in_err-take_gaggle-clause-stage : goal.returns-in_err-take_gaggle-clause-stage
returns-in_err-take_gaggle-clause-stage g c = λ numbers p above have.
    let e = err_from_is_err_and c.from_residual.result c.from_residual.ensures.1 in
    let x = c.in_err-take_gaggle.ensures in
    let i = c.loop-g.invariant in
    let n = c.loop-g.g in
    let b = c.gaggle_of-blocks.result in
    let first : b.first.block ≡ 16 * n = c.gaggle_of-blocks.ensures.block in
    let plan = c.args.terms.now.plan.now in
    let t = terms_of plan c.args.terms.now.tables.now.words.book in
    let depths = depths_of c.args.marks.now in
    let l = i.left numbers p above have in
    let in_marks : 16 * n < length c.args.marks.now = omega (arith, c.loop-g-test.true, c.div_ceil-g-end.ensures) in
    let deep = subst (λ d. AreDeep plan.plane d b) i.depths c.gaggle_of-blocks.ensures.deep in
    let are = l.options (b.first.block / 16) (omega (arith, first, in_marks, c.loop-g.auto.marks)) in
    let read = at_gaggle t g.row.STAGE depths numbers plan.plane b.first.block n b.count first (Err _) (x.blocks depths numbers l.state deep
    (above_after numbers plan.low i.keeps above) l.has l.families are) in
    let width = c.gaggle_of-blocks.ensures.count ∙ ap (λ m. min (m - 16 * n) 16) c.loop-g.auto.marks in
    rw (e.1, e.2) (stage_fault t g.row.STAGE depths numbers plan.plane c.requires.some plan.low p (slots_then i.keeps x.keeps) have.dcs _ read
    (gaggles_fault t g.row.STAGE depths numbers plan.plane n (length c.args.marks.now) in_marks l width _ read))

pub returns-in_default-clause-stage : goal.returns-in_default-clause-stage
returns-in_default-clause-stage g c = λ numbers p above have.
    let x = rw c.in_default.is at c.in_ok-take_gaggle.ensures in
    let i = c.loop-g.invariant in
    let n = c.loop-g.g in
    let b = c.gaggle_of-blocks.result in
    let first : b.first.block ≡ 16 * n = c.gaggle_of-blocks.ensures.block in
    let plan = c.args.terms.now.plan.now in
    let t = terms_of plan c.args.terms.now.tables.now.words.book in
    let depths = depths_of c.args.marks.now in
    let l = i.left numbers p above have in
    let in_marks : 16 * n < length c.args.marks.now = omega (arith, c.loop-g-test.true, c.div_ceil-g-end.ensures) in
    let deep = subst (λ d. AreDeep plan.plane d b) i.depths c.gaggle_of-blocks.ensures.deep in
    let are = l.options (b.first.block / 16) (omega (arith, first, in_marks, c.loop-g.auto.marks)) in
    let read = at_gaggle t g.row.STAGE depths numbers plan.plane b.first.block n b.count first (Ok Ended) (x.blocks depths numbers l.state deep
    (above_after numbers plan.low i.keeps above) l.has l.families are) in
    let width = c.gaggle_of-blocks.ensures.count ∙ ap (λ m. min (m - 16 * n) 16) c.loop-g.auto.marks in
    stage_cut t g.row.STAGE depths numbers plan.plane c.requires.some plan.low p (slots_then i.keeps x.keeps) have.dcs read
    (gaggles_cut t g.row.STAGE depths numbers plan.plane n (length c.args.marks.now) in_marks l width read)

pub returns-clause-stage : goal.returns-clause-stage
returns-clause-stage g c = λ numbers p above have.
    let plan = c.args.terms.now.plan.now in
    let i = c.loop-g.invariant in
    stage_done (terms_of plan c.args.terms.now.tables.now.words.book) g.row.STAGE
    (depths_of c.args.marks.now) numbers plan.plane c.requires.some plan.low p i.keeps have.dcs
    (omega (arith, c.loop-g-test.false, c.div_ceil-g-end.ensures)) i.is_in (i.left numbers p above have)

pub returns-in_err-take_gaggle-clause-keeps : goal.returns-in_err-take_gaggle-clause-keeps
returns-in_err-take_gaggle-clause-keeps g c = slots_then c.loop-g.invariant.keeps c.in_err-take_gaggle.ensures.keeps

pub returns-in_default-clause-keeps : goal.returns-in_default-clause-keeps
returns-in_default-clause-keeps g c = let x = rw c.in_default.is at c.in_ok-take_gaggle.ensures in slots_then c.loop-g.invariant.keeps x.keeps
