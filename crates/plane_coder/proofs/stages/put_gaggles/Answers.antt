use Rattle.std.proofs.Common.{◌≡◌, ◌<◌, ap, ◌∙◌, sym, subst, arith}
use Rattle.block_masks.specs.declared.gaggle.Gaggle.{Gaggle}
use Rattle.std.proofs.lemmas.Bool.{OnTrue_at}
use Rattle.std.proofs.lemmas.Result.{err_from_is_err_and}
use Rattle.std.proofs.lemmas.Grind.{common_steps}
use Rattle.plane_defs.specs.Planes.{gaggles, gaggle_items, before_stage}
use Rattle.plane_defs.specs.Marks.{depths_of}
use Rattle.block_masks.specs.Gaggles.{Agrees, options_at}
use Rattle.plane_coder.specs.Kept.{free_at, Keeps}
use Rattle.plane_coder.specs.Views.{plane_in}
use Rattle.block_masks.proofs.Marking.{length-depths_of}
use Rattle.block_masks.proofs.Marking.{same_marks, same_stored}
use Rattle.block_masks.proofs.Agreeing.{none_agree, more_agree, all_agree}
use Rattle.plane_coder.proofs.Sending.{none_put, more_put, put_ended, put_whole, stage_has_items, stage_in_plane}
use Rattle.plane_coder.proofs.KeptBits.{kept_moved}
use Rattle.plane_coder.proofs.Quiet.{quiet_puts, quiet_agree}
use Rattle.plane_coder.proofs.stages.put_gaggles.Goals as goal

pub returns-then-is_quiet : goal.returns-then-is_quiet
returns-then-is_quiet g c =
    let view = c.args.view.now in
    let m0 = c.args.marks.now in
    let p = plane_in view (depths_of m0) in
    let quiet = OnTrue_at c.if-is_quiet.true c.is_quiet.ensures in
    record {
      puts = quiet_puts p quiet.1 view.tables.now.book (options_at m0) g.row.STAGE _ quiet.0 c.requires.open;
      is_open = c.requires.open;
      agree = quiet_agree p quiet.1 m0 g.row.STAGE quiet.0 c.requires.agree;
      kept = same_marks m0;
    }

pub loop-g-init : goal.loop-g-init
loop-g-init g c = grind (arith, common_steps, none_put, same_marks, none_agree)

pub put_gaggle-requires-clause-kept : goal.put_gaggle-requires-clause-kept
put_gaggle-requires-clause-kept g c full =
    let view = c.args.view.now in
    let m1 = c.loop-g.marks in
    let below : c.loop-g.g < gaggles (plane_in view (depths_of m1)) =
    omega (arith, c.div_ceil-g-end.ensures, c.loop-g-test.true, length-depths_of m1, c.loop-g.invariant.same.whole) in
    let options = ap (λ (h : Gaggle). h.options) c.new-pending.ensures.gaggle ∙ c.load.ensures.options in
    subst (λ o. Keeps view.tables.now.book o (plane_in view (depths_of m1)) c.loop-g.g (free_at view.kept.now c.loop-g.g)) (sym options)
    ((kept_moved view view.tables.now.book c.args.marks.now m1 c.loop-g.invariant.same c.requires.bits).at c.loop-g.g below full)

pub loop-g-preserved : goal.loop-g-preserved
loop-g-preserved g c =
    let i = c.loop-g.invariant in
    let view = c.args.view.now in
    let book = view.tables.now.book in
    let m0 = c.args.marks.now in
    let p = plane_in view (depths_of m0) in
    let n = c.loop-g.g in
    let below : n < gaggles p = omega (arith, c.div_ceil-g-end.ensures, c.loop-g-test.true, length-depths_of m0) in
    let gaggle = c.new-pending.ensures.gaggle in
    let options = ap (λ (h : Gaggle). h.options) gaggle ∙ c.load.ensures.options ∙ i.same.options n in
    let agrees = subst (λ f. Agrees f (before_stage p g.row.STAGE n)) (sym (ap (λ (h : Gaggle). h.sent) gaggle ∙ c.load.ensures.sent))
    (i.agree.todo n (omega arith) below) in
    let s = stage_in_plane view i.same.depths c.in_ok-put_gaggle.ensures in
    let put = stage_has_items (options_at m0) options agrees s in
    record {
      so_far = more_put (gaggle_items book (options_at m0) p g.row.STAGE) n i.so_far put.ends;
      is_open = s.is_open;
      same = same_stored m0 c.loop-g.marks _ n _ i.same c.store.ensures (s.options ∙ ap (λ (h : Gaggle). h.options) gaggle ∙ c.load.ensures.options);
      agree = more_agree p g.row.STAGE c.loop-g.marks _ n _ i.agree c.store.ensures (s.agrees agrees);
    }

pub returns-in_err-put_gaggle : goal.returns-in_err-put_gaggle
returns-in_err-put_gaggle g c =
    let e = err_from_is_err_and c.from_residual.result c.from_residual.ensures.1 in
    let i = c.loop-g.invariant in
    let view = c.args.view.now in
    let book = view.tables.now.book in
    let m0 = c.args.marks.now in
    let p = plane_in view (depths_of m0) in
    let n = c.loop-g.g in
    let below : n < gaggles p = omega (arith, c.div_ceil-g-end.ensures, c.loop-g-test.true, length-depths_of m0) in
    let gaggle = c.new-pending.ensures.gaggle in
    let options = ap (λ (h : Gaggle). h.options) gaggle ∙ c.load.ensures.options ∙ i.same.options n in
    let agrees = subst (λ f. Agrees f (before_stage p g.row.STAGE n)) (sym (ap (λ (h : Gaggle). h.sent) gaggle ∙ c.load.ensures.sent))
    (i.agree.todo n (omega arith) below) in
    let s = stage_in_plane view i.same.depths c.in_err-put_gaggle.ensures in
    let put = stage_has_items (options_at m0) options agrees s in
    rw (e.1, e.2) (record {
      puts = put_ended (gaggle_items book (options_at m0) p g.row.STAGE) n (gaggles p) below i.so_far put;
      is_open = tt;
      agree = tt;
      kept = i.same;
    })

pub returns : goal.returns
returns g c =
    let i = c.loop-g.invariant in
    let m0 = c.args.marks.now in
    let p = plane_in c.args.view.now (depths_of m0) in
    let all : c.loop-g.g ≡ gaggles p = omega (arith, c.div_ceil-g-end.ensures, c.loop-g-test.false, c.loop-g.auto.g-end, length-depths_of m0) in
    record {
      puts = put_whole (gaggle_items c.args.view.now.tables.now.book (options_at m0) p g.row.STAGE) c.loop-g.g (gaggles p) all i.so_far;
      is_open = i.is_open;
      agree = all_agree p g.row.STAGE c.loop-g.marks c.loop-g.g (omega (arith, all)) i.agree;
      kept = i.same;
    }
