use Rattle.std.proofs.Common.{◌≡◌, ◌+◌, ◌<◌, ◌∙◌, sym, arith}
use Rattle.std.proofs.lemmas.Result.{err_from_is_err_and}
use Rattle.std.proofs.lemmas.Grind.{common_steps}
use Rattle.plane_defs.specs.Planes.{stage_items}
use Rattle.plane_defs.specs.Marks.{depths_of}
use Rattle.block_masks.specs.Gaggles.{options_at}
use Rattle.plane_coder.specs.Views.{plane_in}
use Rattle.block_masks.proofs.Marking.{same_marks, same_then, known_same}
use Rattle.plane_coder.proofs.KeptBits.{kept_by, kept_moved}
use Rattle.plane_coder.proofs.Sending.{gaggle_below, none_put, more_put, put_ended, put_whole, chosen_agree, chosen_known, agree_moved, agree_back}
use Rattle.plane_coder.proofs.Sending.{stage_then, plane_whole}
use Rattle.plane_coder.proofs.plane.put_stages.Goals as goal

pub loop-number-init : goal.loop-number-init
loop-number-init g c = grind (arith, common_steps, none_put, same_marks, chosen_agree, chosen_known)

pub put_stage-requires-clause-agree : goal.put_stage-requires-clause-agree
put_stage-requires-clause-agree g c = agree_back c.args.view.now c.args.marks.now c.loop-number.marks c.loop-number.marks c.loop-number.number
    c.loop-number.invariant.same c.loop-number.invariant.agree

pub put_stage-requires-clause-bits : goal.put_stage-requires-clause-bits
put_stage-requires-clause-bits g c =
    let view = c.args.view.now in
    let m0 = c.args.marks.now in
    kept_moved view view.tables.now.book m0 c.loop-number.marks c.loop-number.invariant.same
    (kept_by (λ h below. sym (c.requires.chosen.each h (gaggle_below m0 h below)).options) c.requires.kept)

pub loop-number-preserved : goal.loop-number-preserved
loop-number-preserved g c =
    let i = c.loop-number.invariant in
    let p = c.in_ok-put_stage.ensures in
    let view = c.args.view.now in
    let m1 = c.args.marks.now in
    let m2 = c.loop-number.marks in
    let put = stage_then view view.tables.now.book m1 m2 c.loop-number.number i.same p.puts in
    record {
      so_far = more_put (stage_items view.tables.now.book (options_at m1) (plane_in view (depths_of m1))) c.loop-number.number i.so_far put.ends;
      is_open = p.is_open;
      same = same_then m1 m2 _ i.same p.kept;
      agree = agree_moved view m1 m2 _ (c.loop-number.number + 1) i.same p.agree;
      known = known_same m2 _ p.kept i.known;
    }

pub returns-in_err-put_stage : goal.returns-in_err-put_stage
returns-in_err-put_stage g c =
    let e = err_from_is_err_and c.from_residual.result c.from_residual.ensures.1 in
    let i = c.loop-number.invariant in
    let p = c.in_err-put_stage.ensures in
    let view = c.args.view.now in
    let m1 = c.args.marks.now in
    let m2 = c.loop-number.marks in
    let below : c.loop-number.number < c.args.last + 1 = omega (arith, c.loop-number-test.true) in
    let put = stage_then view view.tables.now.book m1 m2 c.loop-number.number i.same p.puts in
    let whole = put_ended (stage_items view.tables.now.book (options_at m1) (plane_in view (depths_of m1))) c.loop-number.number (c.args.last + 1) below
    i.so_far put in
    let items = plane_whole view m1 c.args.last c.requires.chosen in
    rw (e.1, e.2) (record {
      puts = rw (← items) whole;
      depths = p.kept.depths ∙ i.same.depths;
    })

pub returns : goal.returns
returns g c =
    let i = c.loop-number.invariant in
    let view = c.args.view.now in
    let m1 = c.args.marks.now in
    let all : c.loop-number.number ≡ c.args.last + 1 = omega (arith, c.loop-number-test.false, c.loop-number.auto.number-end) in
    let whole = put_whole (stage_items view.tables.now.book (options_at m1) (plane_in view (depths_of m1))) c.loop-number.number (c.args.last + 1) all
    i.so_far in
    record { puts = rw (← plane_whole view m1 c.args.last c.requires.chosen) whole; depths = i.same.depths }
