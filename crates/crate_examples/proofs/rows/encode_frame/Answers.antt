use Rattle.std.proofs.Common.{◌≡◌, ◌+◌, sym, ap, subst, ◌∙◌, arith}
use Rattle.base_122.specs.Setting.{IsHeight}
use Rattle.crate_examples.proofs.RowsIn.{row_within, frame_row, known_height, none_given, last_row, end_made, all_given}
use Rattle.crate_examples.proofs.rows.encode_frame.Goals as goal

pub loop-row-init : goal.loop-row-init
loop-row-init g c = record {
  given = none_given c.args.setting.now _ (g.X.Port.outside c.args.port.now) c.start_image.new.work c.requires.in_range c.requires.known
      c.start_image.ensures.start;
  rows = c.start_image.ensures.start.taken.rows;
}

pub slice_bounds-hand_in-end : goal.slice_bounds-hand_in-end
slice_bounds-hand_in-end g c = row_within c.loop-row.row c.args.setting.now.rows c.args.setting.now.width c.args.frame.now c.loop-row-test.true c.requires.frame

pub loop-row-preserved : goal.loop-row-preserved
loop-row-preserved g c =
    let row = c.loop-row.invariant in
    let shows = frame_row c.loop-row.row c.args.setting.now.width _ c.args.frame.now row.rows in
    record {
      given = c.in-Ok.ensures.given _ _ row.given shows;
      rows = c.in-Ok.ensures.count ∙ ap (λ n. n + 1) row.rows;
    }

pub returns-in_default-clause-gave : goal.returns-in_default-clause-gave
returns-in_default-clause-gave g c =
    let row = c.loop-row.invariant in
    c.in_default.ensures.given _ _ row.given (frame_row c.loop-row.row c.args.setting.now.width _ c.args.frame.now row.rows)

pub returns-clause-made : goal.returns-clause-made
returns-clause-made g c = end_made c.args.setting.now _ _ _ c.loop-row.work c.image_end.new.work c.image_end.result c.image_end.ensures

pub returns-clause-gave : goal.returns-clause-gave
returns-clause-gave g c =
    all_given c.args.setting.now _ _ _ _ c.loop-row.work c.image_end.new.work c.image_end.result c.requires.in_range c.requires.known c.loop-row.invariant.given
    (let rows = c.loop-row.invariant.rows in omega (arith, rows, c.loop-row-test.false, c.loop-row.auto.row-end)) c.image_end.ensures

pub image_end-requires-clause-height : goal.image_end-requires-clause-height
image_end-requires-clause-height g c =
    let s = c.args.setting.now in
    let all : c.loop-row.work.at.rows ≡ s.rows = let rows = c.loop-row.invariant.rows in omega (arith, rows, c.loop-row-test.false, c.loop-row.auto.row-end) in
    subst (IsHeight s) (sym all) (known_height s c.requires.in_range c.requires.known)

pub image_end-requires-clause-values : goal.image_end-requires-clause-values
image_end-requires-clause-values g c =
    let s = c.args.setting.now in
    let all : c.loop-row.work.at.rows ≡ s.rows = let rows = c.loop-row.invariant.rows in omega (arith, rows, c.loop-row-test.false, c.loop-row.auto.row-end) in
    (last_row s _ _ _ c.loop-row.work c.requires.in_range c.requires.known c.loop-row.invariant.given all).0
