use Rattle.std.proofs.Common.{refl, ◌∙◌}
use Rattle.base_122.specs.Sizes.{padded_size}
use Rattle.strip_coder.specs.Plans.{plan_of, tallest}
use Rattle.strip_coder.proofs.PlanLaws.{tall_plan}
use Rattle.strip_coder.proofs.RowTakes.{padded_small, row_running, row_taken, row_breaks}
use Rattle.strip_coder.proofs.PaddedRows.{pads, long_as}
use Rattle.strip_coder.proofs.engine.row_in.Goals as goal

pub push-requires-clause-in_range : goal.push-requires-clause-in_range
push-requires-clause-in_range g c = rw c.tallest-plan.ensures (tall_plan c.args.setting.now c.requires.in_range)

pub push-requires-clause-running : goal.push-requires-clause-running
push-requires-clause-running g c = rw c.tallest-plan.ensures
    (row_running _ c.args.work.now _ (record { row = refl; strip = refl; blocks = refl; packets = refl; writer = refl; room = refl; at = refl })
    c.requires.taken.running)

pub push-requires-clause-small : goal.push-requires-clause-small
push-requires-clause-small g c =
    let s = c.args.setting.now in
    let w = c.args.work.now in
    let long = c.pad_row.auto.row ∙ c.deref_mut.ensures.len in
    rw c.tallest-plan.ensures
    (padded_small (plan_of s (tallest s)) (tall_plan s c.requires.in_range) w.row.items _
    (pads s.width w.row _ c.pad_row.new.row c.deref_mut.ensures.value long c.pad_row.ensures)
    (long_as w.row c.pad_row.new.row (padded_size s.width) long c.requires.taken.running.gathered.made.row) c.requires.values)

pub returns-in_default : goal.returns-in_default
returns-in_default g c =
    let s = c.args.setting.now in
    let w = c.args.work.now in
    let long = c.pad_row.auto.row ∙ c.deref_mut.ensures.len in
    row_breaks s c.requires.in_range w _ c.requires.taken c.requires.few (record {
      row = refl;
      strip = refl;
      blocks = refl;
      packets = refl;
      writer =
          refl;
      room = refl;
      at = refl;
    })
    (pads s.width w.row _ c.pad_row.new.row c.deref_mut.ensures.value long c.pad_row.ensures)
    (long_as w.row c.pad_row.new.row (padded_size s.width) long c.requires.taken.running.gathered.made.row) c.push.new.work
    (rw c.tallest-plan.ensures at c.in_default.ensures)

pub returns : goal.returns
returns g c =
    let s = c.args.setting.now in
    let w = c.args.work.now in
    let long = c.pad_row.auto.row ∙ c.deref_mut.ensures.len in
    row_taken s c.requires.in_range w _ c.requires.taken c.requires.few (record {
      row = refl;
      strip = refl;
      blocks = refl;
      packets = refl;
      writer =
          refl;
      room = refl;
      at = refl;
    })
    (pads s.width w.row _ c.pad_row.new.row c.deref_mut.ensures.value long c.pad_row.ensures)
    (long_as w.row c.pad_row.new.row (padded_size s.width) long c.requires.taken.running.gathered.made.row) c.push.new.work _
    (rw c.tallest-plan.ensures at c.in-Ok.ensures)
    (record { strip = refl; row = refl; blocks = refl; packets = refl; writer = refl; room = refl; rows = refl; filled = refl; index = refl; used = refl })
