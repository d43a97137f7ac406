use Rattle.std.proofs.Common.{refl, ◌∙◌}
use Rattle.base_122.specs.Sizes.{padded_size}
use Rattle.strip_coder.specs.Plans.{plan_of}
use Rattle.strip_coder.proofs.RowTakes.{padded_small, row_running}
use Rattle.strip_coder.proofs.PaddedRows.{pads, long_as}
use Rattle.strip_coder.proofs.ImageEnds.{all_running, all_follows, image_ends, image_breaks}
use Rattle.strip_coder.proofs.engine.image_end.Goals as goal

pub write_rest-requires-clause-in_range : goal.write_rest-requires-clause-in_range
write_rest-requires-clause-in_range g c = rw c.new-plan.ensures (record { in_range = c.requires.in_range; height = c.requires.height })

pub write_rest-requires-clause-running : goal.write_rest-requires-clause-running
write_rest-requires-clause-running g c =
    rw c.new-plan.ensures (row_running _ c.args.work.now _ (record {
      row = refl;
      strip = refl;
      blocks = refl;
      packets = refl;
      writer = refl;
      room =
          refl;
      at = refl;
    }) (all_running c.args.setting.now c.args.work.now.at.rows c.args.work.now c.requires.in_range c.requires.height c.requires.taken))

pub write_rest-requires-clause-rows : goal.write_rest-requires-clause-rows
write_rest-requires-clause-rows g c = rw c.new-plan.ensures c.requires.taken.strip_rows

pub write_rest-requires-clause-small : goal.write_rest-requires-clause-small
write_rest-requires-clause-small g c =
    let s = c.args.setting.now in
    let w = c.args.work.now in
    let long = c.pad_row.auto.row ∙ c.deref_mut.ensures.len in
    rw c.new-plan.ensures
    (padded_small (plan_of s w.at.rows) (record { in_range = c.requires.in_range; height = c.requires.height }) w.row.items _
    (pads s.width w.row _ c.pad_row.new.row c.deref_mut.ensures.value long c.pad_row.ensures)
    (long_as w.row c.pad_row.new.row (padded_size s.width) long c.requires.taken.running.gathered.made.row) c.requires.values)

pub done_so_far-requires : goal.done_so_far-requires
done_so_far-requires g c = rw c.new-plan.ensures (record { in_range = c.requires.in_range; height = c.requires.height })

pub returns-in_default : goal.returns-in_default
returns-in_default g c =
    let s = c.args.setting.now in
    let w = c.args.work.now in
    let long = c.pad_row.auto.row ∙ c.deref_mut.ensures.len in
    image_breaks s w.at.rows (record { in_range = c.requires.in_range; height = c.requires.height }) w _
    (record { row = refl; strip = refl; blocks = refl; packets = refl; writer = refl; room = refl; at = refl })
    (pads s.width w.row _ c.pad_row.new.row c.deref_mut.ensures.value long c.pad_row.ensures)
    (long_as w.row c.pad_row.new.row (padded_size s.width) long c.requires.taken.running.gathered.made.row)
    (all_follows s w.at.rows w c.requires.in_range c.requires.height c.requires.taken) c.write_rest.new.work (rw c.new-plan.ensures at c.in_default.ensures)

pub returns : goal.returns
returns g c =
    let s = c.args.setting.now in
    let w = c.args.work.now in
    let long = c.pad_row.auto.row ∙ c.deref_mut.ensures.len in
    image_ends s w.at.rows (record { in_range = c.requires.in_range; height = c.requires.height }) w _
    (record { row = refl; strip = refl; blocks = refl; packets = refl; writer = refl; room = refl; at = refl })
    (pads s.width w.row _ c.pad_row.new.row c.deref_mut.ensures.value long c.pad_row.ensures)
    (long_as w.row c.pad_row.new.row (padded_size s.width) long c.requires.taken.running.gathered.made.row)
    (all_follows s w.at.rows w c.requires.in_range c.requires.height c.requires.taken) c.write_rest.new.work c.done_so_far.result
    (rw c.new-plan.ensures at c.in-Ok.ensures) (rw c.new-plan.ensures at c.done_so_far.ensures)
