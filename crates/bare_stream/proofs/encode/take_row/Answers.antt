use Rattle.std.proofs.Common.{refl, ◌∙◌, arith}
use Rattle.std.specs.Vec.{with_items}
use Rattle.base_122.specs.Sizes.{padded_size}
use Rattle.strip_coder.proofs.PaddedRows.{pads, long_as}
use Rattle.strip_coder.proofs.RowArrives.{row_holds, row_values}
use Rattle.strip_coder.proofs.RowTakes.{padded_small, row_running}
use Rattle.bare_stream.specs.Works.{job}
use Rattle.bare_stream.proofs.Counts.{is_plan, rows_in}
use Rattle.bare_stream.proofs.Arrives.{row_lacks, row_arrived, row_broken}
use Rattle.bare_stream.proofs.encode.take_row.Goals as goal

pub row_fault-requires-clause-row : goal.row_fault-requires-clause-row
row_fault-requires-clause-row g c =
    let most = (rows_in c.args.setting.now c.requires.bare).1 in
    let few = c.requires.few in
    omega (arith, few, most)

pub returns-in-Err-clause-row : goal.returns-in-Err-clause-row
returns-in-Err-clause-row g c start arrived =
    rw c.row_fault.ensures
    (row_lacks c.args.setting.now c.requires.bare c.args.row start (g.X.Port.outside c.args.port.now) c.args.work.now c.requires.few arrived
    _ _ c.in-Err.fault c.in-Err.ensures)

pub push-requires-clause-in_range : goal.push-requires-clause-in_range
push-requires-clause-in_range g c = rw c.new-plan.ensures (is_plan c.args.setting.now c.requires.bare)

pub push-requires-clause-running : goal.push-requires-clause-running
push-requires-clause-running g c =
    rw c.new-plan.ensures (row_running (job c.args.setting.now) c.args.work.now _ (record {
      row = refl;
      strip = refl;
      blocks = refl;
      packets = refl;
      writer = refl;
      room = refl;
      at = refl;
    }) c.requires.running)

pub push-requires-clause-few : goal.push-requires-clause-few
push-requires-clause-few g c = rw c.new-plan.ensures (omega (arith, c.requires.rows, c.requires.few))

pub push-requires-clause-small : goal.push-requires-clause-small
push-requires-clause-small g c =
    let s = c.args.setting.now in
    let w = c.args.work.now in
    let read = c.in_default.ensures in
    let long = c.pad_row.auto.row ∙ c.deref_mut-2.ensures.len in
    let holds = row_holds s read.took w.row c.deref_mut.result.now c.read_row.new.into (c.read_row.auto.into ∙ c.deref_mut.ensures.len) read.answer.2 in
    rw c.new-plan.ensures
    (padded_small (job s) (is_plan s c.requires.bare) _ _ (pads s.width (with_items w.row c.read_row.new.into) c.deref_mut-2.result.now c.pad_row.new.row
    c.deref_mut-2.ensures.value long c.pad_row.ensures)
    (long_as (with_items w.row c.read_row.new.into) c.pad_row.new.row (padded_size s.width) long c.requires.running.gathered.made.row)
    (row_values s read.took _ read.answer.1 holds))

pub returns-in_default-push-clause-row : goal.returns-in_default-push-clause-row
returns-in_default-push-clause-row g c start arrived =
    let s = c.args.setting.now in
    let w = c.args.work.now in
    let read = c.in_default.ensures in
    let long = c.pad_row.auto.row ∙ c.deref_mut-2.ensures.len in
    let holds = row_holds s read.took w.row c.deref_mut.result.now c.read_row.new.into (c.read_row.auto.into ∙ c.deref_mut.ensures.len) read.answer.2 in
    row_broken s c.requires.bare c.args.row start (g.X.Port.outside c.args.port.now) w c.requires.few arrived _ (g.X.Port.outside c.read_row.new.port)
    read.took _
    (record { row = refl; strip = refl; blocks = refl; packets = refl; writer = refl; room = refl; at = refl }) read.since read.answer.0 read.answer.1 holds
    (pads s.width (with_items w.row c.read_row.new.into) c.deref_mut-2.result.now c.pad_row.new.row c.deref_mut-2.ensures.value long c.pad_row.ensures)
    (long_as (with_items w.row c.read_row.new.into) c.pad_row.new.row (padded_size s.width) long c.requires.running.gathered.made.row)
    c.push.new.work (rw c.new-plan.ensures at c.in_default-push.ensures)

pub returns-clause-row : goal.returns-clause-row
returns-clause-row g c start arrived =
    let s = c.args.setting.now in
    let w = c.args.work.now in
    let read = c.in_default.ensures in
    let long = c.pad_row.auto.row ∙ c.deref_mut-2.ensures.len in
    let holds = row_holds s read.took w.row c.deref_mut.result.now c.read_row.new.into (c.read_row.auto.into ∙ c.deref_mut.ensures.len) read.answer.2 in
    row_arrived s c.requires.bare c.args.row start (g.X.Port.outside c.args.port.now) w c.requires.few arrived _ (g.X.Port.outside c.read_row.new.port)
    read.took _
    (record { row = refl; strip = refl; blocks = refl; packets = refl; writer = refl; room = refl; at = refl }) read.since read.answer.0 read.answer.1 holds
    (pads s.width (with_items w.row c.read_row.new.into) c.deref_mut-2.result.now c.pad_row.new.row c.deref_mut-2.ensures.value long c.pad_row.ensures)
    (long_as (with_items w.row c.read_row.new.into) c.pad_row.new.row (padded_size s.width) long c.requires.running.gathered.made.row)
    c.push.new.work (rw c.new-plan.ensures at c.in-Ok.ensures)
