use Rattle.std.proofs.Common.{arith, refl, sym, ap, ◌∙◌}
use Rattle.std.proofs.lemmas.List.{with_items_is}
use Rattle.wave_defs.specs.Held.{signal}
use Rattle.strip_coder.proofs.PlanLaws.{tall_height}
use Rattle.strip_coder.proofs.RowTakes.{row_running}
use Rattle.strip_coder.proofs.RowArrives.{row_holds, row_values, row_lacks, row_ends, row_arrives, row_breaks_off}
use Rattle.strip_coder.proofs.rows.take_row.Goals as goal

pub row_fault-requires-clause-row : goal.row_fault-requires-clause-row
row_fault-requires-clause-row g c = let most = (tall_height c.args.setting.now c.requires.in_range).0.1 in let few = c.requires.few in omega (arith, few, most)

pub returns-in-Err-clause-row : goal.returns-in-Err-clause-row
returns-in-Err-clause-row g c start arrived =
    rw c.row_fault.ensures
    (row_lacks c.args.setting.now c.requires.in_range c.args.work.now.at.rows start (g.X.Port.outside c.args.port.now) c.args.work.now c.requires.few arrived
    c.deref_mut.result.now c.read_row.new.into c.in-Err.fault c.in-Err.ensures (sym c.ends_here.ensures ∙ c.if-ends_here.false))

pub returns-then-ends_here-clause-row : goal.returns-then-ends_here-clause-row
returns-then-ends_here-clause-row g c start arrived =
    let s = c.args.setting.now in
    let w = c.args.work.now in
    let t = c.requires.taken in
    let long = c.read_row.auto.into ∙ c.deref_mut.ensures.len in
    row_ends s c.requires.in_range w.at.rows start (g.X.Port.outside c.args.port.now) w c.requires.few arrived _ c.deref_mut.result.now c.read_row.new.into
    c.in-Err.fault c.in-Err.ensures
    (sym c.ends_here.ensures ∙ c.if-ends_here.true) (record { row = refl; strip = refl; blocks = refl; packets = refl; writer = refl; room = refl; at = refl })
    (record {
      running = row_running _ w _ (record { row = refl; strip = refl; blocks = refl; packets = refl; writer = refl; room = refl; at = refl })
          t.running;
      rows = t.rows;
      strip_rows = t.strip_rows;
      index = t.index;
    })
    (λ j. ap (λ xs. signal xs j) (with_items_is w.row c.read_row.new.into long)) (λ j. ap (λ xs. signal xs j) c.deref_mut.ensures.value)

pub row_in-requires-clause-values : goal.row_in-requires-clause-values
row_in-requires-clause-values g c =
    let s = c.args.setting.now in
    let read = c.in_default.ensures in
    row_values s read.took _ read.answer.1 (row_holds s read.took c.args.work.now.row c.deref_mut.result.now c.read_row.new.into
    (c.read_row.auto.into ∙ c.deref_mut.ensures.len) read.answer.2)

pub returns-in_default-row_in-clause-row : goal.returns-in_default-row_in-clause-row
returns-in_default-row_in-clause-row g c start arrived =
    let s = c.args.setting.now in
    let w = c.args.work.now in
    let read = c.in_default.ensures in
    row_breaks_off s c.requires.in_range w.at.rows start (g.X.Port.outside c.args.port.now) w c.requires.few arrived _ (g.X.Port.outside c.read_row.new.port)
    read.took read.since
    (record { row = refl; strip = refl; blocks = refl; packets = refl; writer = refl; room = refl; at = refl }) read.answer.0 read.answer.1
    (row_holds s read.took w.row c.deref_mut.result.now c.read_row.new.into (c.read_row.auto.into ∙ c.deref_mut.ensures.len) read.answer.2)
    c.row_in.new.work c.in_default-row_in.ensures

pub returns-clause-row : goal.returns-clause-row
returns-clause-row g c start arrived =
    let s = c.args.setting.now in
    let w = c.args.work.now in
    let read = c.in_default.ensures in
    row_arrives s c.requires.in_range w.at.rows start (g.X.Port.outside c.args.port.now) w c.requires.few arrived _ (g.X.Port.outside c.read_row.new.port)
    read.took read.since
    (record { row = refl; strip = refl; blocks = refl; packets = refl; writer = refl; room = refl; at = refl }) read.answer.0 read.answer.1
    (row_holds s read.took w.row c.deref_mut.result.now c.read_row.new.into (c.read_row.auto.into ∙ c.deref_mut.ensures.len) read.answer.2)
    c.row_in.new.work c.in-Ok.ensures
