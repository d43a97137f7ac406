use Rattle.std.proofs.Common.{refl, subst, ◌≡◌, ◌*◌, ◌^◌, arith}
use Rattle.base_122.specs.Sizes.{padded_size}
use Rattle.wave_defs.specs.Held.{signal}
use Rattle.wave_defs.specs.Within.{AllWithin}
use Rattle.wave_strip.specs.Strip.{rows_of, columns_of, answered_of}
use Rattle.strip_coder.specs.Plans.{job_of}
use Rattle.strip_coder.proofs.RowPushes.{it_came, none_came, pushed_none, pushed_some}
use Rattle.strip_coder.proofs.engine.push.Goals as goal

pub push_row-came-requires-clause-bounded : goal.push_row-came-requires-clause-bounded
push_row-came-requires-clause-bounded g c =
    let s = job_of g.S.SegmentOut.form c.args.plan.now in
    let w = c.args.work.now in
    let columns : padded_size s.setting.width ≡ 8 * columns_of w.strip = (let made = c.requires.running.gathered.made.strip in omega (arith, made)) in
    rw c.deref.ensures.value (subst (λ n. AllWithin (2 ^ 16) n (signal w.row.items)) columns c.requires.small)

pub gather_row-requires-clause-valid : goal.gather_row-requires-clause-valid
gather_row-requires-clause-valid g c =
    let e = c.push_row-came.ensures in
    (it_came c.push_row-came.result c.push_row-came.new.self (answered_of c.push_row-came.new.self) c.if-is_none.ensures e.answer e.current).valid

pub returns-then-is_none : goal.returns-then-is_none
returns-then-is_none g c =
    let s = job_of g.S.SegmentOut.form c.args.plan.now in
    let w = c.args.work.now in
    let e = c.push_row-came.ensures in
    pushed_none s c.requires.in_range w _ c.requires.running c.requires.few
    (record { row = refl; blocks = refl; packets = refl; writer = refl; room = refl; at = refl })
    (record {
      columns = e.columns;
      rows = e.rows;
      running = e.running;
      answered = e.answered;
      follows = rw c.deref.ensures.value at e.follows;
      shows =
          e.shows;
    })
    (none_came c.push_row-came.result (rows_of c.push_row-came.new.self) c.if-is_none.ensures e.answer)

pub returns : goal.returns
returns g c =
    let s = job_of g.S.SegmentOut.form c.args.plan.now in
    let w = c.args.work.now in
    let e = c.push_row-came.ensures in
    pushed_some s c.requires.in_range w _ c.requires.running c.requires.few
    (record { row = refl; blocks = refl; packets = refl; writer = refl; room = refl; at = refl })
    (record {
      columns = e.columns;
      rows = e.rows;
      running = e.running;
      answered = e.answered;
      follows = rw c.deref.ensures.value at e.follows;
      shows =
          e.shows;
    })
    (it_came c.push_row-came.result c.push_row-came.new.self (answered_of c.push_row-came.new.self) c.if-is_none.ensures e.answer e.current)
    (g.X.Port.outside c.args.port.now) (g.X.Port.outside c.gather_row.new.port) c.gather_row.result c.gather_row.new.work c.gather_row.ensures
