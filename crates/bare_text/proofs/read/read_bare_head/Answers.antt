use Rattle.std.proofs.Common.{refl}
use Rattle.std.proofs.lemmas.Result.{err_from_is_err_and}
use Rattle.bare_text.proofs.HeadTaken.{start_failed, start_short, part_missing, later_failed, later_short, has_length, head_refused, head_taken}
use Rattle.bare_text.proofs.read.read_bare_head.Goals as goal

pub returns-then-count-lt3-clause-reads : goal.returns-then-count-lt3-clause-reads
returns-then-count-lt3-clause-reads g c =
    rw c.short.ensures (start_short g.I.OctetIn.source c.args.parts.now c.args.input.now c.fill.new.input _ c.fill.new.into c.in_ok-count.count
    c.in_ok-count.ensures c.if-count-lt3.true c.args.parts.now)

pub returns-in_err-count-clause-reads : goal.returns-in_err-count-clause-reads
returns-in_err-count-clause-reads g c =
    let p = err_from_is_err_and c.from_residual.result c.from_residual.ensures.1 in
    rw (p.1, p.2) (start_failed g.I.OctetIn.source c.args.parts.now c.args.input.now c.fill.new.input _ c.fill.new.into _ c.in_err-count.ensures
    c.args.parts.now)

pub returns-in_err-check_carried-clause-reads : goal.returns-in_err-check_carried-clause-reads
returns-in_err-check_carried-clause-reads g c =
    let p = err_from_is_err_and c.from_residual-in_err-check_carried.result c.from_residual-in_err-check_carried.ensures.1 in
    rw (p.1, p.2) (part_missing g.I.OctetIn.source c.args.parts.now c.args.input.now c.fill.new.input _ c.fill.new.into c.in_ok-count.count
    c.in_ok-count.ensures c.if-count-lt3.false _ c.in_err-check_carried.ensures c.args.parts.now)

pub returns-in_err-count-2-clause-reads : goal.returns-in_err-count-2-clause-reads
returns-in_err-count-2-clause-reads g c =
    let p = err_from_is_err_and c.from_residual-in_err-count-2.result c.from_residual-in_err-count-2.ensures.1 in
    rw (p.1, p.2) (
    later_failed g.I.OctetIn.source c.args.parts.now c.args.input.now c.fill.new.input _ c.fill.new.into c.in_ok-count.count c.in_ok-count.ensures
    c.if-count-lt3.false c.fill-2.new.input c.fill-2.new.into _ _ c.bare_length-size.ensures
    c.in_ok-check_carried.ensures c.in_err-count-2.ensures _ refl c.args.parts.now
    )

pub returns-then-count-size-clause-reads : goal.returns-then-count-size-clause-reads
returns-then-count-size-clause-reads g c =
    rw c.short-then-count-size.ensures (
    later_short g.I.OctetIn.source c.args.parts.now c.args.input.now c.fill.new.input _ c.fill.new.into c.in_ok-count.count c.in_ok-count.ensures
    c.if-count-lt3.false c.fill-2.new.input c.fill-2.new.into _ _ c.bare_length-size.ensures
    c.in_ok-check_carried.ensures c.in_ok-count-2.ensures c.in_ok-count-2.count refl c.if-count-size.true c.args.parts.now
    )

pub after-after-requires-clause-whole : goal.after-after-requires-clause-whole
after-after-requires-clause-whole g c =
    has_length g.I.OctetIn.source c.args.parts.now c.args.input.now c.fill.new.input _ c.fill.new.into c.in_ok-count.count c.in_ok-count.ensures
    c.if-count-lt3.false c.fill-2.new.input c.fill-2.new.into _ _ c.bare_length-size.ensures
    c.in_ok-check_carried.ensures c.in_ok-count-2.ensures c.in_ok-count-2.count refl c.if-count-size.false

pub read_completed-requires-clause-whole : goal.read_completed-requires-clause-whole
read_completed-requires-clause-whole g c =
    has_length g.I.OctetIn.source c.args.parts.now c.args.input.now c.fill.new.input _ c.fill.new.into c.in_ok-count.count c.in_ok-count.ensures
    c.if-count-lt3.false c.fill-2.new.input c.fill-2.new.into _ _ c.bare_length-size.ensures
    c.in_ok-check_carried.ensures c.in_ok-count-2.ensures c.in_ok-count-2.count refl c.if-count-size.false

pub returns-in_err-head-clause-reads : goal.returns-in_err-head-clause-reads
returns-in_err-head-clause-reads g c =
    let p = err_from_is_err_and c.from_residual-in_err-head.result c.from_residual-in_err-head.ensures.1 in
    rw (p.1, p.2) (
    head_refused g.I.OctetIn.source c.args.parts.now c.args.input.now c.fill.new.input _ c.fill.new.into c.in_ok-count.count c.in_ok-count.ensures
    c.if-count-lt3.false c.fill-2.new.input c.fill-2.new.into _ _ c.bare_length-size.ensures
    c.in_ok-check_carried.ensures c.in_ok-count-2.ensures c.in_ok-count-2.count refl c.if-count-size.false c.after-after.result
    c.after-after.ensures.sixteen c.after-after.ensures.parts _ c.in_err-head.ensures.value c.args.parts.now
    )

pub returns-clause-reads : goal.returns-clause-reads
returns-clause-reads g c =
    head_taken g.I.OctetIn.source c.args.parts.now c.args.input.now c.fill.new.input _ c.fill.new.into c.in_ok-count.count c.in_ok-count.ensures
    c.if-count-lt3.false c.fill-2.new.input c.fill-2.new.into _ _ c.bare_length-size.ensures
    c.in_ok-check_carried.ensures c.in_ok-count-2.ensures c.in_ok-count-2.count refl c.if-count-size.false c.after-after.result c.after-after.ensures.parts
    c.in_ok-head.head c.in_ok-head.ensures.value
