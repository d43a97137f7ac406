use Rattle.std.proofs.Common.{refl}
use Rattle.strip122_c.specs.Lent.{outside_of}
use Rattle.strip122_c.proofs.Measures.{all_size, first_found, known_size, less_found, next_found, next_refused, no_segment, start_refused}
use Rattle.strip122_c.proofs.measure.find_size.Goals as goal

pub returns-in-Ok-None : goal.returns-in-Ok-None
returns-in-Ok-None c packets if_known =
    no_segment {old = outside_of c.args.port.now} (outside_of c.next_head.new.port) c.next_head.new.assembly c.requires.unread if_known
    (rw c.in-Ok-None.field-0-is at c.in-Ok-None.ensures)

pub returns-in-Err : goal.returns-in-Err
returns-in-Err c packets if_known =
    start_refused c.args.wish.now packets (outside_of c.args.port.now) (outside_of c.next_head.new.port) c.args.assembly.now c.next_head.new.assembly
    c.in-Err.refusal c.requires.unread if_known c.in-Err.ensures

pub returns-then-found-ne0 : goal.returns-then-found-ne0
returns-then-found-ne0 c packets if_known =
    known_size c.in-Ok-Some.first
    (first_found {wish = c.args.wish.now} {old = outside_of c.args.port.now} {new = outside_of c.next_head.new.port} {a = c.args.assembly.now} {b =
    c.next_head.new.assembly} c.in-Ok-Some.first c.requires.unread if_known (rw c.in-Ok-Some.field-0-is at c.in-Ok-Some.ensures))
    c.if-found-ne0.true

pub heads-init : goal.heads-init
heads-init c packets if_known = (
  c.in-Ok-Some.first.geometry,
  first_found {wish = c.args.wish.now} {old = outside_of c.args.port.now} {new = outside_of c.next_head.new.port} {a = c.args.assembly.now} {b =
      c.next_head.new.assembly} c.in-Ok-Some.first c.requires.unread if_known (rw c.in-Ok-Some.field-0-is at c.in-Ok-Some.ensures),
  c.if-found-ne0.false,
)

pub heads-smaller : goal.heads-smaller
heads-smaller c =
    let h = c.heads.invariant _ refl in
    less_found {wish = c.args.wish.now} {old = outside_of c.heads.port} {new = outside_of c.next_head-in-heads.new.port} {a = c.heads.assembly} {b =
    c.next_head-in-heads.new.assembly} {m = c.in-Ok-Some-next_head.next} h.1.head.heads
    (rw c.in-Ok-Some-next_head.field-0-is at c.in-Ok-Some-next_head.ensures)

pub heads-preserved : goal.heads-preserved
heads-preserved c packets if_known =
    let h = c.heads.invariant packets if_known in (
      h.0,
      next_found {wish = c.args.wish.now} {old = outside_of c.heads.port} {new = outside_of c.next_head-in-heads.new.port} {a = c.heads.assembly} {b =
          c.next_head-in-heads.new.assembly} c.heads.found c.in-Ok-Some-next_head.next h.0 h.1
          (rw c.in-Ok-Some-next_head.field-0-is at c.in-Ok-Some-next_head.ensures),
      h.2,
    )

pub returns-in-Ok-None-next_head : goal.returns-in-Ok-None-next_head
returns-in-Ok-None-next_head c packets if_known =
    let h = c.heads.invariant packets if_known in
    all_size {wish = c.args.wish.now} {old = outside_of c.heads.port} {a = c.heads.assembly} (outside_of c.next_head-in-heads.new.port)
    c.next_head-in-heads.new.assembly c.heads.found h.1.head
    (rw c.in-Ok-None-next_head.field-0-is at c.in-Ok-None-next_head.ensures)

pub returns-in-Err-next_head : goal.returns-in-Err-next_head
returns-in-Err-next_head c packets if_known =
    let h = c.heads.invariant packets if_known in
    next_refused {wish = c.args.wish.now} {old = outside_of c.heads.port} {a = c.heads.assembly} (outside_of c.next_head-in-heads.new.port)
    c.next_head-in-heads.new.assembly c.heads.found h.0 c.in-Err-next_head.refusal h.1 h.2 c.in-Err-next_head.ensures
