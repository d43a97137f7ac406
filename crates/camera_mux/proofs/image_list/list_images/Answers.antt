use Rattle.std.proofs.Common.{length, ap, ◌∙◌, arith}
use Rattle.camera_mux.proofs.ImageRuns.{none_tabled, can_take, less_passed, passed_one}
use Rattle.camera_mux.proofs.ImageEndings.{all_informed, write_failed, info_failed}
use Rattle.camera_mux.proofs.image_list.list_images.Goals as goal

pub packets-init : goal.packets-init
packets-init g c = none_tabled c.args.wish.now (g.X.Port.outside c.args.port.now) c.in-Ok.reader c.in-Ok-new.table.entries.items c.in-Ok.ensures
    c.in-Ok-new.ensures

pub take_next-requires : goal.take_next-requires
take_next-requires g c = can_take (omega arith) c.packets.invariant

pub packets-smaller : goal.packets-smaller
packets-smaller g c = less_passed (rw c.in-Ok-Passed.field-0-is at c.in-Ok-Passed.ensures.next)

pub packets-preserved : goal.packets-preserved
packets-preserved g c = passed_one c.packets.invariant (rw c.in-Ok-Passed.field-0-is at c.in-Ok-Passed.ensures.next) c.in-Ok-Passed.ensures.ranged

pub returns-in_default-give_lines : goal.returns-in_default-give_lines
returns-in_default-give_lines g c =
    let over = rw c.in-Ok-Over.field-0-is at c.in-Ok-Over.ensures.next in
    let table = c.entries.ensures.value ∙ over.1 in
    let gives = rw (c.in_default-give_lines.is, table) at c.give_lines.ensures in
    write_failed c.packets.invariant over.0 gives

pub returns-in-Ok-Over : goal.returns-in-Ok-Over
returns-in-Ok-Over g c =
    let over = rw c.in-Ok-Over.field-0-is at c.in-Ok-Over.ensures.next in
    let table = c.entries.ensures.value ∙ over.1 in
    let gives = rw (c.in-Ok-give_lines.is, table) at c.give_lines.ensures in
    all_informed (length c.entries-in-Ok-Over.result.now) c.packets.invariant over.0 gives (ap length (c.entries-in-Ok-Over.ensures.value ∙ over.1))

pub returns-in-Err : goal.returns-in-Err
returns-in-Err g c =
    info_failed (g.X.Port.outside c.take_next.new.port) c.take_next.new.reader c.take_next.new.table.entries.items c.in-Err.fault c.packets.invariant
    c.in-Err.ensures.next
