use Rattle.std.proofs.Common.{rules}
use Rattle.camera_mux.proofs.PickRuns.{none_picked, given_one, passed_one, less_given, less_passed, few_picked}
use Rattle.camera_mux.proofs.PickEnds.{all_picked, picks_failed}
use Rattle.camera_mux.proofs.picking.pick_packets.Goals as goal

pub packets-init : goal.packets-init
packets-init g c = none_picked c.args.wish.now c.args.image (g.X.Port.outside c.args.port.now) c.in-Ok.reader c.in-Ok.ensures

pub overflow_add-packets : goal.overflow_add-packets
overflow_add-packets g c = let few = few_picked (given_one c.packets.invariant (rw c.in-Ok-Given.field-0-is at c.in-Ok-Given.ensures)) in search rules

pub packets-smaller-in-Ok-Given : goal.packets-smaller-in-Ok-Given
packets-smaller-in-Ok-Given g c = less_given (rw c.in-Ok-Given.field-0-is at c.in-Ok-Given.ensures)

pub packets-preserved-in-Ok-Given : goal.packets-preserved-in-Ok-Given
packets-preserved-in-Ok-Given g c = given_one c.packets.invariant (rw c.in-Ok-Given.field-0-is at c.in-Ok-Given.ensures)

pub packets-smaller : goal.packets-smaller
packets-smaller g c = less_passed (rw c.in-Ok-Passed.field-0-is at c.in-Ok-Passed.ensures)

pub packets-preserved : goal.packets-preserved
packets-preserved g c = passed_one c.packets.invariant (rw c.in-Ok-Passed.field-0-is at c.in-Ok-Passed.ensures)

pub returns-in-Ok-Over : goal.returns-in-Ok-Over
returns-in-Ok-Over g c = all_picked c.packets.invariant (rw c.in-Ok-Over.field-0-is at c.in-Ok-Over.ensures)

pub returns-in-Err : goal.returns-in-Err
returns-in-Err g c = picks_failed (g.X.Port.outside c.pick_next.new.port) c.pick_next.new.reader c.in-Err.fault c.packets.invariant c.in-Err.ensures
