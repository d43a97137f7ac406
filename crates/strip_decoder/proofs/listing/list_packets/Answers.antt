use Rattle.std.proofs.Common.{arith}
use Rattle.std.proofs.lemmas.Grind.{common_steps}
use Rattle.strip_decoder.proofs.Readings.{none_listed, less_left, one_listed}
use Rattle.strip_decoder.proofs.ListEndings.{all_listed, lists_failed}
use Rattle.strip_decoder.proofs.listing.list_packets.Goals as goal

pub packets-init : goal.packets-init
packets-init g c = grind (arith, common_steps, none_listed)

pub packets-smaller : goal.packets-smaller
packets-smaller g c = less_left (rw c.in-Ok-true.field-0-test at c.in-Ok-true.ensures)

pub packets-preserved : goal.packets-preserved
packets-preserved g c = one_listed c.packets.invariant (rw c.in-Ok-true.field-0-test at c.in-Ok-true.ensures)

pub returns-in-Ok-false : goal.returns-in-Ok-false
returns-in-Ok-false g c = all_listed c.framing.result c.packets.invariant (rw c.in-Ok-false.field-0-test at c.in-Ok-false.ensures) c.framing.ensures.found

pub returns-in-Err : goal.returns-in-Err
returns-in-Err g c = lists_failed (g.X.Port.outside c.list_next.new.port) c.list_next.new.assembly c.list_next.new.lines.bytes c.in-Err.fault
    c.packets.invariant c.in-Err.ensures
