use Rattle.std.proofs.Common.{refl, arith}
use Rattle.packet_assembly.proofs.Steps.{mine_passes, other_passes, ended_passes, fault_passes, failed_passes, counted_on, counted_mine, counted_other}
use Rattle.packet_assembly.proofs.Steps.{mine_field}
use Rattle.packet_assembly.proofs.Framings.{known_none, known_mine, known_skipped, known_failed, known_fault}
use Rattle.packet_assembly.proofs.assembly.Assembly.pass.Goals as goal

pub invariant_of-self : goal.invariant_of-self
invariant_of-self g c =
    let x = counted_on c.self.inside.packets c.self.invariant.counted (c.next.ensures) in
    record {
      place = omega arith;
      counted = x.0;
      capped = x.1;
      cap = omega (arith, x.2, c.self.invariant.cap);
      range = c.self.invariant.range;
      framing =
          known_failed c.self.inside.apid _ _ c.self.inside.reader _ c.self.inside.framing c.in-Err.fault (rw c.in-Err.is at c.next.ensures)
          c.self.invariant.framing;
    }

pub invariant_of-self-in-Mine : goal.invariant_of-self-in-Mine
invariant_of-self-in-Mine g c =
    let x = counted_on c.self.inside.packets c.self.invariant.counted (c.next.ensures) in
    record {
      place = omega arith;
      counted = x.0;
      capped = x.1;
      cap = omega (arith, x.2, c.self.invariant.cap);
      range = c.self.invariant.range;
      framing =
          known_mine c.self.inside.apid _ _ c.self.inside.reader _ c.self.inside.framing _ _ (rw (c.in-Ok.is, c.in-Mine.is) at c.next.ensures)
          c.self.invariant.framing;
    }

pub invariant_of-self-in-Skipped : goal.invariant_of-self-in-Skipped
invariant_of-self-in-Skipped g c =
    let x = counted_on c.self.inside.packets c.self.invariant.counted (c.next.ensures) in
    record {
      place = omega arith;
      counted = x.0;
      capped = x.1;
      cap = omega (arith, x.2, c.self.invariant.cap);
      range = c.self.invariant.range;
      framing =
          known_skipped c.self.inside.apid _ _ c.self.inside.reader _ c.self.inside.framing _ (rw (c.in-Ok.is, c.in-Skipped.is) at c.next.ensures)
          c.self.invariant.framing;
    }

pub invariant_of-self-in-Ended : goal.invariant_of-self-in-Ended
invariant_of-self-in-Ended g c =
    let x = counted_on c.self.inside.packets c.self.invariant.counted (c.next.ensures) in
    record {
      place = omega arith;
      counted = x.0;
      capped = x.1;
      cap = omega (arith, x.2, c.self.invariant.cap);
      range = c.self.invariant.range;
      framing =
          known_none c.self.inside.apid _;
    }

pub invariant_of-self-in-Fault : goal.invariant_of-self-in-Fault
invariant_of-self-in-Fault g c =
    let x = counted_on c.self.inside.packets c.self.invariant.counted (c.next.ensures) in
    record {
      place = omega arith;
      counted = x.0;
      capped = x.1;
      cap = omega (arith, x.2, c.self.invariant.cap);
      range = c.self.invariant.range;
      framing =
          known_fault c.self.inside.apid _ _ c.self.inside.reader _ _ (rw (c.in-Ok.is, c.in-Fault.is) at c.next.ensures);
    }

pub pass_image_packet-requires-clause-counted : goal.pass_image_packet-requires-clause-counted
pass_image_packet-requires-clause-counted g c = counted_mine c.self.inside.packets c.self.invariant.counted (rw (c.in-Ok.is, c.in-Mine.is) at c.next.ensures)

pub pass_image_packet-requires-clause-field : goal.pass_image_packet-requires-clause-field
pass_image_packet-requires-clause-field g c = mine_field (rw (c.in-Ok.is, c.in-Mine.is) at c.next.ensures)

pub pass_other-requires : goal.pass_other-requires
pass_other-requires g c = record { counted = counted_other c.self.inside.packets c.self.invariant.counted (rw (c.in-Ok.is, c.in-Skipped.is) at c.next.ensures) }

pub returns-in-Err : goal.returns-in-Err
returns-in-Err g c = rw (← c.self.view_is) (failed_passes (rw c.in-Err.is at c.next.ensures) refl)

pub returns-in-Mine : goal.returns-in-Mine
returns-in-Mine g c = rw (← c.self.view_is) (mine_passes (rw (c.in-Ok.is, c.in-Mine.is) at c.next.ensures) refl c.pass_image_packet.ensures.if_known
    c.pass_image_packet.ensures.valid)

pub returns-in-Skipped : goal.returns-in-Skipped
returns-in-Skipped g c = rw (← c.self.view_is) (other_passes (rw (c.in-Ok.is, c.in-Skipped.is) at c.next.ensures) refl c.pass_other.ensures.if_known
    c.pass_other.ensures.valid)

pub returns-in-Ended : goal.returns-in-Ended
returns-in-Ended g c = rw (← c.self.view_is) (ended_passes (rw (c.in-Ok.is, c.in-Ended.is) at c.next.ensures) refl)

pub returns-in-Fault : goal.returns-in-Fault
returns-in-Fault g c = rw (← c.self.view_is) (fault_passes (rw (c.in-Ok.is, c.in-Fault.is) at c.next.ensures) refl)
