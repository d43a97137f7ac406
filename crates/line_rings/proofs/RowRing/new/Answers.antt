use Rattle.std.proofs.Common.{◌<◌, arith}
use Rattle.line_rings.proofs.Filling.{length-filled, map-keep_last}
use Rattle.line_rings.proofs.RowRing.new.Goals as goal

pub loop-preserved : goal.loop-preserved
loop-preserved g c =
    let room = c.loop.invariant.room in
    let less : c.loop.counter < c.loop.ring.capacity = omega arith in
    rw c.push_back.ensures.items (record {
      room = room;
      filled = map-keep_last (λ v. v.items) c.loop.counter c.loop.ring.capacity c.loop.ring.items c.in_ok-row.row _ c.loop.invariant.filled
          c.in_ok-row.ensures less;
    })

pub invariant_of-result : goal.invariant_of-result
invariant_of-result g c =
    let room = c.loop.invariant.room in
    let full = length-filled (λ v. v.items) c.loop.counter c.loop.ring.items _ c.loop.invariant.filled in
    (omega arith, omega arith)
