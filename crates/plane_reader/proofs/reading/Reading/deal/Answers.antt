use Rattle.std.proofs.Common.{◌≤◌, ◌+◌, ◌*◌, arith}
use Rattle.plane_reader.proofs.FoundMasks.{room_four, room_half}
use Rattle.plane_reader.proofs.WindowWords.{few_ones}
use Rattle.plane_reader.proofs.WindowParts.{moved_on}
use Rattle.plane_reader.proofs.HeldReads.{moves_passed, holds_passed}
use Rattle.plane_reader.proofs.DealReads.{dealt_none, dealt_four, dealt_all}
use Rattle.plane_reader.proofs.reading.Reading.deal.Goals as goal

pub returns-then-not-need-clause-reading : goal.returns-then-not-need-clause-reading
returns-then-not-need-clause-reading g c = record {
  is_in = c.need.ensures.is_in;
  holds = c.need.ensures.holds;
  options = c.requires.reading.options;
  rows =
      c.requires.reading.rows;
}

pub loop-k-init : goal.loop-k-init
loop-k-init g c = record {
  low = omega arith;
  rest = omega arith;
  dealt = λ s f is shown. dealt_none f c.args.start s c.need.new.self.rest is;
}

pub placed-requires-clause-room : goal.placed-requires-clause-room
placed-requires-clause-room g c = room_four c.spread_first-places.result (c.args.start + 4 * c.loop-k.k) (omega (
  arith,
  c.requires.start,
  c.loop-k-test.true,
)) c.spread_first-places.ensures.small

pub loop-k-preserved : goal.loop-k-preserved
loop-k-preserved g c =
    let i = c.loop-k.invariant in
    let k = c.loop-k.k in
    let lt = c.loop-k-test.true in
    let due = c.part-due.result in
    let few = few_ones due c.part-due.ensures.within in
    let width = c.count_of-width.ensures in
    let window = c.need.new.self.rest in
    record {
      low = omega (arith, i.low, few, width);
      rest = moved_on window c.loop-k.count c.count_of-width.result c.loop-k.rest i.rest;
      dealt = λ s f is shown.
          let start = c.args.start in
          let room : start + 32 ≤ 64 = omega (arith, c.requires.start) in
          let here = c.part-due.ensures.if_known f start 32 shown (omega (arith, lt)) in
          let d = dealt_four f start s window (i.dealt s f is shown) lt room i.low (omega arith) i.rest here few (omega arith) c.spread_first-places.ensures
          (λ a b whole some. c.either-bits.ensures a _ 0 64 whole (c.placed.ensures b 4 (omega (arith, room, lt)) some)) in
          rw width d;
    }

pub add_raw-requires-clause-room : goal.add_raw-requires-clause-room
add_raw-requires-clause-room g c = room_half c.args.here c.args.start c.requires.start c.requires.few

pub pass-requires-clause-count : goal.pass-requires-clause-count
pass-requires-clause-count g c = omega (arith, c.loop-k.invariant.low, c.loop-k.auto.k-end)

pub pass-requires-clause-left : goal.pass-requires-clause-left
pass-requires-clause-left g c = let left = c.need.ensures.has.0 c.if-not-need.false in omega (arith, c.loop-k.invariant.low, c.loop-k.auto.k-end, left)

pub returns-clause-dealt : goal.returns-clause-dealt
returns-clause-dealt g c = λ yes s f is shown.
    let i = c.loop-k.invariant in
    let left = c.need.ensures.has.0 c.if-not-need.false in
    dealt_all f c.args.start s c.need.new.self.rest (i.dealt s f is shown) (omega (arith, c.loop-k-test.false)) (omega (
      arith,
      c.loop-k.auto.k-end,
    )) c.need.ensures.stays
    (moves_passed {c = c.need.new.self} {d = c.pass.new.self} c.need.ensures.holds c.loop-k.count (omega (
      arith,
      i.low,
      c.loop-k.auto.k-end,
      left,
    )) c.pass.ensures.used c.pass.ensures.window c.pass.ensures.rest c.need.ensures.is_in) c.add_raw.ensures.bits c.add_raw.ensures.minus
    (c.add_raw.ensures.raw s.raw f 32 (omega (arith, c.requires.start)) is.raw shown)

pub returns-clause-reading : goal.returns-clause-reading
returns-clause-reading g c =
    let i = c.loop-k.invariant in
    let left = c.need.ensures.has.0 c.if-not-need.false in
    record {
      is_in = c.need.ensures.is_in;
      holds = holds_passed {c = c.need.new.self} {d = c.pass.new.self} c.need.ensures.holds c.loop-k.count (omega (
        arith,
        i.low,
        c.loop-k.auto.k-end,
        left,
      )) c.pass.ensures.used c.pass.ensures.window c.pass.ensures.rest;
      options = c.requires.reading.options;
      rows = c.requires.reading.rows;
    }
