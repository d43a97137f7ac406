use Rattle.std.proofs.Common.{◌*◌, ◌-◌, ◌≤◌, max, min}
use Rattle.block_masks.specs.SegmentNumbers.{PutsPlanes}
use Rattle.block_masks.proofs.segment_masks.put_planes.Given as goal

abbrev pub invariant-loop-eight : goal.invariant-loop-eight
invariant-loop-eight l = record {
  puts : PutsPlanes (min (8 * l.eight) (l.at.slots - 2)) l.at.step l.at.block l.block l.fn.words l.words;
  few : l.eight ≤ max l.eights 1;
}

abbrev pub invariant-loop-plane : goal.invariant-loop-plane
invariant-loop-plane l = PutsPlanes l.plane l.at.step l.at.block l.block l.fn.words l.words
