use Rattle.std.proofs.Common.{◌+◌, ◌-◌, List, ℕ}
use Rattle.block_masks.specs.SegmentNumbers.{PutsPlanes}
use Rattle.block_masks.proofs.segment_masks.put_high_planes.Given as goal

abbrev pub invariant-loop-i : goal.invariant-loop-i
invariant-loop-i l = (start : List ℕ) → PutsPlanes (l.planes - l.count) l.at.step l.at.block l.block start l.initial.words →
    PutsPlanes (l.from + l.i) l.at.step l.at.block l.block start l.words
