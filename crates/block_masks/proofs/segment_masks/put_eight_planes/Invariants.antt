use Rattle.std.proofs.Common.{◌+◌, ◌-◌, List, ℕ, min}
use Rattle.block_masks.specs.SegmentNumbers.{PutsPlanes}
use Rattle.block_masks.proofs.segment_masks.put_eight_planes.Given as goal

abbrev pub invariant-loop-i : goal.invariant-loop-i
invariant-loop-i l = (start : List ℕ) → PutsPlanes (min l.from (l.at.slots - 2)) l.at.step l.at.block l.block start l.initial.words →
    PutsPlanes (min (l.from + l.i) (l.at.slots - 2)) l.at.step l.at.block l.block start l.words
