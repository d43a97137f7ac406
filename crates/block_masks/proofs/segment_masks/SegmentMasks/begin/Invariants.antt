use Rattle.std.proofs.Common.{◌≡◌, ◌≤◌, vec_capacity, vec_len}
use Rattle.block_masks.specs.SegmentNumbers.{AreAbove}
use Rattle.block_masks.proofs.SegmentBeginning.{BeginsAbove}
use Rattle.block_masks.proofs.segment_masks.SegmentMasks.begin.Given as goal

abbrev pub invariant-loop-r : goal.invariant-loop-r
invariant-loop-r l = record {
  most : l.self-inside.most ≡ l.initial.self-inside.most;
  step : l.self-inside.step ≡ l.initial.self-inside.step;
  slots : l.self-inside.slots ≡ l.initial.self-inside.slots;
  dcs : l.self-inside.dcs ≡ l.initial.self-inside.dcs;
  room : vec_capacity l.self-inside.words ≡ vec_capacity l.initial.self-inside.words;
  long : vec_len l.self-inside.words ≡ vec_len l.initial.self-inside.words;
  begins : BeginsAbove l.initial.self-inside.step l.r l.initial.self-inside.dcs.items l.initial.self-inside.words.items l.self-inside.words.items;
}

abbrev pub invariant-loop-plane : goal.invariant-loop-plane
invariant-loop-plane l = record {
  least : l.top ≤ l.plane;
  greatest : l.plane ≤ 27;
  most : l.self.most ≡ l.fn.self.most;
  numbers : l.self.numbers ≡ l.fn.self.numbers;
  above : AreAbove l.plane l.self;
}

abbrev pub decreases-loop-plane : goal.decreases-loop-plane
decreases-loop-plane l = l.plane
