use Rattle.block_masks.specs.SegmentNumbers.{JoinsWords}
use Rattle.block_masks.proofs.segment_masks.join_words.Given as goal

abbrev pub invariant-loop-r : goal.invariant-loop-r
invariant-loop-r l = JoinsWords l.to l.from l.r l.initial.words l.words
