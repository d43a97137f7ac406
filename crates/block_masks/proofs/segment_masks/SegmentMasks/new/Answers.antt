use Rattle.std.proofs.Common.{◌∙◌, ap, arith, length}
use Rattle.std.proofs.lemmas.List.{nil_from_length, get_or_past}
use Rattle.block_masks.specs.SegmentNumbers.{AreWords}
use Rattle.block_masks.proofs.SegmentWords.{filled_fit}
use Rattle.block_masks.proofs.SegmentLists.{length-numbers_at}
use Rattle.block_masks.proofs.SegmentKeeping.{no_masks}
use Rattle.block_masks.proofs.segment_masks.SegmentMasks.new.Goals as goal

pub invariant_of-result : goal.invariant_of-result
invariant_of-result c =
    let words = c.in_ok-words.ensures in
    let dcs = c.in_ok-dcs.ensures in
    let none : AreWords c.in_ok-words.words.items = λ i. rw (get_or_past c.in_ok-words.words.items i 0 (omega (arith, ap length words.items)))
    (omega arith) in (
      record {
        few = c.requires;
        apart = c.step_for-step.ensures;
        least = omega arith;
        greatest = omega arith;
        long = omega (arith, c.fill_to.ensures.long);
        words_fit = c.fill_to.ensures.capacity ∙ words.exact;
        blocks = omega (arith, dcs.len);
        dcs_fit = dcs.exact;
      },
      no_masks (rw c.fill_to.ensures.items (filled_fit c.in_ok-words.words.items _ none)) dcs.items,
    )

pub returns-clause-numbers : goal.returns-clause-numbers
returns-clause-numbers c =
    let empty = c.in_ok-dcs.ensures.items in
    nil_from_length _ (omega (arith, ap length empty, length-numbers_at c.fill_to.new.words.items c.step_for-step.result c.in_ok-dcs.dcs.items))
