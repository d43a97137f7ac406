use Rattle.std.proofs.Common.{◌<◌, ◌*◌, ◌+◌, ◌∙◌, sym, arith, length}
use Rattle.block_masks.proofs.SegmentRoom.{few_words, words_within, word_within, has_block}
use Rattle.block_masks.proofs.SegmentLists.{above_get}
use Rattle.block_masks.proofs.SegmentWords.{word_read}
use Rattle.block_masks.proofs.segment_masks.SegmentMasks.above.Goals as goal

pub overflow_add-self-inside : goal.overflow_add-self-inside
overflow_add-self-inside c =
    let a = c.self.inside in
    let room = c.self.invariant.0 in
    let known = has_block a.words.items a.step a.dcs.items c.args.r (rw (← c.self.view_is) at c.requires.block) in
    omega (arith, word_within room 1 c.args.r (omega (arith, room.least)) (omega (arith, known, a.dcs.ok.0)), words_within room, few_words room)

pub index-requires : goal.index-requires
index-requires c =
    let a = c.self.inside in
    let known = has_block a.words.items a.step a.dcs.items c.args.r (rw (← c.self.view_is) at c.requires.block) in
    word_within c.self.invariant.0 1 c.args.r (omega (arith, c.self.invariant.0.least)) (omega (arith, known, a.dcs.ok.0))

pub returns : goal.returns
returns c =
    let a = c.self.inside in
    let known = has_block a.words.items a.step a.dcs.items c.args.r (rw (← c.self.view_is) at c.requires.block) in
    let within : a.step * 1 + c.args.r < length a.words.items =
    (let there = word_within c.self.invariant.0 1 c.args.r (omega (arith, c.self.invariant.0.least)) (omega (arith, known, a.dcs.ok.0)) in omega
    (arith, there, a.words.ok.0)) in
    word_read a.words.items a.step 1 c.args.r c.index.result.now c.index.ensures within ∙ rw (← c.self.view_is)
    (sym (above_get a.words.items a.step (length a.dcs.items) c.args.r known))
