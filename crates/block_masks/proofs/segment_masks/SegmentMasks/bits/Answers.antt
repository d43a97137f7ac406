use Rattle.std.proofs.Common.{◌≡◌, ◌<◌, ◌*◌, ◌+◌, sym, subst, arith, length}
use Rattle.item_defs.specs.Bits.{bit}
use Rattle.wave_defs.specs.Held.{block_at}
use Rattle.plane_defs.specs.Sets.{magnitude}
use Rattle.block_masks.specs.Masks.{Shows}
use Rattle.block_masks.specs.SegmentNumbers.{numbers_at}
use Rattle.block_masks.proofs.SegmentRoom.{few_words, words_within, word_within, has_block}
use Rattle.block_masks.proofs.SegmentLists.{bits_shown}
use Rattle.block_masks.proofs.SegmentWords.{word_read, word_past}
use Rattle.block_masks.proofs.segment_masks.SegmentMasks.bits.Goals as goal

pub overflow_add-self-inside : goal.overflow_add-self-inside
overflow_add-self-inside c =
    let a = c.self.inside in
    let room = c.self.invariant.0 in
    let known = has_block a.words.items a.step a.dcs.items c.args.r (rw (← c.self.view_is) at c.requires.block) in
    omega (arith, word_within room (2 + c.args.plane) c.args.r c.if-slot-self.true (omega (arith, known, a.dcs.ok.0)), words_within room, few_words room)

pub index-requires : goal.index-requires
index-requires c =
    let a = c.self.inside in
    let known = has_block a.words.items a.step a.dcs.items c.args.r (rw (← c.self.view_is) at c.requires.block) in
    word_within c.self.invariant.0 (2 + c.args.plane) c.args.r c.if-slot-self.true (omega (arith, known, a.dcs.ok.0))

pub returns-then-slot-self : goal.returns-then-slot-self
returns-then-slot-self c =
    let a = c.self.inside in
    let known = has_block a.words.items a.step a.dcs.items c.args.r (rw (← c.self.view_is) at c.requires.block) in
    let within : a.step * (2 + c.args.plane) + c.args.r < length a.words.items =
    (let there = word_within c.self.invariant.0 (2 + c.args.plane) c.args.r c.if-slot-self.true (omega (arith, known, a.dcs.ok.0)) in omega
    (arith, there, a.words.ok.0)) in
    rw (← c.self.view_is)
    (subst (λ m. Shows m (λ k. bit (magnitude (block_at (numbers_at a.words.items a.step a.dcs.items) c.args.r) k) c.args.plane) 0 64)
    (sym (word_read a.words.items a.step (2 + c.args.plane) c.args.r c.index.result.now c.index.ensures within))
    (bits_shown c.self.invariant.1 c.args.r c.args.plane known c.requires.plane))

pub returns-else-slot-self : goal.returns-else-slot-self
returns-else-slot-self c =
    let a = c.self.inside in
    let known = has_block a.words.items a.step a.dcs.items c.args.r (rw (← c.self.view_is) at c.requires.block) in
    let long : length a.words.items ≡ a.step * a.slots = omega (arith, c.self.invariant.0.long, a.words.ok.0) in
    rw (← c.self.view_is)
    (subst (λ m. Shows m (λ k. bit (magnitude (block_at (numbers_at a.words.items a.step a.dcs.items) c.args.r) k) c.args.plane) 0 64)
    (word_past a.words.items a.step a.slots (2 + c.args.plane) c.args.r long c.if-slot-self.false)
    (bits_shown c.self.invariant.1 c.args.r c.args.plane known c.requires.plane))
