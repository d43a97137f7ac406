use Rattle.std.proofs.Common.{◌<◌, ◌*◌, ◌+◌, sym, subst, arith, length, pos, get_or}
use Rattle.plane_defs.specs.Entries.{negative}
use Rattle.wave_defs.specs.Held.{block_at}
use Rattle.block_masks.specs.Masks.{Shows}
use Rattle.block_masks.specs.SegmentNumbers.{numbers_at}
use Rattle.block_masks.proofs.SegmentRoom.{word_within, has_block}
use Rattle.block_masks.proofs.SegmentLists.{minus_shown}
use Rattle.block_masks.proofs.SegmentWords.{word_read}
use Rattle.block_masks.proofs.segment_masks.SegmentMasks.negative.Goals as goal

pub index-requires : goal.index-requires
index-requires c =
    let a = c.self.inside in
    let known = has_block a.words.items a.step a.dcs.items c.args.r (rw (← c.self.view_is) at c.requires.block) in
    word_within c.self.invariant.0 0 c.args.r (omega (arith, c.self.invariant.0.least)) (omega (arith, known, a.dcs.ok.0))

pub returns : goal.returns
returns c =
    let a = c.self.inside in
    let known = has_block a.words.items a.step a.dcs.items c.args.r (rw (← c.self.view_is) at c.requires.block) in
    let within : a.step * 0 + c.args.r < length a.words.items =
    (let there = word_within c.self.invariant.0 0 c.args.r (omega (arith, c.self.invariant.0.least)) (omega (arith, known, a.dcs.ok.0)) in omega
    (arith, there, a.words.ok.0)) in
    rw (← c.self.view_is)
    (subst (λ m. Shows m (λ k. negative (get_or (block_at (numbers_at a.words.items a.step a.dcs.items) c.args.r) k (pos 0))) 0 64)
    (sym (word_read a.words.items a.step 0 c.args.r c.index.result.now c.index.ensures within)) (minus_shown c.self.invariant.1 c.args.r known))
