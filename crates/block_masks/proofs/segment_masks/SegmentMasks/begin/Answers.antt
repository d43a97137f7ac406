use Rattle.std.proofs.Common.{◌≡◌, ◌<◌, ◌≤◌, ◌*◌, ◌+◌, ◌∙◌, ap, arith, length, pos, refl}
use Rattle.std.proofs.lemmas.List.{get_or_read}
use Rattle.block_masks.specs.SegmentNumbers.{numbers_at}
use Rattle.block_masks.proofs.SegmentRoom.{word_within, blocks_fit}
use Rattle.block_masks.proofs.SegmentKeeping.{masks_kept}
use Rattle.block_masks.proofs.SegmentBeginning.{none_begun, more_begun, top_shown, reach_known, begun_keeps, begun_numbers, begun_above}
use Rattle.block_masks.proofs.segment_masks.SegmentMasks.begin.Goals as goal

pub loop-r-init : goal.loop-r-init
loop-r-init c = record {
  most = refl;
  step = refl;
  slots = refl;
  dcs = refl;
  room = refl;
  long = refl;
  begins = none_begun c.self.inside.step c.self.inside.dcs.items c.self.inside.words.items;
}

pub index_mut-requires : goal.index_mut-requires
index_mut-requires c =
    let i = c.loop-r.invariant in
    rw (i.step, i.long) (word_within c.self.invariant.0 1 c.loop-r.r (omega (arith, c.self.invariant.0.least))
    (omega (arith, c.loop-r-test.true, c.len-r-end.ensures)))

pub loop-r-preserved : goal.loop-r-preserved
loop-r-preserved c =
    let i = c.loop-r.invariant in
    let a = c.self.inside in
    let r = c.loop-r.r in
    let known : r < length a.dcs.items = omega (arith, c.loop-r-test.true, c.len-r-end.ensures, a.dcs.ok.0) in
    let low : r < a.step = omega (arith, known, a.dcs.ok.0, blocks_fit c.self.invariant.0) in
    let within : a.step * 1 + r < length a.words.items =
    (let there = word_within c.self.invariant.0 1 r (omega (arith, c.self.invariant.0.least)) (omega (arith, known, a.dcs.ok.0)) in omega
    (arith, there, a.words.ok.0)) in
    let read = get_or_read a.dcs.items r c.index.result.now known (rw i.dcs at c.index.ensures) (pos 0) in
    let if_known = reach_known a.dcs.items r (c.self.invariant.1.small r) c.unsigned_abs.ensures.value read in
    record {
      most = i.most;
      step = i.step;
      slots = i.slots;
      dcs = i.dcs;
      room = i.room;
      long = i.long;
      begins = rw i.step (more_begun low within i.begins (top_shown a.words.items a.step a.dcs.items r known if_known (c.one.ensures.if_known 0)
          c.one.ensures.within));
    }

pub invariant_of-self : goal.invariant_of-self
invariant_of-self c =
    let i = c.loop-r.invariant in
    let a = c.self.inside in
    let fit : length a.dcs.items ≤ a.step = omega (arith, blocks_fit c.self.invariant.0, a.dcs.ok.0) in
    rw (i.most, i.step, i.slots, i.dcs, i.room, i.long)
    (c.self.invariant.0, masks_kept (i.begins.fit c.self.invariant.1.fit) (begun_keeps fit i.begins) c.self.invariant.1)

pub loop-plane-init : goal.loop-plane-init
loop-plane-init c =
    let i = c.loop-r.invariant in
    let a = c.self.inside in
    let now = c.loop-r.self-inside in
    let all : length a.dcs.items ≤ c.loop-r.r = omega (arith, c.loop-r-test.false, c.len-r-end.ensures, a.dcs.ok.0) in
    let fit : length a.dcs.items ≤ a.step = omega (arith, blocks_fit c.self.invariant.0, a.dcs.ok.0) in
    let same : numbers_at now.words.items now.step now.dcs.items ≡ numbers_at a.words.items a.step a.dcs.items =
    rw (i.step, i.dcs) (begun_numbers fit i.begins) in
    record {
      least = c.requires;
      greatest = omega arith;
      most = i.most ∙ ap (λ v. v.most) c.self.view_is;
      numbers = same ∙ ap (λ v. v.numbers) c.self.view_is;
      above = rw (i.step, i.dcs) (begun_above fit now.most all i.begins);
    }
