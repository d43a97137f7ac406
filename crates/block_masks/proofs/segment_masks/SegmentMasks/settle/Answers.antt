use Rattle.std.proofs.Common.{◌≡◌, ◌≤◌, ℕ, ◌*◌, ◌+◌, ◌∙◌, sym, subst, arith, List, length}
use Rattle.std.proofs.lemmas.List.{with_items_is}
use Rattle.block_masks.specs.SegmentNumbers.{numbers_at, above_at, AreAbove}
use Rattle.block_masks.proofs.SlicePlaces.{next_slot}
use Rattle.block_masks.proofs.SegmentRoom.{blocks_fit}
use Rattle.block_masks.proofs.SegmentKeeping.{masks_kept, numbers_kept}
use Rattle.block_masks.proofs.SegmentSettling.{joins_all, keeps_joined, above_joined, above_same}
use Rattle.block_masks.proofs.segment_masks.SegmentMasks.settle.Goals as goal

pub join_words-requires-clause-within : goal.join_words-requires-clause-within
join_words-requires-clause-within c =
    let a = c.self.inside in
    let next = next_slot a.step (2 + c.args.plane) a.slots c.if-slot-self.true in
    omega (arith, next, c.self.invariant.0.long, c.deref_mut.ensures.len, c.len.ensures, blocks_fit c.self.invariant.0)

pub invariant_of-self : goal.invariant_of-self
invariant_of-self c =
    let a = c.self.inside in
    let new = c.join_words.new.words in
    let joins = joins_all c.join_words.ensures c.deref_mut.ensures.value (c.len.ensures ∙ a.dcs.ok.0) in
    let fit : length a.dcs.items ≤ a.step = omega (arith, blocks_fit c.self.invariant.0, a.dcs.ok.0) in
    let long : length new ≡ a.words.len = joins.long ∙ sym a.words.ok.0 in (
      c.self.invariant.0,
      rw (with_items_is a.words new long)
          (masks_kept (joins.fit c.self.invariant.1.fit) (keeps_joined a.step (2 + c.args.plane) fit joins) c.self.invariant.1),
    )

pub returns-then-slot-self-clause-numbers : goal.returns-then-slot-self-clause-numbers
returns-then-slot-self-clause-numbers c =
    let a = c.self.inside in
    let joins = joins_all c.join_words.ensures c.deref_mut.ensures.value (c.len.ensures ∙ a.dcs.ok.0) in
    let fit : length a.dcs.items ≤ a.step = omega (arith, blocks_fit c.self.invariant.0, a.dcs.ok.0) in
    let long : length c.join_words.new.words ≡ a.words.len = joins.long ∙ sym a.words.ok.0 in
    rw (← c.self.view_is, with_items_is a.words c.join_words.new.words long) (numbers_kept a.dcs.items (keeps_joined a.step (2 + c.args.plane) fit joins))

pub returns-then-slot-self-clause-above : goal.returns-then-slot-self-clause-above
returns-then-slot-self-clause-above c =
    let a = c.self.inside in
    let above = rw (← c.self.view_is) at c.requires.above in
    let joins = joins_all c.join_words.ensures c.deref_mut.ensures.value (c.len.ensures ∙ a.dcs.ok.0) in
    let fit : length a.dcs.items ≤ a.step = omega (arith, blocks_fit c.self.invariant.0, a.dcs.ok.0) in
    let long : length c.join_words.new.words ≡ a.words.len = joins.long ∙ sym a.words.ok.0 in
    subst (λ (items : List ℕ). AreAbove c.args.plane (record {
      most = a.most;
      numbers = numbers_at items a.step a.dcs.items;
      above =
          above_at items a.step (length a.dcs.items);
    }))
    (sym (with_items_is a.words c.join_words.new.words long))
    (above_joined c.args.plane a.most a.words.items a.step a.dcs.items c.requires.plane c.self.invariant.1 above fit joins)

pub returns-else-slot-self-clause-above : goal.returns-else-slot-self-clause-above
returns-else-slot-self-clause-above c =
    let a = c.self.inside in
    let above = rw (← c.self.view_is) at c.requires.above in
    let long : length a.words.items ≡ a.step * a.slots = omega (arith, c.self.invariant.0.long, a.words.ok.0) in
    rw (← c.self.view_is) (above_same c.args.plane a.most a.words.items a.step a.dcs.items c.requires.plane c.self.invariant.1 above a.slots long
    c.if-slot-self.false)
