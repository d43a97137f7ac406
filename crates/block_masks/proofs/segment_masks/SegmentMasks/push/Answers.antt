use Rattle.std.proofs.Common.{◌≡◌, ◌<◌, ◌≤◌, ◌^◌, ◌∙◌, ◌*◌, ◌+◌, ◌++◌, ap, subst, arith, pos, [], ◌∷◌, length, get_or, take, drop, set, pow_mono, w32}
use Rattle.std.proofs.lemmas.List.{with_items_is}
use Rattle.std.proofs.lemmas.Int.{to_z-of_z, fits_signed_from_abs}
use Rattle.block_masks.proofs.SegmentWords.{within_slots}
use Rattle.block_masks.proofs.PuttingPlanes.{no_bit}
use Rattle.block_masks.proofs.SegmentLists.{length-numbers_at}
use Rattle.block_masks.proofs.SegmentRoom.{step_wide, slots_fit, slots_more, pushed_room}
use Rattle.block_masks.proofs.SegmentPushing.{PutsBlock, block_put, pushed_numbers, pushed_masks}
use Rattle.block_masks.proofs.segment_masks.SegmentMasks.push.Goals as goal
use Rattle.block_masks.proofs.segment_masks.SegmentMasks.push.Goals.{After-push_reserved}

pub fill_to-requires : goal.fill_to-requires
fill_to-requires c =
    let slots = c.max-self-inside.result in
    record {
      longer = slots_more c.self.invariant.0 slots (omega (arith, c.max-self-inside.ensures));
      room = slots_fit c.self.invariant.0 slots (omega (arith, c.max-self-inside.ensures, c.min-planes.ensures, c.self.invariant.0.greatest));
    }

pub put_planes-requires-clause-within : goal.put_planes-requires-clause-within
put_planes-requires-clause-within c =
    let a = c.self.inside in
    let free = rw (← c.self.view_is) at c.requires.room in
    omega (arith, free, length-numbers_at a.words.items a.step a.dcs.items, a.dcs.ok.0, c.len.ensures, step_wide a.most, c.self.invariant.0.apart)

pub put_planes-requires-clause-small : goal.put_planes-requires-clause-small
put_planes-requires-clause-small c k = (let most : 2 ^ c.args.depth ≤ 2 ^ 28 = pow_mono c.requires.depth in omega (arith, c.requires.small k, most))

pub put_planes-requires-clause-none : goal.put_planes-requires-clause-none
put_planes-requires-clause-none c k p le lt = no_bit _ c.args.depth p (omega (arith, le, lt, c.min-planes.ensures)) (c.requires.small k)

pub index_mut-requires : goal.index_mut-requires
index_mut-requires c =
    let a = c.self.inside in
    let free = rw (← c.self.view_is) at c.requires.room in
    let low : c.len.result < a.step = omega (
      arith,
      free,
      length-numbers_at a.words.items a.step a.dcs.items,
      a.dcs.ok.0,
      c.len.ensures,
      step_wide a.most,
      c.self.invariant.0.apart,
    ) in
    within_slots a.step c.max-self-inside.result 0 c.len.result _ c.fill_to.ensures.long (omega (arith, c.max-self-inside.ensures)) low

pub push_reserved-requires : goal.push_reserved-requires
push_reserved-requires c =
    let a = c.self.inside in
    let free = rw (← c.self.view_is) at c.requires.room in
    omega (arith, free, length-numbers_at a.words.items a.step a.dcs.items, a.dcs.ok.0, c.self.invariant.0.dcs_fit)

-- the words after the call have the block
puts : (c : After-push_reserved) → PutsBlock c.self.inside.step (length c.self.inside.dcs.items) c.args.block.now c.self.inside.words.items
    (set c.put_planes.new.words (c.self.inside.step * 0 + c.len.result) c.all_negative.result)
puts c =
    let a = c.self.inside in
    let free = rw (← c.self.view_is) at c.requires.room in
    let low : c.len.result < a.step = omega (
      arith,
      free,
      length-numbers_at a.words.items a.step a.dcs.items,
      a.dcs.ok.0,
      c.len.ensures,
      step_wide a.most,
      c.self.invariant.0.apart,
    ) in
    let long : length c.put_planes.new.words ≡ a.step * c.max-self-inside.result = c.put_planes.ensures.long ∙ c.deref_mut.ensures.len
    ∙ c.fill_to.ensures.long in
    let within = within_slots a.step c.max-self-inside.result 0 c.len.result _ long (omega (arith, c.max-self-inside.ensures)) low in
    subst (λ r. PutsBlock a.step r c.args.block.now a.words.items (set c.put_planes.new.words (a.step * 0 + c.len.result) c.all_negative.result))
    (c.len.ensures ∙ a.dcs.ok.0)
    (block_put _ (c.deref_mut.ensures.value ∙ c.fill_to.ensures.items) low within c.put_planes.ensures c.all_negative.ensures)

new_dcs : (c : After-push_reserved) → c.push_reserved.new.self.items ≡ c.self.inside.dcs.items ++ get_or c.args.block.now 0 (pos 0) ∷ []
new_dcs c =
    let dc = get_or c.args.block.now 0 (pos 0) in
    let most : 2 ^ c.args.depth ≤ 2 ^ 28 = pow_mono c.requires.depth in
    c.push_reserved.ensures.items ∙ ap (λ n. c.self.inside.dcs.items ++ n ∷ [])
    (to_z-of_z w32 dc (fits_signed_from_abs w32 dc (omega (arith, c.requires.small 0, most))))

new_words : (c : After-push_reserved) → take c.fill_to.new.words.len
    (c.put_planes.new.words ++ drop (length c.put_planes.new.words) c.fill_to.new.words.items) ≡ c.put_planes.new.words
new_words c = with_items_is c.fill_to.new.words c.put_planes.new.words (c.put_planes.ensures.long ∙ c.deref_mut.ensures.len)

pub invariant_of-self : goal.invariant_of-self
invariant_of-self c =
    let a = c.self.inside in
    let free = rw (← c.self.view_is) at c.requires.room in
    let most : 2 ^ c.args.depth ≤ 2 ^ 28 = pow_mono c.requires.depth in
    let room = pushed_room c.self.invariant.0 (omega (arith, c.max-self-inside.ensures))
    (omega (arith, c.max-self-inside.ensures, c.min-planes.ensures, c.self.invariant.0.greatest)) c.fill_to.ensures.long c.fill_to.ensures.capacity
    (omega (arith, free, length-numbers_at a.words.items a.step a.dcs.items, a.dcs.ok.0)) (c.push_reserved.ensures.len) c.push_reserved.ensures.capacity in (
      room,
      rw (new_words c, new_dcs c) (pushed_masks a.step a.dcs.items c.args.block.now a.words.items _ (puts c) c.requires.small_ac
          (omega (arith, c.requires.small 0, most)) c.self.invariant.1),
    )

pub returns-clause-numbers : goal.returns-clause-numbers
returns-clause-numbers c =
    let a = c.self.inside in
    rw (← c.self.view_is, new_words c, new_dcs c) (pushed_numbers a.step a.dcs.items c.args.block.now a.words.items _ (puts c) c.requires.small_ac
    c.requires.whole)
