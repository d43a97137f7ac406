use Rattle.std.proofs.Common.{refl, arith, ◌+◌, ◌-◌, ◌∙◌}
use Rattle.item_defs.specs.Bits.{bit}
use Rattle.plane_defs.specs.Sets.{magnitude}
use Rattle.block_masks.proofs.ByteLanes.{few_in, bytes_next, shows_highest, none_highest, more_highest}
use Rattle.block_masks.proofs.bytes.high_planes.Goals as goal

pub loop-doublings-init : goal.loop-doublings-init
loop-doublings-init c = record {
  first = c.bytes_of-first.ensures;
  second = c.bytes_of-second.ensures;
  third = c.bytes_of-third.ensures;
  fourth = c.bytes_of-fourth.ensures;
  masks = none_highest c.args.block.now c.args.from _ refl;
}

pub highest-requires-clause-few : goal.highest-requires-clause-few
highest-requires-clause-few c = few_in c.args.block.now 0 c.args.from c.loop-doublings.doublings _ c.loop-doublings.invariant.first

pub highest-requires-in-loop-doublings-clause-few : goal.highest-requires-in-loop-doublings-clause-few
highest-requires-in-loop-doublings-clause-few c = few_in c.args.block.now 16 c.args.from c.loop-doublings.doublings _ c.loop-doublings.invariant.second

pub highest-requires-in-loop-doublings-2-clause-few : goal.highest-requires-in-loop-doublings-2-clause-few
highest-requires-in-loop-doublings-2-clause-few c = few_in c.args.block.now 32 c.args.from c.loop-doublings.doublings _ c.loop-doublings.invariant.third

pub highest-requires-in-loop-doublings-3-clause-few : goal.highest-requires-in-loop-doublings-3-clause-few
highest-requires-in-loop-doublings-3-clause-few c = few_in c.args.block.now 48 c.args.from c.loop-doublings.doublings _ c.loop-doublings.invariant.fourth

pub loop-doublings-preserved : goal.loop-doublings-preserved
loop-doublings-preserved c =
    let block = c.args.block.now in
    let from = c.args.from in
    let n = c.loop-doublings.doublings in
    let i = c.loop-doublings.invariant in
    record {
      first = c.doubled-first.ensures ∙ bytes_next block 0 from n _ i.first;
      second = c.doubled-second.ensures ∙ bytes_next block 16 from n _ i.second;
      third = c.doubled-third.ensures ∙ bytes_next block 32 from n _ i.third;
      fourth = c.doubled-fourth.ensures ∙ bytes_next block 48 from n _ i.fourth;
      masks = more_highest (omega (arith, c.loop-doublings-test.true, c.requires.few)) (omega (arith, c.loop-doublings-test.true, c.requires.few)) i.masks
          (c.whole.ensures (λ p. bit (magnitude block p) (from + (7 - n)))
          (shows_highest block 0 from n _ _ (omega (arith, c.loop-doublings-test.true, c.requires.few)) i.first c.highest.ensures.if_known
          c.highest.ensures.small)
          (shows_highest block 16 from n _ _ (omega (arith, c.loop-doublings-test.true, c.requires.few)) i.second c.highest-in-loop-doublings.ensures.if_known
          c.highest-in-loop-doublings.ensures.small)
          (shows_highest block 32 from n _ _ (omega (arith, c.loop-doublings-test.true, c.requires.few)) i.third c.highest-in-loop-doublings-2.ensures.if_known
          c.highest-in-loop-doublings-2.ensures.small)
          (shows_highest block 48 from n _ _ (omega (arith, c.loop-doublings-test.true, c.requires.few)) i.fourth c.highest-in-loop-doublings-3.ensures.if_known
          c.highest-in-loop-doublings-3.ensures.small));
    }

pub returns : goal.returns
returns c i lt le = c.loop-doublings.invariant.masks.at i lt (omega (arith, le, c.loop-doublings-test.false, c.loop-doublings.auto.doublings-end))
