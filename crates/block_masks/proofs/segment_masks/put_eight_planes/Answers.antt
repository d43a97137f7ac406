use Rattle.std.proofs.Common.{◌≡◌, ◌+◌, ◌-◌, ◌*◌, ◌<◌, length, min, get_or, set, subst, arith}
use Rattle.block_masks.specs.SegmentNumbers.{PutsPlanes}
use Rattle.block_masks.proofs.PuttingPlanes.{plane_put}
use Rattle.block_masks.proofs.SegmentWords.{within_slots}
use Rattle.block_masks.proofs.segment_masks.put_eight_planes.Goals as goal
use Rattle.block_masks.proofs.segment_masks.put_eight_planes.Goals.{then-slot-at, else-slot-at}

pub loop-i-init : goal.loop-i-init
loop-i-init c start puts =
    let none : c.args.from ≡ c.args.from + 0 = omega arith in
    subst (λ n. PutsPlanes (min n (c.args.at.slots - 2)) c.args.at.step c.args.at.block c.args.block.now start c.args.words.now) none puts

pub bounds-words-at : goal.bounds-words-at
bounds-words-at c =
    let at = c.args.at in
    let known = within_slots at.step at.slots (2 + (c.args.from + c.loop-i.i)) at.block _ c.requires.long c.if-slot-at.true c.requires.within in
    omega (arith, known, c.loop-i.auto.words)

pub loop-i-preserved : goal.loop-i-preserved
loop-i-preserved c start puts =
    let at = c.args.at in
    let plane = c.args.from + c.loop-i.i in
    let so_far = c.loop-i.invariant start puts in
    elim c.if-slot-at.branch [
      | then-slot-at w ↦
          let here : min plane (at.slots - 2) ≡ plane = omega (arith, w.if-slot-at.true) in
          let next : plane + 1 ≡ min (c.args.from + (c.loop-i.i + 1)) (at.slots - 2) = omega (arith, w.if-slot-at.true) in
          let known = within_slots at.step at.slots (2 + plane) at.block _ c.requires.long w.if-slot-at.true c.requires.within in
          let within : at.step * (2 + plane) + at.block < length start = omega (arith, known, so_far.long, c.loop-i.auto.words) in
          let now = subst (λ n. PutsPlanes n at.step at.block c.args.block.now start c.loop-i.words) here so_far in
          let put = set c.loop-i.words (at.step * (2 + plane) + at.block) (get_or c.high_planes-masks.result c.loop-i.i 0) in
          rw w.words-is (subst (λ n. PutsPlanes n at.step at.block c.args.block.now start put) next
          (plane_put within c.requires.within now (c.high_planes-masks.ensures c.loop-i.i c.loop-i-test.true (omega arith))))
      | else-slot-at w ↦
          let next : min plane (at.slots - 2) ≡ min (c.args.from + (c.loop-i.i + 1)) (at.slots - 2) = omega (arith, w.if-slot-at.false) in
          rw w.words-is (subst (λ n. PutsPlanes n at.step at.block c.args.block.now start c.loop-i.words) next so_far)
    ]

pub returns : goal.returns
returns c start puts =
    let all : c.loop-i.i ≡ 8 = omega (arith, c.loop-i-test.false, c.loop-i.auto.i-end) in
    subst (λ n. PutsPlanes (min (c.args.from + n) (c.args.at.slots - 2)) c.args.at.step c.args.at.block c.args.block.now start c.loop-i.words) all
    (c.loop-i.invariant start puts)
