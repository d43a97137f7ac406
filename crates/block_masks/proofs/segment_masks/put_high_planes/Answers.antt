use Rattle.std.proofs.Common.{◌≡◌, ◌+◌, ◌-◌, ◌*◌, ◌<◌, length, get_or, set, subst, arith}
use Rattle.block_masks.specs.SegmentNumbers.{PutsPlanes}
use Rattle.block_masks.proofs.PuttingPlanes.{plane_put}
use Rattle.block_masks.proofs.SegmentWords.{within_slots}
use Rattle.block_masks.proofs.segment_masks.put_high_planes.Goals as goal

pub loop-i-init : goal.loop-i-init
loop-i-init c start puts =
    let at = c.args.at in
    let first : c.args.planes - c.args.count ≡ c.args.planes - 8 + (8 - c.args.count) = omega (arith, c.requires.many, c.requires.few) in
    subst (λ n. PutsPlanes n at.step at.block c.args.block.now start c.args.words.now) first puts

pub bounds-words-at : goal.bounds-words-at
bounds-words-at c =
    let at = c.args.at in
    let known = within_slots at.step at.slots (2 + (c.args.planes - 8 + c.loop-i.i)) at.block _ c.requires.long
    (omega (arith, c.requires.least, c.requires.many, c.loop-i-test.true)) c.requires.within in
    omega (arith, known, c.loop-i.auto.words)

pub loop-i-preserved : goal.loop-i-preserved
loop-i-preserved c start puts =
    let at = c.args.at in
    let plane = c.args.planes - 8 + c.loop-i.i in
    let so_far = c.loop-i.invariant start puts in
    let known = within_slots at.step at.slots (2 + plane) at.block _ c.requires.long
    (omega (arith, c.requires.least, c.requires.many, c.loop-i-test.true)) c.requires.within in
    let within : at.step * (2 + plane) + at.block < length start = omega (arith, known, so_far.long, c.loop-i.auto.words) in
    let next : plane + 1 ≡ c.args.planes - 8 + (c.loop-i.i + 1) = omega arith in
    let put = set c.loop-i.words (at.step * (2 + plane) + at.block) (get_or c.high_planes-masks.result c.loop-i.i 0) in
    subst (λ n. PutsPlanes n at.step at.block c.args.block.now start put) next
    (plane_put within c.requires.within so_far (c.high_planes-masks.ensures c.loop-i.i c.loop-i-test.true (omega (arith, c.loop-i.auto.i, c.requires.few))))

pub returns : goal.returns
returns c start puts =
    let at = c.args.at in
    let all : c.args.planes - 8 + c.loop-i.i ≡ c.args.planes = omega (arith, c.loop-i-test.false, c.loop-i.auto.i-end, c.requires.many) in
    subst (λ n. PutsPlanes n at.step at.block c.args.block.now start c.loop-i.words) all (c.loop-i.invariant start puts)
