use Rattle.std.proofs.Common.{◌≡◌, ◌+◌, ◌-◌, ◌*◌, ◌<◌, ◌≤◌, ◌∙◌, ℕ, suc, length, refl, subst, arith}
use Rattle.bit_pipe.specs.SourceState.{source_state}
use Rattle.block_masks.specs.Slices.{numbers_in}
use Rattle.block_masks.proofs.Marking.{length-depths_of}
use Rattle.plane_defs.specs.Marks.{depths_of}
use Rattle.wave_defs.specs.Held.{blocks_in}
use Rattle.plane_reader.specs.Above.{AreReady, AwaitDcs}
use Rattle.plane_reader.specs.Restoring.{IsReached}
use Rattle.plane_reader.proofs.PlanesReads.{plane_as}
use Rattle.plane_reader.proofs.LowsRead.{read_first, read_more, read_end, read_all, is_reached}
use Rattle.plane_reader.proofs.planes.take_sent.Goals as goal

pub loop-n-init : goal.loop-n-init
loop-n-init g c =
    let s = c.args.sent.now in
    let cells = c.args.cells.now in
    let same : s.below ≡ s.below - 0 = omega arith in
    record {
      is_in = c.requires.open;
      ready = subst (λ n. AreReady n cells) same c.requires.ready;
      dcs = subst (λ n. AwaitDcs n s.q (blocks_in (numbers_in cells))) same c.requires.dcs;
      below = c.requires.empty;
      depths = refl;
      size = refl;
      reached = λ some. absurd (omega (arith, some));
      read = λ h is await. read_first c.args.tables.now.words.book s (depths_of c.args.marks.now) cells h (source_state c.args.input.now) (omega (
        arith,
        c.requires.whole,
        length-depths_of c.args.marks.now,
      )) c.requires.acs is await;
    }

pub take_plane-read-requires-clause-ready : goal.take_plane-read-requires-clause-ready
take_plane-read-requires-clause-ready g c =
    let e : c.args.sent.now.below - c.loop-n.n ≡ c.plane_of-plan.result.plane + 1 = omega (arith, c.plane_of-plan.ensures.plane, c.loop-n-test.true) in
    subst (λ n. AreReady n c.loop-n.cells) e c.loop-n.invariant.ready

pub take_plane-read-requires-clause-dcs : goal.take_plane-read-requires-clause-dcs
take_plane-read-requires-clause-dcs g c =
    let e : c.args.sent.now.below - c.loop-n.n ≡ c.plane_of-plan.result.plane + 1 = omega (arith, c.plane_of-plan.ensures.plane, c.loop-n-test.true) in
    rw c.plane_of-plan.ensures.q (subst (λ n. AwaitDcs n c.args.sent.now.q (blocks_in (numbers_in c.loop-n.cells))) e c.loop-n.invariant.dcs)

pub loop-n-preserved : goal.loop-n-preserved
loop-n-preserved g c =
    let x = c.take_plane-read.ensures in
    let i = c.loop-n.invariant in
    let s = c.args.sent.now in
    let n = c.loop-n.n in
    let plan = c.plane_of-plan.result in
    let p = s.below - 1 - n in
    let q = c.plane_of-plan.ensures in
    let book = c.args.tables.now.words.book in
    let depths = depths_of c.args.marks.now in
    let next : s.below - n ≡ suc p = omega (arith, c.loop-n-test.true) in
    let here : s.below - n ≡ p + 1 = omega (arith, c.loop-n-test.true) in
    let after : p ≡ s.below - (n + 1) = omega arith in
    let is : plan.plane ≡ p = q.plane in
    let cells = c.take_plane-read.new.cells in
    let now = blocks_in (numbers_in cells) in
    let old = blocks_in (numbers_in c.loop-n.cells) in
    let whole : length c.loop-n.cells ≡ 64 * length depths = omega (arith, i.size, c.requires.whole, length-depths_of c.args.marks.now) in
    let ready = subst (λ m. AreReady m cells) is x.ready in
    let await = subst (λ m. AwaitDcs m s.q old) here i.dcs in
    let still = subst (λ m. AwaitDcs m s.q now) is (rw q.q at x.dcs) in
    let stop : s.stop ≤ p = omega (arith, c.loop-n-test.true) in
    let low : p < 27 = omega (arith, c.loop-n-test.true, c.requires.below) in
    let taken = plane_as book s plan p (c.last_of.result + 1) (depths_of c.loop-n.marks) depths old c.take_plane-read.result cells is q.q q.weights i.depths
    x.plane in
    record {
      is_in = x.is_in;
      ready = subst (λ m. AreReady m cells) after ready;
      dcs = subst (λ m. AwaitDcs m s.q now) after still;
      below = x.below s.below (omega (arith, is, c.loop-n-test.true)) i.below;
      depths = x.depths ∙ i.depths;
      size = x.size ∙ i.size;
      reached = λ some. subst (λ m. (r : ℕ) → 64 * r < length cells → IsReached s.q m r cells) after
          (is_reached book s.weights.shifts s.q depths p (c.last_of.result + 1) low c.loop-n.cells cells whole x.size ready await still
          c.take_plane-read.result taken);
      read = λ h same lows. read_more book s depths n p next stop low c.loop-n.cells cells whole x.size ready await still (c.last_of.result + 1)
          c.last_of.ensures.stages c.take_plane-read.result taken (i.read h same lows) (c.is_whole.ensures.whole c.if-not-is_whole.false);
    }

pub returns-then-not-is_whole-clause-planes : goal.returns-then-not-is_whole-clause-planes
returns-then-not-is_whole-clause-planes g c = λ h same lows.
    let x = c.take_plane-read.ensures in
    let i = c.loop-n.invariant in
    let s = c.args.sent.now in
    let n = c.loop-n.n in
    let plan = c.plane_of-plan.result in
    let p = s.below - 1 - n in
    let q = c.plane_of-plan.ensures in
    let book = c.args.tables.now.words.book in
    let depths = depths_of c.args.marks.now in
    let next : s.below - n ≡ suc p = omega (arith, c.loop-n-test.true) in
    let here : s.below - n ≡ p + 1 = omega (arith, c.loop-n-test.true) in
    let is : plan.plane ≡ p = q.plane in
    let cells = c.take_plane-read.new.cells in
    let now = blocks_in (numbers_in cells) in
    let old = blocks_in (numbers_in c.loop-n.cells) in
    let whole : length c.loop-n.cells ≡ 64 * length depths = omega (arith, i.size, c.requires.whole, length-depths_of c.args.marks.now) in
    let ready = subst (λ m. AreReady m cells) is x.ready in
    let await = subst (λ m. AwaitDcs m s.q old) here i.dcs in
    let still = subst (λ m. AwaitDcs m s.q now) is (rw q.q at x.dcs) in
    let stop : s.stop ≤ p = omega (arith, c.loop-n-test.true) in
    let low : p < 27 = omega (arith, c.loop-n-test.true, c.requires.below) in
    let taken = plane_as book s plan p (c.last_of.result + 1) (depths_of c.loop-n.marks) depths old c.take_plane-read.result cells is q.q q.weights i.depths
    x.plane in
    read_end book s depths n p next stop low c.loop-n.cells cells whole x.size ready await still (c.last_of.result + 1)
    c.last_of.ensures.stages c.take_plane-read.result taken (i.read h same lows) (c.is_whole.ensures.part c.if-not-is_whole.true)

pub returns-then-not-is_whole-clause-reached : goal.returns-then-not-is_whole-clause-reached
returns-then-not-is_whole-clause-reached g c =
    let x = c.take_plane-read.ensures in
    let i = c.loop-n.invariant in
    let s = c.args.sent.now in
    let n = c.loop-n.n in
    let plan = c.plane_of-plan.result in
    let p = s.below - 1 - n in
    let q = c.plane_of-plan.ensures in
    let book = c.args.tables.now.words.book in
    let depths = depths_of c.args.marks.now in
    let here : s.below - n ≡ p + 1 = omega (arith, c.loop-n-test.true) in
    let is : plan.plane ≡ p = q.plane in
    let cells = c.take_plane-read.new.cells in
    let now = blocks_in (numbers_in cells) in
    let old = blocks_in (numbers_in c.loop-n.cells) in
    let whole : length c.loop-n.cells ≡ 64 * length depths = omega (arith, i.size, c.requires.whole, length-depths_of c.args.marks.now) in
    let ready = subst (λ m. AreReady m cells) is x.ready in
    let await = subst (λ m. AwaitDcs m s.q old) here i.dcs in
    let still = subst (λ m. AwaitDcs m s.q now) is (rw q.q at x.dcs) in
    let low : p < 27 = omega (arith, c.loop-n-test.true, c.requires.below) in
    let taken = plane_as book s plan p (c.last_of.result + 1) (depths_of c.loop-n.marks) depths old c.take_plane-read.result cells is q.q q.weights i.depths
    x.plane in
    is_reached book s.weights.shifts s.q depths p (c.last_of.result + 1) low c.loop-n.cells cells whole x.size ready await still
    c.take_plane-read.result taken

pub returns-then-not-is_whole-clause-empty : goal.returns-then-not-is_whole-clause-empty
returns-then-not-is_whole-clause-empty g c =
    let is = c.plane_of-plan.ensures.plane in
    c.take_plane-read.ensures.below c.args.sent.now.below (omega (arith, is, c.loop-n-test.true)) c.loop-n.invariant.below

pub returns-clause-planes : goal.returns-clause-planes
returns-clause-planes g c = λ h same lows.
    let i = c.loop-n.invariant in
    read_all c.args.tables.now.words.book c.args.sent.now (depths_of c.args.marks.now) c.loop-n.n c.loop-n.cells i.is_in (omega (
      arith,
      c.loop-n-test.false,
      c.requires.some,
    )) (omega (arith, c.loop-n-test.false, c.loop-n.auto.n-end, c.requires.some)) (omega (arith, i.size, c.requires.whole)) (i.read h same lows)

pub returns-clause-reached : goal.returns-clause-reached
returns-clause-reached g c =
    let s = c.args.sent.now in
    let last : s.below - c.loop-n.n ≡ s.stop = omega (arith, c.loop-n-test.false, c.loop-n.auto.n-end, c.requires.some) in
    subst (λ b. (r : ℕ) → 64 * r < length c.loop-n.cells → IsReached s.q b r c.loop-n.cells) last (c.loop-n.invariant.reached (omega (
      arith,
      c.loop-n-test.false,
      c.requires.some,
    )))
