use Rattle.std.proofs.Common.{◌≡◌, ◌+◌, ◌-◌, ◌*◌, ◌/◌, List, ℕ, min, subst, arith}
use Rattle.block_masks.specs.SegmentNumbers.{PutsPlanes}
use Rattle.block_masks.proofs.PuttingPlanes.{no_plane_put, plane_put, none_shown, all_planes}
use Rattle.block_masks.proofs.SegmentWords.{within_slots}
use Rattle.block_masks.proofs.segment_masks.put_planes.Goals as goal
use Rattle.block_masks.proofs.segment_masks.put_planes.Goals.{in-1, in_default, then-eights-gt0, else-eights-gt0}

pub loop-eight-init : goal.loop-eight-init
loop-eight-init c =
    let at = c.args.at in
    let puts : ℕ → List ℕ → Type 0 = λ n words. PutsPlanes n at.step at.block c.args.block.now c.args.words.now words in
    let none : 0 ≡ min 0 (at.slots - 2) = omega arith in
    record {
      puts = c.put_eight_planes.ensures c.args.words.now (subst (λ n. puts n c.args.words.now) none
          (no_plane_put at.step at.block c.args.block.now c.args.words.now));
      few = omega arith;
    }

pub loop-eight-preserved : goal.loop-eight-preserved
loop-eight-preserved c =
    let at = c.args.at in
    let puts : ℕ → List ℕ → Type 0 = λ n words. PutsPlanes (min n (at.slots - 2)) at.step at.block c.args.block.now c.args.words.now words in
    let more : (from : ℕ) (new : List ℕ) → 8 * c.loop-eight.eight ≡ from → (puts from c.loop-eight.words → puts (from + 8) new) →
    puts (8 * (c.loop-eight.eight + 1)) new = λ from new is step.
    let next : from + 8 ≡ 8 * (c.loop-eight.eight + 1) = omega (arith, is) in
    subst (λ n. puts n new) next (step (subst (λ n. puts n c.loop-eight.words) is c.loop-eight.invariant.puts)) in
    record {
      puts = elim c.match-eight.branch [
        | in-1 w ↦ rw w.words-is (more 8 _ (omega (arith, w.in-1)) (w.put_eight_planes-in-1.ensures c.args.words.now))
        | in_default w ↦
            rw w.words-is (more 16 _ (omega (
              arith,
              w.in_default,
              c.loop-eight.auto.eight,
              c.loop-eight-test.true,
              c.saturating_sub-eights.ensures,
              c.requires.least,
              c.requires.most,
            )) (w.put_eight_planes-in_default.ensures c.args.words.now))
      ];
      few = omega (arith, c.loop-eight-test.true);
    }

pub loop-plane-init : goal.loop-plane-init
loop-plane-init c =
    let at = c.args.at in
    let puts : ℕ → List ℕ → Type 0 = λ n words. PutsPlanes n at.step at.block c.args.block.now c.args.words.now words in
    let so_far = c.loop-eight.invariant.puts in
    let ends = c.loop-eight.invariant.few in
    elim c.if-eights-gt0.branch [
      | then-eights-gt0 w ↦
          let before : min (8 * c.loop-eight.eight) (at.slots - 2) ≡ c.args.planes - (c.args.planes - 8 * (c.saturating_sub-eights.result / 8)) =
          omega (arith, w.if-eights-gt0.true, c.loop-eight-test.false, ends, c.saturating_sub-eights.ensures, c.requires.least) in
          let all : c.args.planes ≡ c.min-plane.result =
          omega (arith, w.if-eights-gt0.true, c.saturating_sub-eights.ensures, c.max.ensures, c.min-plane.ensures, c.requires.least) in
          rw w.words-is (subst (λ n. puts n w.put_high_planes.new.words) all (w.put_high_planes.ensures c.args.words.now
          (subst (λ n. puts n c.loop-eight.words) before so_far)))
      | else-eights-gt0 w ↦
          let all : min (8 * c.loop-eight.eight) (at.slots - 2) ≡ c.min-plane.result =
          omega (
            arith,
            w.if-eights-gt0.false,
            c.loop-eight-test.false,
            c.loop-eight.auto.eight,
            ends,
            c.saturating_sub-eights.ensures,
            c.max.ensures,
            c.min-plane.ensures,
          ) in
          rw w.words-is (subst (λ n. puts n c.loop-eight.words) all so_far)
    ]

pub bounds-words-at : goal.bounds-words-at
bounds-words-at c =
    let at = c.args.at in
    let known = within_slots at.step at.slots (2 + c.loop-plane.plane) at.block _ c.requires.long (omega (arith, c.loop-plane-test.true)) c.requires.within in
    omega (arith, known, c.loop-plane.auto.words, c.loop-plane.invariant.long)

pub loop-plane-preserved : goal.loop-plane-preserved
loop-plane-preserved c =
    let plane = c.loop-plane.plane in
    let within = within_slots c.args.at.step c.args.at.slots (2 + plane) c.args.at.block _ c.requires.long (omega (arith, c.loop-plane-test.true))
    c.requires.within in
    plane_put within c.requires.within c.loop-plane.invariant
    (none_shown c.args.block.now plane (λ k. c.requires.none k plane
    (omega (arith, c.loop-plane.auto.plane, c.max.ensures, c.min-plane.ensures, c.requires.least))
    (omega (arith, c.loop-plane-test.true, c.requires.most))))

pub returns : goal.returns
returns c =
    all_planes c.requires.long (omega (arith, c.loop-plane-test.false))
    (λ k p le lt. c.requires.none k p (omega (
      arith,
      le,
      c.loop-plane.auto.plane,
      c.loop-plane.auto.plane-end,
      c.max.ensures,
      c.min-plane.ensures,
      c.requires.least,
    )) lt) c.loop-plane.invariant
