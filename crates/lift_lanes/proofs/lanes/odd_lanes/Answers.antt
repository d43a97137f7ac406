use Rattle.std.proofs.Common.{ℕ, pos, ◌^◌, ◌<◌, refl, arith, w64}
use Rattle.std.proofs.lemmas.Int.{ints}
use Rattle.wave_defs.proofs.Floors.{predicted-within}
use Rattle.wave_defs.proofs.Equations.{plus_predicted-is, predicted-is}
use Rattle.lift_lanes.proofs.LaneSteps.{Lane-of, Lane-splat, Lane-shr, Lane-value, Lane-long, add_64, sub_64, mul_64}
use Rattle.lift_lanes.proofs.lanes.odd_lanes.Goals as goal

pub returns : goal.returns
returns c =
    let lane = λ (k : ℕ) (h : k < 4).
    let ro = c.requires.bounded.at k h in
    let ra = c.requires.bounded_a.at k h in
    let rb = c.requires.bounded_b.at k h in
    let rc = c.requires.bounded_c.at k h in
    let rd = c.requires.bounded_d.at k h in
    let o = Lane-of w64 4 k h c.args.high c.requires.many.0 (omega (arith, ints)) in
    let a = Lane-of w64 4 k h c.args.a c.requires.many.1 (omega (arith, ints)) in
    let b = Lane-of w64 4 k h c.args.b c.requires.many.2 (omega (arith, ints)) in
    let e = Lane-of w64 4 k h c.args.c c.requires.many.3 (omega (arith, ints)) in
    let d = Lane-of w64 4 k h c.args.d c.requires.many.4 (omega (arith, ints)) in
    let near = mul_64 k h _ _ _ _ (Lane-splat w64 4 k h (pos 9) (omega (arith, ints))) (add_64 k h _ _ _ _ b e (omega (arith, ints))) (omega (arith, ints)) in
    let far = add_64 k h _ _ _ _ a d (omega (arith, ints)) in
    let sum = add_64 k h _ _ _ _ (sub_64 k h _ _ _ _ near far (omega (arith, ints))) (Lane-splat w64 4 k h (pos 8) (omega (arith, ints)))
    (omega (arith, ints)) in
    let small = rw predicted-is at (predicted-within (2 ^ 39) _ _ _ _ (omega arith) ra rb rc rd) in
    add_64 k h _ _ _ _ o (Lane-shr w64 4 k h 4 16 _ _ _ refl refl sum (Lane-splat w64 4 k h (pos 4) (omega (arith, ints)))) (omega (arith, ints)) in
    record {
      long = Lane-long w64 4 0 (omega arith) _ _ (lane 0 (omega arith));
      value = record { at = λ k h. rw (plus_predicted-is, predicted-is) (Lane-value w64 4 k h _ _ (lane k h)) };
    }
