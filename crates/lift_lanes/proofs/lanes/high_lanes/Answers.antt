use Rattle.std.proofs.Common.{ℕ, pos, ◌^◌, ◌<◌, refl, arith, w32}
use Rattle.std.proofs.lemmas.Int.{ints}
use Rattle.wave_defs.proofs.Floors.{predicted-within}
use Rattle.wave_defs.proofs.Equations.{less_predicted-is, predicted-is}
use Rattle.lift_lanes.proofs.LaneSteps.{Lane-of, Lane-splat, Lane-shr, Lane-value, Lane-long, add_32, sub_32, mul_32}
use Rattle.lift_lanes.proofs.lanes.high_lanes.Goals as goal

pub returns : goal.returns
returns c =
    let lane = λ (k : ℕ) (h : k < 8).
    let ro = c.requires.bounded.at k h in
    let ra = c.requires.bounded_a.at k h in
    let rb = c.requires.bounded_b.at k h in
    let rc = c.requires.bounded_c.at k h in
    let rd = c.requires.bounded_d.at k h in
    let o = Lane-of w32 8 k h c.args.odd c.requires.many.0 (omega (arith, ints)) in
    let a = Lane-of w32 8 k h c.args.a c.requires.many.1 (omega (arith, ints)) in
    let b = Lane-of w32 8 k h c.args.b c.requires.many.2 (omega (arith, ints)) in
    let e = Lane-of w32 8 k h c.args.c c.requires.many.3 (omega (arith, ints)) in
    let d = Lane-of w32 8 k h c.args.d c.requires.many.4 (omega (arith, ints)) in
    let near = mul_32 8 k h _ _ _ _ (Lane-splat w32 8 k h (pos 9) (omega (arith, ints))) (add_32 8 k h _ _ _ _ b e (omega (arith, ints)))
    (omega (arith, ints)) in
    let far = add_32 8 k h _ _ _ _ a d (omega (arith, ints)) in
    let sum = add_32 8 k h _ _ _ _ (sub_32 8 k h _ _ _ _ near far (omega (arith, ints))) (Lane-splat w32 8 k h (pos 8) (omega (arith, ints)))
    (omega (arith, ints)) in
    let small = rw predicted-is at (predicted-within (2 ^ 25) _ _ _ _ (omega arith) ra rb rc rd) in
    sub_32 8 k h _ _ _ _ o (Lane-shr w32 8 k h 4 16 _ _ _ refl refl sum (Lane-splat w32 8 k h (pos 4) (omega (arith, ints)))) (omega (arith, ints)) in
    record {
      long = Lane-long w32 8 0 (omega arith) _ _ (lane 0 (omega arith));
      value = record { at = λ k h. rw (less_predicted-is, predicted-is) (Lane-value w32 8 k h _ _ (lane k h)) };
    }
