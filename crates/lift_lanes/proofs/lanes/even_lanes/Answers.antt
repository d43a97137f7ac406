use Rattle.std.proofs.Common.{ℕ, pos, ◌^◌, ◌<◌, refl, arith, w64}
use Rattle.std.proofs.lemmas.Int.{ints}
use Rattle.wave_defs.proofs.Floors.{correction-within}
use Rattle.wave_defs.proofs.Equations.{correction-is, plus_correction-is}
use Rattle.lift_lanes.proofs.LaneSteps.{Lane-of, Lane-splat, Lane-shr, Lane-value, Lane-long, add_64, sub_64}
use Rattle.lift_lanes.proofs.lanes.even_lanes.Goals as goal

pub returns : goal.returns
returns c =
    let lane = λ (k : ℕ) (h : k < 4).
    let re = c.requires.bounded.at k h in
    let rb = c.requires.bounded_before.at k h in
    let ra = c.requires.bounded_after.at k h in
    let e = Lane-of w64 4 k h c.args.low c.requires.many.0 (omega (arith, ints)) in
    let b = Lane-of w64 4 k h c.args.before c.requires.many.1 (omega (arith, ints)) in
    let a = Lane-of w64 4 k h c.args.after c.requires.many.2 (omega (arith, ints)) in
    let both = add_64 k h _ _ _ _ b a (omega (arith, ints)) in
    let less = sub_64 k h _ _ _ _ (Lane-splat w64 4 k h (pos 2) (omega (arith, ints))) both (omega (arith, ints)) in
    let small = rw correction-is at (correction-within (2 ^ 40) _ _ (omega arith) rb ra) in
    add_64 k h _ _ _ _ e (Lane-shr w64 4 k h 2 4 _ _ _ refl refl less (Lane-splat w64 4 k h (pos 2) (omega (arith, ints)))) (omega (arith, ints)) in
    record {
      long = Lane-long w64 4 0 (omega arith) _ _ (lane 0 (omega arith));
      value = record { at = λ k h. rw (plus_correction-is, correction-is) (Lane-value w64 4 k h _ _ (lane k h)) };
    }
