use Rattle.std.proofs.Common.{ℕ, ◌*◌, ◌+◌, ◌^◌, ◌<◌, ◌≤◌, length, ◌∙◌, arith, w32}
use Rattle.std.proofs.lemmas.Int.{to_z-of_z}
use Rattle.wave_defs.specs.Held.{signal}
use Rattle.wave_defs.specs.Lifted.{less_correction}
use Rattle.wave_defs.proofs.Filled.{Agrees-set}
use Rattle.wave_defs.proofs.Equations.{less_correction-is}
use Rattle.lift_lanes.proofs.Loads.{AllWithin-load, load, store, length-passed}
use Rattle.lift_lanes.proofs.Steps.{less_correction-within, less_correction-same}
use Rattle.lift_lanes.proofs.narrow_onto.update_sub_onto.Goals as goal

pub low_lanes-lanes-requires-clause-bounded : goal.low_lanes-lanes-requires-clause-bounded
low_lanes-lanes-requires-clause-bounded c =
    AllWithin-load w32 8 (2 ^ 26) (8 * c.lanes.k) (length c.args.low.now) _ (omega arith) (omega arith) (omega arith) c.requires.bounded

pub low_lanes-lanes-requires-clause-bounded_before : goal.low_lanes-lanes-requires-clause-bounded_before
low_lanes-lanes-requires-clause-bounded_before c =
    AllWithin-load w32 8 (2 ^ 26) (8 * c.lanes.k) (length c.args.low.now) _ (omega arith) (omega arith) (omega arith) c.requires.bounded_before

pub low_lanes-lanes-requires-clause-bounded_after : goal.low_lanes-lanes-requires-clause-bounded_after
low_lanes-lanes-requires-clause-bounded_after c =
    AllWithin-load w32 8 (2 ^ 26) (8 * c.lanes.k) (length c.args.low.now) _ (omega arith) (omega arith) (omega arith) c.requires.bounded_after

pub lanes-preserved : goal.lanes-preserved
lanes-preserved c =
    let n = length c.args.low.now in
    let i = 8 * c.lanes.k in
    let f = less_correction (signal c.args.even.now) (signal c.args.before.now) (signal c.args.after.now) in
    let many = c.low_lanes-lanes.ensures.long in
    let long = length-passed w32 c.low_lanes-lanes.result in
    let room : i + 8 ≤ n = omega arith in
    let same = λ (r : ℕ) (h : r < 8).
    less_correction-same r (i + r) _ _ _ (signal c.args.even.now) (signal c.args.before.now) (signal c.args.after.now)
    (load w32 8 (2 ^ 26) i r c.args.even.now h (omega arith) (omega arith) (c.requires.bounded.at (i + r) (omega arith)))
    (load w32 8 (2 ^ 26) i r c.args.before.now h (omega arith) (omega arith) (c.requires.bounded_before.at (i + r) (omega arith)))
    (load w32 8 (2 ^ 26) i r c.args.after.now h (omega arith) (omega arith) (c.requires.bounded_after.at (i + r) (omega arith))) in
    let small = λ (r : ℕ) (h : r < 8).
    less_correction-within (2 ^ 26) (i + r) (signal c.args.even.now) (signal c.args.before.now) (signal c.args.after.now) (omega arith)
    (c.requires.bounded.at (i + r) (omega arith)) (c.requires.bounded_before.at (i + r) (omega arith))
    (c.requires.bounded_after.at (i + r) (omega arith)) in
    let stored = store w32 8 (2 * 2 ^ 26) i n c.lanes.low c.low_lanes-lanes.result f c.lanes.auto.low room many (omega arith) small
    (λ r h. c.low_lanes-lanes.ensures.value.at r h ∙ same r h) c.lanes.invariant in
    record { at = λ p h. stored.at p (omega arith) }

pub rest-preserved : goal.rest-preserved
rest-preserved c = Agrees-set _ _ _ _ (omega arith) c.rest.invariant (grind (arith, to_z-of_z, less_correction-is))
