use Rattle.std.proofs.Common.{ℕ, ◌*◌, ◌+◌, ◌^◌, ◌<◌, ◌≤◌, length, ◌∙◌, arith, w32}
use Rattle.std.proofs.lemmas.Int.{to_z-of_z}
use Rattle.wave_defs.specs.Held.{signal}
use Rattle.wave_defs.specs.Lifted.{less_predicted}
use Rattle.wave_defs.proofs.Filled.{Agrees-set}
use Rattle.wave_defs.proofs.Equations.{less_predicted-is}
use Rattle.lift_lanes.proofs.Loads.{AllWithin-load, load, store, length-passed}
use Rattle.lift_lanes.proofs.Steps.{less_predicted-within, less_predicted-same}
use Rattle.lift_lanes.proofs.narrow_onto.predict_sub_onto.Goals as goal

pub high_lanes-lanes-requires-clause-bounded : goal.high_lanes-lanes-requires-clause-bounded
high_lanes-lanes-requires-clause-bounded c =
    AllWithin-load w32 8 (2 ^ 26) (8 * c.lanes.k) (length c.args.high.now) _ (omega arith) (omega arith) (omega arith) c.requires.bounded

pub high_lanes-lanes-requires-clause-bounded_a : goal.high_lanes-lanes-requires-clause-bounded_a
high_lanes-lanes-requires-clause-bounded_a c =
    AllWithin-load w32 8 (2 ^ 26) (8 * c.lanes.k) (length c.args.high.now) _ (omega arith) (omega arith) (omega arith) c.requires.bounded_a

pub high_lanes-lanes-requires-clause-bounded_b : goal.high_lanes-lanes-requires-clause-bounded_b
high_lanes-lanes-requires-clause-bounded_b c =
    AllWithin-load w32 8 (2 ^ 26) (8 * c.lanes.k) (length c.args.high.now) _ (omega arith) (omega arith) (omega arith) c.requires.bounded_b

pub high_lanes-lanes-requires-clause-bounded_c : goal.high_lanes-lanes-requires-clause-bounded_c
high_lanes-lanes-requires-clause-bounded_c c =
    AllWithin-load w32 8 (2 ^ 26) (8 * c.lanes.k) (length c.args.high.now) _ (omega arith) (omega arith) (omega arith) c.requires.bounded_c

pub high_lanes-lanes-requires-clause-bounded_d : goal.high_lanes-lanes-requires-clause-bounded_d
high_lanes-lanes-requires-clause-bounded_d c =
    AllWithin-load w32 8 (2 ^ 26) (8 * c.lanes.k) (length c.args.high.now) _ (omega arith) (omega arith) (omega arith) c.requires.bounded_d

pub lanes-preserved : goal.lanes-preserved
lanes-preserved c =
    let n = length c.args.high.now in
    let i = 8 * c.lanes.k in
    let f = less_predicted (signal c.args.odd.now) (signal c.args.evens.second_before.now) (signal c.args.evens.before.now) (signal c.args.evens.after.now)
    (signal c.args.evens.second_after.now) in
    let many = c.high_lanes-lanes.ensures.long in
    let long = length-passed w32 c.high_lanes-lanes.result in
    let room : i + 8 ≤ n = omega arith in
    let same = λ (r : ℕ) (h : r < 8).
    less_predicted-same r (i + r) _ _ _ _ _ (signal c.args.odd.now) (signal c.args.evens.second_before.now) (signal c.args.evens.before.now) (signal
    c.args.evens.after.now) (signal c.args.evens.second_after.now)
    (load w32 8 (2 ^ 26) i r c.args.odd.now h (omega arith) (omega arith) (c.requires.bounded.at (i + r) (omega arith)))
    (load w32 8 (2 ^ 26) i r c.args.evens.second_before.now h (omega arith) (omega arith) (c.requires.bounded_a.at (i + r) (omega arith)))
    (load w32 8 (2 ^ 26) i r c.args.evens.before.now h (omega arith) (omega arith) (c.requires.bounded_b.at (i + r) (omega arith)))
    (load w32 8 (2 ^ 26) i r c.args.evens.after.now h (omega arith) (omega arith) (c.requires.bounded_c.at (i + r) (omega arith)))
    (load w32 8 (2 ^ 26) i r c.args.evens.second_after.now h (omega arith) (omega arith) (c.requires.bounded_d.at (i + r) (omega arith))) in
    let small = λ (r : ℕ) (h : r < 8).
    less_predicted-within (2 ^ 25) (i + r) (signal c.args.odd.now) (signal c.args.evens.second_before.now) (signal c.args.evens.before.now) (signal
    c.args.evens.after.now) (signal c.args.evens.second_after.now)
    (omega arith) (c.requires.bounded.at (i + r) (omega arith)) (c.requires.bounded_a.at (i + r) (omega arith))
    (c.requires.bounded_b.at (i + r) (omega arith)) (c.requires.bounded_c.at (i + r) (omega arith)) (c.requires.bounded_d.at (i + r) (omega arith)) in
    let stored = store w32 8 (5 * 2 ^ 25) i n c.lanes.high c.high_lanes-lanes.result f c.lanes.auto.high room many (omega arith) small
    (λ r h. c.high_lanes-lanes.ensures.value.at r h ∙ same r h) c.lanes.invariant in
    record { at = λ p h. stored.at p (omega arith) }

pub rest-preserved : goal.rest-preserved
rest-preserved c = Agrees-set _ _ _ _ (omega arith) c.rest.invariant (grind (arith, to_z-of_z, less_predicted-is))
