use Rattle.std.proofs.Common.{ℕ, pos, ◌*◌, ◌+◌, ◌^◌, ◌<◌, ◌≤◌, ◌≢◌, length, ◌∙◌, sym, subst, arith, get_or-set_other, w64}
use Rattle.std.proofs.lemmas.Int.{to_z-of_z}
use Rattle.std.proofs.lemmas.Simd.{get_or-put_chunk_above}
use Rattle.wave_defs.specs.Within.{IsWithin}
use Rattle.wave_defs.specs.Held.{signal}
use Rattle.wave_defs.specs.Lifted.{plus_predicted}
use Rattle.wave_defs.proofs.Filled.{Agrees-set}
use Rattle.wave_defs.proofs.Equations.{plus_predicted-is}
use Rattle.lift_lanes.proofs.Loads.{AllWithin-left, AllWithin-load, load, store, length-passed}
use Rattle.lift_lanes.proofs.Steps.{plus_predicted-within, plus_predicted-same}
use Rattle.lift_lanes.proofs.wide.predict_add.Goals as goal

pub odd_lanes-lanes-requires-clause-bounded : goal.odd_lanes-lanes-requires-clause-bounded
odd_lanes-lanes-requires-clause-bounded c =
    AllWithin-left w64 4 (2 ^ 40) (4 * c.lanes.k) (length c.args.odd.now) c.lanes.odd c.args.odd.now (omega arith) (omega arith) (omega arith)
    c.lanes.invariant.left c.requires.bounded

pub odd_lanes-lanes-requires-clause-bounded_a : goal.odd_lanes-lanes-requires-clause-bounded_a
odd_lanes-lanes-requires-clause-bounded_a c =
    AllWithin-load w64 4 (2 ^ 40) (4 * c.lanes.k) (length c.args.odd.now) _ (omega arith) (omega arith) (omega arith) c.requires.bounded_a

pub odd_lanes-lanes-requires-clause-bounded_b : goal.odd_lanes-lanes-requires-clause-bounded_b
odd_lanes-lanes-requires-clause-bounded_b c =
    AllWithin-load w64 4 (2 ^ 40) (4 * c.lanes.k) (length c.args.odd.now) _ (omega arith) (omega arith) (omega arith) c.requires.bounded_b

pub odd_lanes-lanes-requires-clause-bounded_c : goal.odd_lanes-lanes-requires-clause-bounded_c
odd_lanes-lanes-requires-clause-bounded_c c =
    AllWithin-load w64 4 (2 ^ 40) (4 * c.lanes.k) (length c.args.odd.now) _ (omega arith) (omega arith) (omega arith) c.requires.bounded_c

pub odd_lanes-lanes-requires-clause-bounded_d : goal.odd_lanes-lanes-requires-clause-bounded_d
odd_lanes-lanes-requires-clause-bounded_d c =
    AllWithin-load w64 4 (2 ^ 40) (4 * c.lanes.k) (length c.args.odd.now) _ (omega arith) (omega arith) (omega arith) c.requires.bounded_d

pub lanes-preserved : goal.lanes-preserved
lanes-preserved c =
    let n = length c.args.odd.now in
    let i = 4 * c.lanes.k in
    let f = plus_predicted (signal c.args.odd.now) (signal c.args.a.now) (signal c.args.b.now) (signal c.args.c.now) (signal c.args.d.now) in
    let many = c.odd_lanes-lanes.ensures.long in
    let long = length-passed w64 c.odd_lanes-lanes.result in
    let room : i + 4 ≤ n = omega arith in
    let same = λ (r : ℕ) (h : r < 4).
    let e = c.lanes.invariant.left (i + r) (omega arith) in
    let within = subst (IsWithin (2 ^ 40)) (sym e) (c.requires.bounded.at (i + r) (omega arith)) in
    plus_predicted-same r (i + r) _ _ _ _ _ (signal c.args.odd.now) (signal c.args.a.now) (signal c.args.b.now) (signal c.args.c.now) (signal c.args.d.now)
    (load w64 4 (2 ^ 40) i r c.lanes.odd h (omega arith) (omega arith) within ∙ e)
    (load w64 4 (2 ^ 40) i r c.args.a.now h (omega arith) (omega arith) (c.requires.bounded_a.at (i + r) (omega arith)))
    (load w64 4 (2 ^ 40) i r c.args.b.now h (omega arith) (omega arith) (c.requires.bounded_b.at (i + r) (omega arith)))
    (load w64 4 (2 ^ 40) i r c.args.c.now h (omega arith) (omega arith) (c.requires.bounded_c.at (i + r) (omega arith)))
    (load w64 4 (2 ^ 40) i r c.args.d.now h (omega arith) (omega arith) (c.requires.bounded_d.at (i + r) (omega arith))) in
    let small = λ (r : ℕ) (h : r < 4).
    plus_predicted-within (2 ^ 39) (i + r) (signal c.args.odd.now) (signal c.args.a.now) (signal c.args.b.now) (signal c.args.c.now) (signal c.args.d.now)
    (omega arith) (c.requires.bounded.at (i + r) (omega arith)) (c.requires.bounded_a.at (i + r) (omega arith))
    (c.requires.bounded_b.at (i + r) (omega arith)) (c.requires.bounded_c.at (i + r) (omega arith)) (c.requires.bounded_d.at (i + r) (omega arith)) in
    let stored = store w64 4 (5 * 2 ^ 39) i n c.lanes.odd c.odd_lanes-lanes.result f c.lanes.auto.odd room many (omega arith) small
    (λ r h. c.odd_lanes-lanes.ensures.value.at r h ∙ same r h) c.lanes.invariant.done in
    record {
      done = record { at = λ p h. stored.at p (omega arith) };
      left = λ p h. get_or-put_chunk_above i c.lanes.odd _ p (pos 0) (omega arith) ∙ c.lanes.invariant.left p (omega arith);
    }

pub rest-preserved : goal.rest-preserved
rest-preserved c =
    let e = c.rest.invariant.left c.rest.j (omega arith) in
    record {
      done = Agrees-set _ _ _ _ (omega arith) c.rest.invariant.done (grind (arith, to_z-of_z, plus_predicted-is));
      left = λ p h. let ne : p ≢ c.rest.j = omega arith in rw get_or-set_other (c.rest.invariant.left p (omega arith));
    }
