use Rattle.std.proofs.Common.{ℕ, pos, ◌*◌, ◌+◌, ◌^◌, ◌<◌, ◌≤◌, ◌≢◌, length, ◌∙◌, sym, subst, arith, get_or-set_other, w32}
use Rattle.std.proofs.lemmas.Int.{to_z-of_z}
use Rattle.std.proofs.lemmas.Simd.{get_or-put_chunk_above}
use Rattle.wave_defs.specs.Within.{IsWithin}
use Rattle.wave_defs.specs.Held.{signal}
use Rattle.wave_defs.specs.Lifted.{less_correction}
use Rattle.wave_defs.proofs.Filled.{Agrees-set}
use Rattle.wave_defs.proofs.Equations.{less_correction-is}
use Rattle.lift_lanes.proofs.Loads.{AllWithin-left, AllWithin-load, load, store, length-passed}
use Rattle.lift_lanes.proofs.Steps.{less_correction-within, less_correction-same}
use Rattle.lift_lanes.proofs.narrow.update_sub.Goals as goal

pub low_lanes-lanes-requires-clause-bounded : goal.low_lanes-lanes-requires-clause-bounded
low_lanes-lanes-requires-clause-bounded c =
    AllWithin-left w32 8 (2 ^ 26) (8 * c.lanes.k) (length c.args.even.now) c.lanes.even c.args.even.now (omega arith) (omega arith) (omega arith)
    c.lanes.invariant.left c.requires.bounded

pub low_lanes-lanes-requires-clause-bounded_before : goal.low_lanes-lanes-requires-clause-bounded_before
low_lanes-lanes-requires-clause-bounded_before c =
    AllWithin-load w32 8 (2 ^ 26) (8 * c.lanes.k) (length c.args.even.now) _ (omega arith) (omega arith) (omega arith) c.requires.bounded_before

pub low_lanes-lanes-requires-clause-bounded_after : goal.low_lanes-lanes-requires-clause-bounded_after
low_lanes-lanes-requires-clause-bounded_after c =
    AllWithin-load w32 8 (2 ^ 26) (8 * c.lanes.k) (length c.args.even.now) _ (omega arith) (omega arith) (omega arith) c.requires.bounded_after

pub lanes-preserved : goal.lanes-preserved
lanes-preserved c =
    let n = length c.args.even.now in
    let i = 8 * c.lanes.k in
    let f = less_correction (signal c.args.even.now) (signal c.args.before.now) (signal c.args.after.now) in
    let many = c.low_lanes-lanes.ensures.long in
    let long = length-passed w32 c.low_lanes-lanes.result in
    let room : i + 8 ≤ n = omega arith in
    let same = λ (r : ℕ) (h : r < 8).
    let e = c.lanes.invariant.left (i + r) (omega arith) in
    let within = subst (IsWithin (2 ^ 26)) (sym e) (c.requires.bounded.at (i + r) (omega arith)) in
    less_correction-same r (i + r) _ _ _ (signal c.args.even.now) (signal c.args.before.now) (signal c.args.after.now)
    (load w32 8 (2 ^ 26) i r c.lanes.even h (omega arith) (omega arith) within ∙ e)
    (load w32 8 (2 ^ 26) i r c.args.before.now h (omega arith) (omega arith) (c.requires.bounded_before.at (i + r) (omega arith)))
    (load w32 8 (2 ^ 26) i r c.args.after.now h (omega arith) (omega arith) (c.requires.bounded_after.at (i + r) (omega arith))) in
    let small = λ (r : ℕ) (h : r < 8).
    less_correction-within (2 ^ 26) (i + r) (signal c.args.even.now) (signal c.args.before.now) (signal c.args.after.now) (omega arith)
    (c.requires.bounded.at (i + r) (omega arith)) (c.requires.bounded_before.at (i + r) (omega arith))
    (c.requires.bounded_after.at (i + r) (omega arith)) in
    let stored = store w32 8 (2 * 2 ^ 26) i n c.lanes.even c.low_lanes-lanes.result f c.lanes.auto.even room many (omega arith) small
    (λ r h. c.low_lanes-lanes.ensures.value.at r h ∙ same r h) c.lanes.invariant.done in
    record {
      done = record { at = λ p h. stored.at p (omega arith) };
      left = λ p h. get_or-put_chunk_above i c.lanes.even _ p (pos 0) (omega arith) ∙ c.lanes.invariant.left p (omega arith);
    }

pub rest-preserved : goal.rest-preserved
rest-preserved c =
    let e = c.rest.invariant.left c.rest.j (omega arith) in
    record {
      done = Agrees-set _ _ _ _ (omega arith) c.rest.invariant.done (grind (arith, to_z-of_z, less_correction-is));
      left = λ p h. let ne : p ≢ c.rest.j = omega arith in rw get_or-set_other (c.rest.invariant.left p (omega arith));
    }
