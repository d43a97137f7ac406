use Rattle.std.proofs.Common.{ℕ, pos, ◌*◌, ◌+◌, ◌^◌, ◌<◌, ◌≤◌, ◌≢◌, length, ◌∙◌, sym, subst, arith, get_or-set_other, w64}
use Rattle.std.proofs.lemmas.Int.{to_z-of_z}
use Rattle.std.proofs.lemmas.Simd.{get_or-put_chunk_above}
use Rattle.wave_defs.specs.Within.{IsWithin}
use Rattle.wave_defs.specs.Held.{signal}
use Rattle.wave_defs.specs.Lifted.{plus_correction}
use Rattle.wave_defs.proofs.Filled.{Agrees-set}
use Rattle.wave_defs.proofs.Equations.{plus_correction-is}
use Rattle.lift_lanes.proofs.Loads.{AllWithin-left, AllWithin-load, load, store, length-passed}
use Rattle.lift_lanes.proofs.Steps.{plus_correction-within, plus_correction-same}
use Rattle.lift_lanes.proofs.wide.update_add.Goals as goal

pub even_lanes-lanes-requires-clause-bounded : goal.even_lanes-lanes-requires-clause-bounded
even_lanes-lanes-requires-clause-bounded c =
    AllWithin-left w64 4 (2 ^ 40) (4 * c.lanes.k) (length c.args.even.now) c.lanes.even c.args.even.now (omega arith) (omega arith) (omega arith)
    c.lanes.invariant.left c.requires.bounded

pub even_lanes-lanes-requires-clause-bounded_before : goal.even_lanes-lanes-requires-clause-bounded_before
even_lanes-lanes-requires-clause-bounded_before c =
    AllWithin-load w64 4 (2 ^ 40) (4 * c.lanes.k) (length c.args.even.now) _ (omega arith) (omega arith) (omega arith) c.requires.bounded_before

pub even_lanes-lanes-requires-clause-bounded_after : goal.even_lanes-lanes-requires-clause-bounded_after
even_lanes-lanes-requires-clause-bounded_after c =
    AllWithin-load w64 4 (2 ^ 40) (4 * c.lanes.k) (length c.args.even.now) _ (omega arith) (omega arith) (omega arith) c.requires.bounded_after

pub lanes-preserved : goal.lanes-preserved
lanes-preserved c =
    let n = length c.args.even.now in
    let i = 4 * c.lanes.k in
    let f = plus_correction (signal c.args.even.now) (signal c.args.before.now) (signal c.args.after.now) in
    let many = c.even_lanes-lanes.ensures.long in
    let long = length-passed w64 c.even_lanes-lanes.result in
    let room : i + 4 ≤ n = omega arith in
    let same = λ (r : ℕ) (h : r < 4).
    let e = c.lanes.invariant.left (i + r) (omega arith) in
    let within = subst (IsWithin (2 ^ 40)) (sym e) (c.requires.bounded.at (i + r) (omega arith)) in
    plus_correction-same r (i + r) _ _ _ (signal c.args.even.now) (signal c.args.before.now) (signal c.args.after.now)
    (load w64 4 (2 ^ 40) i r c.lanes.even h (omega arith) (omega arith) within ∙ e)
    (load w64 4 (2 ^ 40) i r c.args.before.now h (omega arith) (omega arith) (c.requires.bounded_before.at (i + r) (omega arith)))
    (load w64 4 (2 ^ 40) i r c.args.after.now h (omega arith) (omega arith) (c.requires.bounded_after.at (i + r) (omega arith))) in
    let small = λ (r : ℕ) (h : r < 4).
    plus_correction-within (2 ^ 40) (i + r) (signal c.args.even.now) (signal c.args.before.now) (signal c.args.after.now) (omega arith)
    (c.requires.bounded.at (i + r) (omega arith)) (c.requires.bounded_before.at (i + r) (omega arith))
    (c.requires.bounded_after.at (i + r) (omega arith)) in
    let stored = store w64 4 (2 * 2 ^ 40) i n c.lanes.even c.even_lanes-lanes.result f c.lanes.auto.even room many (omega arith) small
    (λ r h. c.even_lanes-lanes.ensures.value.at r h ∙ same r h) c.lanes.invariant.done in
    record {
      done = record { at = λ p h. stored.at p (omega arith) };
      left = λ p h. get_or-put_chunk_above i c.lanes.even _ p (pos 0) (omega arith) ∙ c.lanes.invariant.left p (omega arith);
    }

pub rest-preserved : goal.rest-preserved
rest-preserved c =
    let e = c.rest.invariant.left c.rest.j (omega arith) in
    record {
      done = Agrees-set _ _ _ _ (omega arith) c.rest.invariant.done (grind (arith, to_z-of_z, plus_correction-is));
      left = λ p h. let ne : p ≢ c.rest.j = omega arith in rw get_or-set_other (c.rest.invariant.left p (omega arith));
    }
