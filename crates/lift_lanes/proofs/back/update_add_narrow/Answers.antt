use Rattle.std.proofs.Common.{◌≡◌, ℕ, ℤ, ap, to_z, of_z, pos, ◌*◌, ◌+◌, ◌-◌, ◌^◌, ◌<◌, ◌≤◌, ◌≢◌, length, ◌∙◌, sym, subst, arith, get_or-set_other, w32}
use Rattle.std.proofs.lemmas.Int.{to_z-of_z}
use Rattle.std.proofs.lemmas.Simd.{get_or-put_chunk_above}
use Rattle.wave_defs.specs.Within.{IsWithin}
use Rattle.wave_defs.specs.Held.{signal}
use Rattle.wave_defs.specs.Lifted.{plus_correction}
use Rattle.wave_defs.proofs.Shifts.{kept}
use Rattle.wave_defs.proofs.Filled.{Agrees-set}
use Rattle.wave_defs.proofs.Equations.{plus_correction-is}
use Rattle.lift_lanes.proofs.Loads.{AllWithin-left, AllWithin-load, load, store, length-passed}
use Rattle.lift_lanes.proofs.Steps.{plus_correction-narrow, plus_correction-same}
use Rattle.lift_lanes.proofs.back.update_add_narrow.Goals as goal

pub even_lanes_narrow-lanes-requires-clause-bounded : goal.even_lanes_narrow-lanes-requires-clause-bounded
even_lanes_narrow-lanes-requires-clause-bounded c =
    AllWithin-left w32 8 (3 * 2 ^ 29) (8 * c.lanes.k) (length c.args.even.now) c.lanes.even c.args.even.now (omega arith) (omega arith) (omega arith)
    c.lanes.invariant.left c.requires.bounded

pub even_lanes_narrow-lanes-requires-clause-bounded_before : goal.even_lanes_narrow-lanes-requires-clause-bounded_before
even_lanes_narrow-lanes-requires-clause-bounded_before c =
    AllWithin-load w32 8 (3 * 2 ^ 27) (8 * c.lanes.k) (length c.args.even.now) _ (omega arith) (omega arith) (omega arith) c.requires.bounded_before

pub even_lanes_narrow-lanes-requires-clause-bounded_after : goal.even_lanes_narrow-lanes-requires-clause-bounded_after
even_lanes_narrow-lanes-requires-clause-bounded_after c =
    AllWithin-load w32 8 (3 * 2 ^ 27) (8 * c.lanes.k) (length c.args.even.now) _ (omega arith) (omega arith) (omega arith) c.requires.bounded_after

pub lanes-preserved : goal.lanes-preserved
lanes-preserved c =
    let n = length c.args.even.now in
    let i = 8 * c.lanes.k in
    let f = plus_correction (signal c.args.even.now) (signal c.args.before.now) (signal c.args.after.now) in
    let many = c.even_lanes_narrow-lanes.ensures.long in
    let long = length-passed w32 c.even_lanes_narrow-lanes.result in
    let room : i + 8 ≤ n = omega arith in
    let same = λ (r : ℕ) (h : r < 8).
    let e = c.lanes.invariant.left (i + r) (omega arith) in
    let within = subst (IsWithin (3 * 2 ^ 29)) (sym e) (c.requires.bounded.at (i + r) (omega arith)) in
    plus_correction-same r (i + r) _ _ _ (signal c.args.even.now) (signal c.args.before.now) (signal c.args.after.now)
    (load w32 8 (3 * 2 ^ 29) i r c.lanes.even h (omega arith) (omega arith) within ∙ e)
    (load w32 8 (3 * 2 ^ 27) i r c.args.before.now h (omega arith) (omega arith) (c.requires.bounded_before.at (i + r) (omega arith)))
    (load w32 8 (3 * 2 ^ 27) i r c.args.after.now h (omega arith) (omega arith) (c.requires.bounded_after.at (i + r) (omega arith))) in
    let small = λ (r : ℕ) (h : r < 8).
    plus_correction-narrow (i + r) (signal c.args.even.now) (signal c.args.before.now) (signal c.args.after.now)
    (c.requires.bounded.at (i + r) (omega arith)) (c.requires.bounded_before.at (i + r) (omega arith))
    (c.requires.bounded_after.at (i + r) (omega arith)) in
    let stored = store w32 8 (2 ^ 31 - 1) i n c.lanes.even c.even_lanes_narrow-lanes.result f c.lanes.auto.even room many (omega arith) small
    (λ r h. c.even_lanes_narrow-lanes.ensures.value.at r h ∙ same r h) c.lanes.invariant.done in
    record {
      done = record { at = λ p h. stored.at p (omega arith) };
      left = λ p h. get_or-put_chunk_above i c.lanes.even _ p (pos 0) (omega arith) ∙ c.lanes.invariant.left p (omega arith);
    }

pub even_sample_narrow-requires : goal.even_sample_narrow-requires
even_sample_narrow-requires c =
    let j = c.rest.j in
    let h : j < length c.args.even.now = omega arith in
    let e = c.rest.invariant.left j (omega arith) in
    let small = rw plus_correction-is at (plus_correction-narrow j (signal c.args.even.now) (signal c.args.before.now) (signal c.args.after.now)
    (c.requires.bounded.at j h) (c.requires.bounded_before.at j h) (c.requires.bounded_after.at j h)) in
    let ke : to_z w32 (of_z w32 (signal c.rest.even j)) ≡ signal c.args.even.now j =
    ap (λ (v : ℤ). to_z w32 (of_z w32 v)) e ∙ kept w32 (3 * 2 ^ 29) _ (omega arith) (c.requires.bounded.at j h) in
    let kb = kept w32 (3 * 2 ^ 27) (signal c.args.before.now j) (omega arith) (c.requires.bounded_before.at j h) in
    let ka = kept w32 (3 * 2 ^ 27) (signal c.args.after.now j) (omega arith) (c.requires.bounded_after.at j h) in
    record { fits = rw (ke, kb, ka) small }

pub rest-preserved : goal.rest-preserved
rest-preserved c =
    let e = c.rest.invariant.left c.rest.j (omega arith) in
    record {
      done = Agrees-set _ _ _ _ (omega arith) c.rest.invariant.done (grind (arith, to_z-of_z, plus_correction-is));
      left = λ p h. let ne : p ≢ c.rest.j = omega arith in rw get_or-set_other (c.rest.invariant.left p (omega arith));
    }
