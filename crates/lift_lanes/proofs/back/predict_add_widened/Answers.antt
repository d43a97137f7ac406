use Rattle.std.proofs.Common.{◌≡◌, ℤ, ap, ◌∙◌, to_z, of_z, w32, length, ◌-◌, ◌^◌, ◌<◌, ◌≢◌, arith, get_or-set_other}
use Rattle.wave_defs.specs.Held.{signal}
use Rattle.std.proofs.lemmas.Int.{to_z-of_z}
use Rattle.wave_defs.proofs.Shifts.{kept}
use Rattle.wave_defs.proofs.Filled.{Agrees-set}
use Rattle.wave_defs.proofs.Equations.{plus_predicted-is}
use Rattle.lift_lanes.proofs.back.predict_add_widened.Goals as goal

pub odd_sample_narrow-requires : goal.odd_sample_narrow-requires
odd_sample_narrow-requires c =
    let j = c.loop-j.j in
    let h : j < length c.args.odd.now = omega arith in
    let e = c.loop-j.invariant.left j (omega arith) in
    let small = rw plus_predicted-is at (c.requires.fits.at j h) in
    let ko : to_z w32 (of_z w32 (signal c.loop-j.odd j)) ≡ signal c.args.odd.now j =
    ap (λ (v : ℤ). to_z w32 (of_z w32 v)) e ∙ kept w32 (2 ^ 31 - 1) _ (omega arith) (c.requires.bounded.at j h) in
    let ka = kept w32 (2 ^ 31 - 1) (signal c.args.a.now j) (omega arith) (c.requires.bounded_a.at j h) in
    let kb = kept w32 (2 ^ 31 - 1) (signal c.args.b.now j) (omega arith) (c.requires.bounded_b.at j h) in
    let kc = kept w32 (2 ^ 31 - 1) (signal c.args.c.now j) (omega arith) (c.requires.bounded_c.at j h) in
    let kd = kept w32 (2 ^ 31 - 1) (signal c.args.d.now j) (omega arith) (c.requires.bounded_d.at j h) in
    record { fits = rw (ko, ka, kb, kc, kd) small }

pub loop-j-preserved : goal.loop-j-preserved
loop-j-preserved c =
    let e = c.loop-j.invariant.left c.loop-j.j (omega arith) in
    record {
      done = Agrees-set _ _ _ _ (omega arith) c.loop-j.invariant.done (grind (arith, to_z-of_z, plus_predicted-is));
      left = λ p h. let ne : p ≢ c.loop-j.j = omega arith in rw get_or-set_other (c.loop-j.invariant.left p (omega arith));
    }
