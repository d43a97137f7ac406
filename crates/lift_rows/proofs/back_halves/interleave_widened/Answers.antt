use Rattle.std.proofs.Common.{◌+◌, ◌*◌, set, arith, length-set, w64, to_z, of_z}
use Rattle.std.proofs.lemmas.Int.{to_z-of_z}
use Rattle.wave_defs.specs.Held.{signal}
use Rattle.wave_defs.proofs.Filled.{Agrees-set_at, Agrees-set_off}
use Rattle.lift_rows.specs.Halves.{evens, odds}
use Rattle.lift_rows.proofs.back_halves.interleave_widened.Goals as goal

pub loop-j-preserved : goal.loop-j-preserved
unfolding evens odds
loop-j-preserved c =
    let j = c.loop-j.j in
    let i = c.loop-j.invariant in
    let e = (to_z w64 (of_z w64 c.from.result)) in
    let o = (to_z w64 (of_z w64 c.from-in-loop-j.result)) in
    let even = Agrees-set_at (λ k. 2 * k) c.loop-j.row j e (signal c.args.even.now) (omega arith) (λ k l. omega arith) i.even (grind (arith, to_z-of_z)) in
    let odd = Agrees-set_off (λ k. 2 * k + 1) c.loop-j.row (2 * j) j e (signal c.args.odd.now) (λ k l. omega arith) i.odd in
    let long = length-set c.loop-j.row (2 * j) e in
    record {
      even = Agrees-set_off (λ k. 2 * k) (set c.loop-j.row (2 * j) e) (2 * j + 1) (j + 1) o (signal c.args.even.now) (λ k l. omega arith) even;
      odd = Agrees-set_at (λ k. 2 * k + 1) (set c.loop-j.row (2 * j) e) j o (signal c.args.odd.now) (omega (arith, long)) (λ k l. omega arith) odd
          (grind (arith, to_z-of_z));
    }
