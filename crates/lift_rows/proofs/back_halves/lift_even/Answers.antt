use Rattle.std.proofs.Common.{◌*◌, ◌-◌, ◌^◌, length, refl, arith, w32}
use Rattle.std.proofs.lemmas.Int.{to_z-of_z}
use Rattle.std.proofs.lemmas.List.Edits.{length-between}
use Rattle.wave_defs.specs.Held.{signal}
use Rattle.wave_defs.proofs.Shifts.{kept}
use Rattle.lift_rows.proofs.Ends.{even_by_parts}
use Rattle.lift_rows.proofs.Fits.{AllWithin-between, corrected-fits}
use Rattle.lift_rows.proofs.back_halves.lift_even.Goals as goal

pub even_sample_narrow-first-requires : goal.even_sample_narrow-first-requires
even_sample_narrow-first-requires c =
    let we = c.requires.bounded.at 0 (omega arith) in
    let wh = c.requires.bounded_high.at 0 (omega arith) in
    let ke = kept w32 (3 * 2 ^ 29) (signal c.args.even.now 0) (omega arith) we in
    let kh = kept w32 (3 * 2 ^ 27) (signal c.args.high.now 0) (omega arith) wh in
    record { fits = rw (ke, kh) (corrected-fits _ _ _ we wh wh) }

pub update_add_narrow-requires-clause-bounded : goal.update_add_narrow-requires-clause-bounded
update_add_narrow-requires-clause-bounded c =
    let n = length c.args.even.now in
    AllWithin-between (3 * 2 ^ 29) n 1 n _ c.args.even.now (omega arith) (omega (arith, length-between c.args.even.now 1 n (omega arith))) c.requires.bounded

pub update_add_narrow-requires-clause-bounded_before : goal.update_add_narrow-requires-clause-bounded_before
update_add_narrow-requires-clause-bounded_before c =
    let n = length c.args.even.now in
    AllWithin-between (3 * 2 ^ 27) n 0 (n - 1) _ c.args.high.now (omega arith) (omega (arith, length-between c.args.even.now 1 n (omega arith)))
    c.requires.bounded_high

pub update_add_narrow-requires-clause-bounded_after : goal.update_add_narrow-requires-clause-bounded_after
update_add_narrow-requires-clause-bounded_after c =
    let n = length c.args.even.now in
    AllWithin-between (3 * 2 ^ 27) n 1 n _ c.args.high.now (omega arith) (omega (arith, length-between c.args.even.now 1 n (omega arith)))
    c.requires.bounded_high

pub returns : goal.returns
returns c =
    even_by_parts (length c.args.even.now) c.args.even.now c.args.high.now c.update_add_narrow.new.even _ c.requires.long refl c.requires.same (omega arith)
    (grind (arith, to_z-of_z))
    (record { at = λ k h. c.update_add_narrow.ensures.at k (omega (arith, length-between c.args.even.now 1 (length c.args.even.now) (omega arith))) })
