use Rattle.std.proofs.Common.{◌-◌, ◌^◌, pos, length, refl, arith, w32}
use Rattle.std.proofs.lemmas.Int.{to_z-of_z}
use Rattle.std.proofs.lemmas.List.Edits.{length-between, get_or-between}
use Rattle.wave_defs.specs.Held.{signal}
use Rattle.wave_defs.proofs.Shifts.{kept}
use Rattle.lift_rows.proofs.Ends.{odd_by_parts, first_fits, before_last_fits, last_fits, inner_fits}
use Rattle.lift_rows.proofs.Fits.{AllWithin-between}
use Rattle.lift_rows.proofs.back_halves.lift_odd.Goals as goal

pub odd_sample_narrow-first-requires : goal.odd_sample_narrow-first-requires
odd_sample_narrow-first-requires c =
    let n = length c.args.odd.now in
    let ko = kept w32 (2 ^ 30) (signal c.args.odd.now (0)) (omega arith) (c.requires.bounded.at (0) (omega arith)) in
    let k0 = kept w32 (2 ^ 31 - 1) (signal c.args.even.now (0)) (omega arith) (c.requires.bounded_even.at (0) (omega arith)) in
    let k1 = kept w32 (2 ^ 31 - 1) (signal c.args.even.now (1)) (omega arith) (c.requires.bounded_even.at (1) (omega arith)) in
    let k2 = kept w32 (2 ^ 31 - 1) (signal c.args.even.now (2)) (omega arith) (c.requires.bounded_even.at (2) (omega arith)) in
    record { fits = rw (ko, k0, k1, k2) (first_fits (2 ^ 31 - 1) n (signal c.args.odd.now) (signal c.args.even.now) c.requires.long c.requires.fits) }

pub odd_sample_narrow-before_last-requires : goal.odd_sample_narrow-before_last-requires
odd_sample_narrow-before_last-requires c =
    let n = length c.args.odd.now in
    let ko = kept w32 (2 ^ 30) (signal c.args.odd.now (n - 2)) (omega arith) (c.requires.bounded.at (n - 2) (omega arith)) in
    let k0 = kept w32 (2 ^ 31 - 1) (signal c.args.even.now (n - 3)) (omega arith) (c.requires.bounded_even.at (n - 3) (omega arith)) in
    let k1 = kept w32 (2 ^ 31 - 1) (signal c.args.even.now (n - 2)) (omega arith) (c.requires.bounded_even.at (n - 2) (omega arith)) in
    let k2 = kept w32 (2 ^ 31 - 1) (signal c.args.even.now (n - 1)) (omega arith) (c.requires.bounded_even.at (n - 1) (omega arith)) in
    record { fits = rw (ko, k0, k1, k2) (before_last_fits (2 ^ 31 - 1) n (signal c.args.odd.now) (signal c.args.even.now) c.requires.long c.requires.fits) }

pub odd_sample_narrow-last-requires : goal.odd_sample_narrow-last-requires
odd_sample_narrow-last-requires c =
    let n = length c.args.odd.now in
    let ko = kept w32 (2 ^ 30) (signal c.args.odd.now (n - 1)) (omega arith) (c.requires.bounded.at (n - 1) (omega arith)) in
    let k0 = kept w32 (2 ^ 31 - 1) (signal c.args.even.now (n - 2)) (omega arith) (c.requires.bounded_even.at (n - 2) (omega arith)) in
    let k1 = kept w32 (2 ^ 31 - 1) (signal c.args.even.now (n - 1)) (omega arith) (c.requires.bounded_even.at (n - 1) (omega arith)) in
    record { fits = rw (ko, k0, k1) (last_fits (2 ^ 31 - 1) n (signal c.args.odd.now) (signal c.args.even.now) c.requires.long c.requires.fits) }

pub lift_inner-requires-clause-bounded : goal.lift_inner-requires-clause-bounded
lift_inner-requires-clause-bounded c =
    let n = length c.args.odd.now in
    AllWithin-between (2 ^ 30) n 1 (n - 2) _ c.args.odd.now (omega arith) (omega (arith, length-between c.args.odd.now 1 (n - 2) (omega arith)))
    c.requires.bounded

pub lift_inner-requires-clause-fits : goal.lift_inner-requires-clause-fits
lift_inner-requires-clause-fits c =
    let n = length c.args.odd.now in
    let long = length-between c.args.odd.now 1 (n - 2) (omega arith) in
    inner_fits (2 ^ 31 - 1) n (signal c.args.odd.now) (signal c.args.even.now) c.requires.long c.requires.fits _ _ (omega (arith, long))
    (λ i h. get_or-between c.args.odd.now 1 (n - 2) i (pos 0) (omega (arith, long)))

pub returns : goal.returns
returns c =
    odd_by_parts (length c.args.odd.now) c.args.odd.now c.args.even.now c.lift_inner.new.odd _ _ _ c.requires.long refl (omega arith)
    (grind (arith, to_z-of_z)) (grind (arith, to_z-of_z)) (grind (arith, to_z-of_z))
    (record { at = λ k h. c.lift_inner.ensures.at k (omega (arith, length-between c.args.odd.now 1 (length c.args.odd.now - 2) (omega arith))) })
