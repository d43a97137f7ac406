use Rattle.std.proofs.Common.{◌-◌, ◌^◌, length, arith}
use Rattle.wave_defs.specs.Held.{signal}
use Rattle.wave_defs.proofs.LiftLaws.{Agrees-trans}
use Rattle.lift_rows.proofs.Fits.{on_true_both, AllWithin-more, AllWithin-same, even_of-fits, odd_half-is, even_of-small}
use Rattle.lift_rows.proofs.inverse_halves.Goals as goal

pub lift_odd-requires-clause-bounded : goal.lift_odd-requires-clause-bounded
lift_odd-requires-clause-bounded c = rw c.requires.same (AllWithin-more _ (2 ^ 30) _ _ (omega arith) c.requires.high_bounded)

pub lift_odd-requires-clause-bounded_even : goal.lift_odd-requires-clause-bounded_even
lift_odd-requires-clause-bounded_even c =
    rw c.requires.same (AllWithin-same (2 ^ 31 - 1) _ _ _ c.lift_even.ensures (even_of-fits _ _ _ c.requires.low_bounded c.requires.high_bounded))

pub lift_odd-requires-clause-fits : goal.lift_odd-requires-clause-fits
lift_odd-requires-clause-fits c =
    rw c.requires.same (AllWithin-same (2 ^ 31 - 1) _ _ _ (odd_half-is _ (signal c.args.low.now) (signal c.args.high.now) _ (omega arith)
    c.lift_even.ensures) c.requires.fits)

pub lift_odd-requires-clause-small : goal.lift_odd-requires-clause-small
lift_odd-requires-clause-small c =
    rw c.requires.same (on_true_both c.args.small (λ low high. AllWithin-same _ _ _ _ c.lift_even.ensures (even_of-small _ _ _ low high))
    c.requires.small_low c.requires.small_high)

pub returns-clause-odd : goal.returns-clause-odd
returns-clause-odd c =
    let n = length c.args.low.now in
    let lifted = simp c.requires.same at c.lift_odd.ensures in
    Agrees-trans n _ _ _ lifted (odd_half-is n (signal c.args.low.now) (signal c.args.high.now) _ (omega arith) c.lift_even.ensures)
