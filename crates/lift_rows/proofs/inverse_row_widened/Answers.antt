use Rattle.std.proofs.Common.{◌≡◌, Bool, ℕ, ℤ, ◌+◌, ◌*◌, ◌^◌, length, subst, arith}
use Rattle.std.specs.Bool.{OnTrue}
use Rattle.wave_defs.specs.Within.{AllWithin}
use Rattle.wave_defs.specs.Held.{signal}
use Rattle.lift_rows.proofs.Fits.{AllWithin-more, odd_of-small}
use Rattle.wave_defs.proofs.LineLaws.{Agrees-merged}
use Rattle.wave_defs.proofs.LiftLaws.{Agrees-trans}
use Rattle.lift_rows.specs.Halves.{evens, odds}
use Rattle.lift_rows.proofs.inverse_row_widened.Goals as goal

abbrev Small : ℕ → (ℕ → ℤ) → Type 0
Small n x = AllWithin (9 * 2 ^ 25 + 2) n x

pub inverse_halves-requires-clause-low_bounded : goal.inverse_halves-requires-clause-low_bounded
inverse_halves-requires-clause-low_bounded c =
    let low = subst (λ (t : Bool). OnTrue t (Small (length c.args.low.now) (signal c.args.low.now))) c.if-small.true c.requires.small_low in
    AllWithin-more _ _ _ _ (omega arith) low

pub inverse_halves-requires-clause-high_bounded : goal.inverse_halves-requires-clause-high_bounded
inverse_halves-requires-clause-high_bounded c =
    let high = subst (λ (t : Bool). OnTrue t (Small (length c.args.low.now) (signal c.args.high.now))) c.if-small.true c.requires.small_high in
    AllWithin-more _ _ _ _ (omega arith) high

pub inverse_halves-requires-clause-small_low : goal.inverse_halves-requires-clause-small_low
inverse_halves-requires-clause-small_low c =
    subst (λ (t : Bool). OnTrue t (Small (length c.args.low.now) (signal c.args.low.now))) c.if-small.true c.requires.small_low

pub inverse_halves-requires-clause-small_high : goal.inverse_halves-requires-clause-small_high
inverse_halves-requires-clause-small_high c =
    subst (λ (t : Bool). OnTrue t (Small (length c.args.low.now) (signal c.args.high.now))) c.if-small.true c.requires.small_high

pub inverse_halves-requires-clause-fits : goal.inverse_halves-requires-clause-fits
inverse_halves-requires-clause-fits c =
    let low = subst (λ (t : Bool). OnTrue t (Small (length c.args.low.now) (signal c.args.low.now))) c.if-small.true c.requires.small_low in
    let high = subst (λ (t : Bool). OnTrue t (Small (length c.args.low.now) (signal c.args.high.now))) c.if-small.true c.requires.small_high in
    odd_of-small _ _ _ (omega arith) low high

pub returns-then-small : goal.returns-then-small
unfolding evens odds
returns-then-small c =
    let n = length c.args.low.now in
    let here : length c.inverse_halves.new.low ≡ n = omega arith in
    let even = simp here at c.interleave_widened.ensures.even in
    let odd = simp here at c.interleave_widened.ensures.odd in
    Agrees-merged _ _ _ n (Agrees-trans n _ _ _ even c.inverse_halves.ensures.even) (Agrees-trans n _ _ _ odd c.inverse_halves.ensures.odd)
