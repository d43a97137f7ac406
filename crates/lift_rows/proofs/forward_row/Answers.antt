use Rattle.std.proofs.Common.{length, arith, refl}
use Rattle.wave_defs.specs.Line.{high_of}
use Rattle.wave_defs.specs.Held.{Agrees, signal}
use Rattle.lift_rows.proofs.HalfLemmas.{evens-within, odds-within, high_half-is, high-within, low_half-is}
use Rattle.lift_rows.proofs.forward_row.Goals as goal

pub lift_high-requires-clause-bounded : goal.lift_high-requires-clause-bounded
lift_high-requires-clause-bounded c =
    odds-within (length c.args.low.now) _ _ _ _ (omega arith) (omega arith) c.requires.bounded c.split.ensures.odd

pub lift_high-requires-clause-bounded_even : goal.lift_high-requires-clause-bounded_even
lift_high-requires-clause-bounded_even c =
    evens-within (length c.args.low.now) _ _ _ _ (omega arith) (omega arith) c.requires.bounded c.split.ensures.even

pub lift_low-requires-clause-bounded : goal.lift_low-requires-clause-bounded
lift_low-requires-clause-bounded c =
    evens-within (length c.args.low.now) _ _ _ _ (omega arith) (omega arith) c.requires.bounded c.split.ensures.even

pub lift_low-requires-clause-bounded_high : goal.lift_low-requires-clause-bounded_high
lift_low-requires-clause-bounded_high c =
    let n = length c.args.low.now in
    let high : Agrees n (signal c.lift_high.new.odd) (high_of (signal c.args.row.now) n) =
    high_half-is n _ _ n _ _ _ _ (omega arith) (omega arith) (omega arith) refl c.split.ensures.even c.split.ensures.odd c.lift_high.ensures in
    high-within n _ n _ _ (omega arith) (omega arith) refl c.requires.bounded high

pub returns-clause-low : goal.returns-clause-low
returns-clause-low c =
    let n = length c.args.low.now in
    let high : Agrees n (signal c.lift_high.new.odd) (high_of (signal c.args.row.now) n) =
    high_half-is n _ _ n _ _ _ _ (omega arith) (omega arith) (omega arith) refl c.split.ensures.even c.split.ensures.odd c.lift_high.ensures in
    low_half-is n _ _ _ _ _ _ _ (omega arith) (omega arith) (omega arith) c.split.ensures.even high c.lift_low.ensures

pub returns-clause-high : goal.returns-clause-high
returns-clause-high c =
    high_half-is (length c.args.low.now) _ _ _ _ _ _ _ (omega arith) (omega arith) (omega arith) (omega arith) c.split.ensures.even c.split.ensures.odd
    c.lift_high.ensures
