use Rattle.std.proofs.Common.{length, arith}
use Rattle.wave_defs.proofs.LineLaws.{Agrees-merged}
use Rattle.lift_rows.proofs.Values.{as_many}
use Rattle.lift_rows.proofs.inverse_row_long.Goals as goal

pub put_even_widened-requires-clause-valid : goal.put_even_widened-requires-clause-valid
put_even_widened-requires-clause-valid c = c.evens.invariant

pub evens-preserved : goal.evens-preserved
evens-preserved c = c.put_even_widened.ensures

pub odds-init : goal.odds-init
odds-init c = as_many _ _ _ _ _ _ _ (omega arith) (omega arith) c.evens.invariant

pub put_odd_widened-requires-clause-valid : goal.put_odd_widened-requires-clause-valid
put_odd_widened-requires-clause-valid c = as_many _ _ _ _ _ _ _ (omega arith) (omega arith) c.odds.invariant

pub odds-preserved : goal.odds-preserved
odds-preserved c = c.put_odd_widened.ensures

pub returns : goal.returns
returns c =
    let n = length c.args.low.now in
    let s = as_many _ _ n n _ _ _ (omega arith) (omega arith) c.odds.invariant in
    Agrees-merged _ _ _ n s.even s.odd
