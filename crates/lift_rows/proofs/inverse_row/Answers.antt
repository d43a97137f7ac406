use Rattle.std.proofs.Common.{length, arith}
use Rattle.wave_defs.proofs.LineLaws.{Agrees-merged}
use Rattle.lift_rows.proofs.Values.{as_many}
use Rattle.lift_rows.proofs.inverse_row.Goals as goal

pub pairs-init : goal.pairs-init
pairs-init c = as_many _ _ _ _ _ _ _ (omega arith) (omega arith) c.put_odd.ensures

pub put_pair-requires-clause-valid : goal.put_pair-requires-clause-valid
put_pair-requires-clause-valid c = c.pairs.invariant

pub pairs-preserved : goal.pairs-preserved
pairs-preserved c = as_many _ _ _ _ _ _ _ (omega arith) (omega arith) c.put_pair.ensures

pub put_odd-requires-2-clause-valid : goal.put_odd-requires-2-clause-valid
put_odd-requires-2-clause-valid c = as_many _ _ _ _ _ _ _ (omega arith) (omega arith) c.pairs.invariant

pub returns : goal.returns
returns c =
    let n = length c.args.low.now in
    let s = as_many _ _ n n _ _ _ (omega arith) (omega arith) c.put_odd-3.ensures in
    Agrees-merged _ _ _ n s.even s.odd
