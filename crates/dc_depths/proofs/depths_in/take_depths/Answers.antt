use Rattle.std.proofs.Common.{sym, ap, arith, nat_lt}
use Rattle.std.proofs.lemmas.Result.{err_from_is_err_and}
use Rattle.number_defs.specs.Depths.{depth_bits}
use Rattle.dc_depths.proofs.DepthReads.{no_depths, coded_depths}
use Rattle.dc_depths.proofs.depths_in.take_depths.Goals as goal

pub returns-in-0 : goal.returns-in-0
returns-in-0 g c = no_depths c.args.depth_ac _ _ (omega arith) c.requires.open c.clear.ensures

pub returns-in-1 : goal.returns-in-1
returns-in-1 g c = rw c.in-1.is c.take_raw.ensures

pub returns-in_err-part-in_default : goal.returns-in_err-part-in_default
returns-in_err-part-in_default g c =
    let p = err_from_is_err_and c.from_residual.result c.from_residual.ensures.1 in
    let t = rw (c.depth_bits_of.ensures.is, c.from.ensures) at (c.in_err-part-in_default.ensures (λ depth. nat_lt c.args.depth_ac depth)
    (record { at = λ h lt. ap (λ m. nat_lt m h) (sym c.from.ensures) })) in
    rw (p.1, p.2) (coded_depths c.args.depth_ac (depth_bits c.args.depth_ac) (omega arith) t.cells.size t)

pub returns-in_ok-part-in_default : goal.returns-in_ok-part-in_default
returns-in_ok-part-in_default g c =
    let t = rw (c.depth_bits_of.ensures.is, c.from.ensures) at (c.in_ok-part-in_default.ensures (λ depth. nat_lt c.args.depth_ac depth)
    (record { at = λ h lt. ap (λ m. nat_lt m h) (sym c.from.ensures) })) in
    coded_depths c.args.depth_ac (depth_bits c.args.depth_ac) (omega arith) t.cells.size t
