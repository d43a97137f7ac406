use Rattle.std.proofs.Common.{arith}
use Rattle.std.proofs.lemmas.Grind.{common_steps}
use Rattle.std.proofs.lemmas.Result.{err_from_is_err_and}
use Rattle.gaggle_codes.proofs.ValueReads.{unary_failed, unary_ended, unary_long, unary_got}
use Rattle.gaggle_codes.proofs.mapped_values.take_unary.Goals as goal

pub returns-in_err-zeros-clause-read : goal.returns-in_err-zeros-clause-read
returns-in_err-zeros-clause-read g c =
    let p = err_from_is_err_and c.from_residual.result c.from_residual.ensures.1 in
    rw (p.1, p.2) (unary_failed c.args.bits c.args.k _ (grind (arith, common_steps)) _ c.in_err-zeros.ensures.ends)

pub returns-in_default-clause-read : goal.returns-in_default-clause-read
returns-in_default-clause-read g c =
    let p = rw c.in_default.is at c.in_ok-zeros.ensures in unary_ended c.args.bits c.args.k _ (grind (arith, common_steps)) p.ends

pub returns-then-zeros-limit-clause-read : goal.returns-then-zeros-limit-clause-read
returns-then-zeros-limit-clause-read g c =
    let p = rw c.in-Some.is at c.in_ok-zeros.ensures in unary_long c.args.bits c.args.k _ (grind (arith, common_steps)) c.in-Some.zeros (omega arith) p.ends

pub returns-clause-read : goal.returns-clause-read
returns-clause-read g c =
    let p = rw c.in-Some.is at c.in_ok-zeros.ensures in unary_got c.args.bits c.args.k _ (grind (arith, common_steps)) c.in-Some.zeros
    (λ e. omega (arith, e)) p.ends
