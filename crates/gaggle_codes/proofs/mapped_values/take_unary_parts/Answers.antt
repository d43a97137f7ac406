use Rattle.std.proofs.Common.{arith, length, ◌-◌, ◌+◌, ◌∙◌}
use Rattle.std.proofs.lemmas.Result.{err_from_is_err_and}
use Rattle.std.proofs.lemmas.List.{length-set, take_all, take_more_set}
use Rattle.number_defs.specs.NumberScript.{zeros_form}
use Rattle.gaggle_codes.proofs.FormReads.{form_in}
use Rattle.gaggle_codes.proofs.ValueReads.{zeros_fault, zeros_ended, zeros_all, zeros_more, few_set}
use Rattle.gaggle_codes.proofs.mapped_values.take_unary_parts.Goals as goal

pub returns-in_err-count-clause-read : goal.returns-in_err-count-clause-read
returns-in_err-count-clause-read g c = λ given.
    let p = err_from_is_err_and c.from_residual.result c.from_residual.ensures.1 in
    rw (p.1, p.2) (zeros_fault given c.args.bits c.args.k _ _ _ (c.loop-place.invariant.left given) (length c.loop-place.zeros - (c.loop-place.place + 1))
    (omega arith) _ c.in_err-count.ensures.read)

pub returns-in_default-clause-read : goal.returns-in_default-clause-read
returns-in_default-clause-read g c = λ given.
    zeros_ended given c.args.bits c.args.k _ _ _ (c.loop-place.invariant.left given) (length c.loop-place.zeros - (c.loop-place.place + 1)) (omega arith)
    (rw c.in_default.is at c.in_ok-count.ensures.read)

pub loop-place-preserved : goal.loop-place-preserved
loop-place-preserved g c =
    let i = c.loop-place.invariant in
    let place = c.loop-place.place in
    let long = length-set c.loop-place.zeros place c.in-Some.count in
    let few = rw c.in-Some.is at c.in_ok-count.ensures.few in
    let read = rw c.in-Some.is at c.in_ok-count.ensures.read in
    record {
      is_in = form_in (zeros_form c.args.bits c.args.k) (λ n. n) c.in-Some.count i.is_in read;
      few = few_set c.loop-place.zeros place c.in-Some.count _ (omega arith) few i.few;
      same = long ∙ i.same;
      left = λ given. zeros_more given c.args.bits c.args.k _ _ _ (i.left given) _ (omega (arith, long)) c.in-Some.count _
          (take_more_set c.loop-place.zeros place c.in-Some.count (omega arith)) read;
    }

pub returns-clause-read : goal.returns-clause-read
returns-clause-read g c = λ given.
    rw (take_all c.loop-place.place c.loop-place.zeros (omega arith)) at (zeros_all given c.args.bits c.args.k _ _ _ (c.loop-place.invariant.left given)
    (omega arith) c.loop-place.invariant.is_in)
