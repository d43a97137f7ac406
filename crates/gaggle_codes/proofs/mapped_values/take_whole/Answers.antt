use Rattle.std.proofs.Common.{◌∷◌, ◌++◌, ◌-◌, ◌+◌, [], arith, length, append_assoc, ap, sym, ◌∙◌, length-append}
use Rattle.std.proofs.lemmas.Result.{err_from_is_err_and}
use Rattle.gaggle_codes.specs.Given.{heights_in, last_in, kind_of}
use Rattle.gaggle_codes.proofs.FormReads.{form_in}
use Rattle.gaggle_codes.proofs.ValueReads.{whole_all, whole_fault, whole_ended, whole_deep, whole_more, last_more, within_more, bound_low, bound_high}
use Rattle.gaggle_codes.proofs.mapped_values.take_whole.Goals as goal

pub returns-in_err-value-clause-read : goal.returns-in_err-value-clause-read
returns-in_err-value-clause-read g c = λ too_great prior bound last.
    let p = err_from_is_err_and c.from_residual.result c.from_residual.ensures.1 in
    rw (p.1, p.2) (whole_fault (kind_of c.args.bounded.range too_great) c.args.option (last_in c.loop-zeros.numbers) c.args.zeros.now _ _ _ _
    (c.loop-zeros.invariant.left too_great prior bound last)
    (length c.args.zeros.now - (c.loop-zeros.zeros-index + 1)) (omega arith) _ c.in_err-value.ensures.read)

pub returns-in_default-clause-read : goal.returns-in_default-clause-read
returns-in_default-clause-read g c = λ too_great prior bound last.
    whole_ended (kind_of c.args.bounded.range too_great) c.args.option (last_in c.loop-zeros.numbers) c.args.zeros.now _ _ _ _
    (c.loop-zeros.invariant.left too_great prior bound last)
    (length c.args.zeros.now - (c.loop-zeros.zeros-index + 1)) (omega arith) (rw c.in_default.is at c.in_ok-value.ensures.read)

pub returns-in_err-follow-clause-read : goal.returns-in_err-follow-clause-read
returns-in_err-follow-clause-read g c = λ too_great prior bound last.
    let p = err_from_is_err_and c.from_residual-in_err-follow.result c.from_residual-in_err-follow.ensures.1 in
    rw (p.1, p.2, c.in_err-follow.ensures.is, c.in_err-follow.ensures.numbers)
    (whole_deep (kind_of c.args.bounded.range too_great) c.args.option (last_in c.loop-zeros.numbers) c.args.zeros.now _ _ _ _
    (c.loop-zeros.invariant.left too_great prior bound last)
    (length c.args.zeros.now - (c.loop-zeros.zeros-index + 1)) (omega arith) (c.loop-zeros.invariant.last prior last)
    (λ t. c.requires.plain t c.loop-zeros.zeros-index) c.in-Some.value
    (bound_high bound c.in_err-follow.ensures.few c.in_err-follow.ensures.bound)
    (rw c.in-Some.is at c.in_ok-value.ensures.read))

pub loop-zeros-preserved : goal.loop-zeros-preserved
loop-zeros-preserved g c =
    let i = c.loop-zeros.invariant in
    let now = heights_in c.loop-zeros.numbers in
    let height = last_in c.follow.new.numbers in
    let more = c.in_ok-follow.ensures.numbers in
    let read = rw c.in-Some.is at c.in_ok-value.ensures.read in
    let few = rw (sym c.in_ok-follow.ensures.is) at c.in_ok-follow.ensures.few in
    record {
      is_in = form_in _ _ c.in-Some.value i.is_in read;
      small = few;
      count = ap length more ∙ length-append now (height ∷ []) ∙ omega (arith, i.count);
      within = λ before. rw more (within_more now height few c.in_ok-follow.ensures.bound (i.within before));
      last = λ prior start. rw (more, ← append_assoc prior now (height ∷ [])) (last_more (prior ++ now) height);
      left = λ too_great prior bound start. whole_more (kind_of c.args.bounded.range too_great) c.args.option (last_in c.loop-zeros.numbers)
          c.args.zeros.now _ _ _ _
          (i.left too_great prior bound start)
          (length c.args.zeros.now - (c.loop-zeros.zeros-index + 1)) (omega arith) (i.last prior start) (λ t. c.requires.plain t c.loop-zeros.zeros-index)
          c.in-Some.value
          _ height _ (omega arith) c.in_ok-follow.ensures.is (bound_low bound few c.in_ok-follow.ensures.bound)
          (ap (λ l. prior ++ l) more ∙ sym (append_assoc prior now (height ∷ []))) read;
    }

pub returns-clause-read : goal.returns-clause-read
returns-clause-read g c = λ too_great prior bound last.
    whole_all (kind_of c.args.bounded.range too_great) c.args.option (last_in c.loop-zeros.numbers) c.args.zeros.now _ _ _ _
    (c.loop-zeros.invariant.left too_great prior bound last) (omega arith) c.loop-zeros.invariant.is_in
