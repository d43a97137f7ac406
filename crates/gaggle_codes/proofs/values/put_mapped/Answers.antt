use Rattle.std.proofs.lemmas.Result.{err_from_is_err_and}
use Rattle.gaggle_codes.proofs.ValueParts.{bits_uncoded, bits_whole, split_then, split_ended}
use Rattle.gaggle_codes.proofs.values.put_mapped.Goals as goal

pub returns-then-option-eq-UNCODED : goal.returns-then-option-eq-UNCODED
returns-then-option-eq-UNCODED g c = rw (bits_uncoded c.args.bits c.args.option c.args.values.now c.if-option-eq-UNCODED.true) c.put_uncoded.ensures

pub returns-in_err-put_unary_parts : goal.returns-in_err-put_unary_parts
returns-in_err-put_unary_parts g c =
    let p = err_from_is_err_and c.from_residual.result c.from_residual.ensures.1 in
    rw (p.1, p.2) (split_ended c.args.bits c.args.option c.args.values.now c.if-option-eq-UNCODED.false c.in_err-put_unary_parts.ensures)

pub returns-then-option-eq0 : goal.returns-then-option-eq0
returns-then-option-eq0 g c = rw (bits_whole c.args.bits c.args.option c.args.values.now c.if-option-eq-UNCODED.false c.if-option-eq0.true)
    c.in_ok-put_unary_parts.ensures

pub returns : goal.returns
returns g c = split_then c.args.bits c.args.option c.args.values.now c.if-option-eq-UNCODED.false c.if-option-eq0.false c.in_ok-put_unary_parts.ensures.ends
    c.put_rests.ensures
