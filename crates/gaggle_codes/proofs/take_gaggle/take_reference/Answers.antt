use Rattle.std.proofs.Common.{pow_mono, refl, ◌≡◌, ◌<◌, ◌+◌, ◌*◌, ◌%◌, ◌^◌, ◌++◌, arith, ap, ◌∙◌, ◌∷◌, [], mod-lt, pow_pos}
use Rattle.std.proofs.lemmas.Result.{err_from_is_err_and}
use Rattle.gaggle_codes.specs.Given.{kind_of}
use Rattle.gaggle_codes.proofs.GaggleReads.{reference_failed, reference_ended, reference_great, reference_got}
use Rattle.gaggle_codes.proofs.ValueReads.{bound_low, bound_high}
use Rattle.gaggle_codes.proofs.take_gaggle.take_reference.Goals as goal

pub returns-in_err-number-clause-read : goal.returns-in_err-number-clause-read
returns-in_err-number-clause-read g c = λ too_great bound.
    let p = err_from_is_err_and c.from_residual.result c.from_residual.ensures.1 in
    rw (p.1, p.2, c.requires.none) (reference_failed (kind_of c.args.bounded.range too_great) _ c.in_err-number.ensures.ends)

pub returns-in_default-clause-read : goal.returns-in_default-clause-read
returns-in_default-clause-read g c = λ too_great bound.
    rw c.requires.none (reference_ended (kind_of c.args.bounded.range too_great) (rw c.in_default.is at c.in_ok-number.ensures).ends)

pub returns-then-height-bounded-clause-read : goal.returns-then-height-bounded-clause-read
returns-then-height-bounded-clause-read g c = λ too_great bound.
    let p = rw c.in-Some.is at c.in_ok-number.ensures in
    let w : 1 * 2 ^ c.args.bounded.range.bits % 65536 ≡ 2 ^ c.args.bounded.range.bits = omega (arith, pow_mono c.requires.high) in
    let few : (c.in-Some.number + c.negatives.result) % (1 * 2 ^ c.args.bounded.range.bits % 65536) < 2 ^ c.args.bounded.range.bits =
    rw w (mod-lt (c.in-Some.number + c.negatives.result) (pow_pos c.args.bounded.range.bits)) in
    rw c.requires.none (reference_great (kind_of c.args.bounded.range too_great) c.in-Some.number
    ((c.in-Some.number + c.negatives.result) % (1 * 2 ^ c.args.bounded.range.bits % 65536)) (rw (w, c.negatives.ensures.is) refl) p.ends
    (bound_high bound few c.if-height-bounded.true))

pub returns-clause-read : goal.returns-clause-read
returns-clause-read g c = λ too_great bound.
    let p = rw c.in-Some.is at c.in_ok-number.ensures in
    let w : 1 * 2 ^ c.args.bounded.range.bits % 65536 ≡ 2 ^ c.args.bounded.range.bits = omega (arith, pow_mono c.requires.high) in
    let few : (c.in-Some.number + c.negatives.result) % (1 * 2 ^ c.args.bounded.range.bits % 65536) < 2 ^ c.args.bounded.range.bits =
    rw w (mod-lt (c.in-Some.number + c.negatives.result) (pow_pos c.args.bounded.range.bits)) in
    let height = (c.in-Some.number + c.negatives.result) % (1 * 2 ^ c.args.bounded.range.bits % 65536) in
    reference_got (kind_of c.args.bounded.range too_great) c.in-Some.number height (rw (w, c.negatives.ensures.is) refl) p.ends _ c.requires.open
    (bound_low bound few (omega arith))
    (c.push.ensures.heights ∙ ap (λ l. l ++ height ∷ []) c.requires.none)
