use Rattle.std.proofs.Common.{◌≡◌, length, arith, refl, sym, ◌∙◌, subst, All}
use Rattle.std.proofs.lemmas.Bool.{false≢true}
use Rattle.command_words.specs.Values.{IsWeightDigit}
use Rattle.command_words.proofs.ValueTexts.{All-weights, weights_from_digits}
use Rattle.command_words.proofs.values.read_weights.Goals as goal

pub returns-then-not-are_weight_digits : goal.returns-then-not-are_weight_digits
returns-then-not-are_weight_digits c value is =
    let digits : All IsWeightDigit c.as_bytes-digits.result.now =
    subst (All IsWeightDigit) (sym c.as_bytes-digits.ensures.value) (All-weights c.args.text.now value is) in
    false≢true (c.if-not-are_weight_digits.ensures.1 digits)

pub returns : goal.returns
returns c =
    let digits : All IsWeightDigit c.as_bytes-digits.result.now = c.if-not-are_weight_digits.ensures.0 refl in
    let ten : length c.as_bytes-digits.result.now ≡ 10 = omega arith in
    let made = weights_from_digits c.as_bytes-digits.result.now c.loop-i.shifts ten c.loop-i.invariant.size digits
    (λ k below. c.loop-i.invariant.each k (omega arith)) in
    ((c.loop-i.invariant.size, made.0), sym c.as_bytes-digits.ensures.value ∙ made.1)
