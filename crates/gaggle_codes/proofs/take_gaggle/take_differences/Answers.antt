use Rattle.std.proofs.Common.{inl, inr, arith, ◌++◌}
use Rattle.std.proofs.lemmas.Result.{err_from_is_err_and}
use Rattle.bit_pipe.proofs.ScriptReading.{in_read}
use Rattle.gaggle_codes.specs.Given.{heights_in, kind_of}
use Rattle.gaggle_codes.proofs.ValueReads.{is_plain, is_split}
use Rattle.gaggle_codes.proofs.GaggleReads.{differences_plain, differences_cut, differences_fault, differences_split, take_zeros, long_zeros, none_set}
use Rattle.gaggle_codes.proofs.take_gaggle.take_differences.Goals as goal
use Rattle.gaggle_codes.proofs.take_gaggle.take_differences.Goals.{then-option-eq0-via-then-option-eq0}
use Rattle.gaggle_codes.proofs.take_gaggle.take_differences.Goals.{then-option-eq0-via-else-option-eq0+then-option-uncoded_of}

pub take_whole-requires-clause-plain : goal.take_whole-requires-clause-plain
take_whole-requires-clause-plain g c = λ t j. none_set c.args.count j (omega arith)

pub returns-then-option-eq0-clause-read : goal.returns-then-option-eq0-clause-read
returns-then-option-eq0-clause-read g c = λ too_great prior bound last.
    differences_plain (kind_of c.args.bounded.range too_great) c.args.option c.args.count (prior ++ heights_in c.args.numbers.now) _ _
    (elim c.then-option-eq0.branch [
      | then-option-eq0-via-then-option-eq0 w ↦ is_plain c.args.bounded.range.bits c.args.option (inl (omega arith))
      | then-option-eq0-via-else-option-eq0+then-option-uncoded_of w ↦ is_plain c.args.bounded.range.bits c.args.option (inr (omega (
        arith,
        w.uncoded_of.ensures,
      )))
    ])
    (take_zeros c.args.count (omega arith)) (c.take_whole.ensures.read too_great prior bound last)

pub returns-in_err-take_unary_parts-clause-read : goal.returns-in_err-take_unary_parts-clause-read
returns-in_err-take_unary_parts-clause-read g c = λ too_great prior bound last.
    let p = err_from_is_err_and c.from_residual.result c.from_residual.ensures.1 in
    let long = long_zeros c.args.count (omega arith) in
    rw (p.1, p.2) (differences_fault (kind_of c.args.bounded.range too_great) c.args.option c.args.count (prior ++ heights_in c.args.numbers.now)
    (is_split c.args.bounded.range.bits c.args.option (λ e. omega (arith, e)) (λ e. omega (arith, e, c.uncoded_of.ensures))) _
    (rw long at (c.in_err-take_unary_parts.ensures.read (prior ++ heights_in c.args.numbers.now))))

pub returns-in_default-clause-read : goal.returns-in_default-clause-read
returns-in_default-clause-read g c = λ too_great prior bound last.
    let long = long_zeros c.args.count (omega arith) in
    differences_cut (kind_of c.args.bounded.range too_great) c.args.option c.args.count (prior ++ heights_in c.args.numbers.now)
    (is_split c.args.bounded.range.bits c.args.option (λ e. omega (arith, e)) (λ e. omega (arith, e, c.uncoded_of.ensures)))
    (rw long at (rw c.in_default.is at (c.in_ok-take_unary_parts.ensures.read (prior ++ heights_in c.args.numbers.now))))

pub take_whole-requires-2-clause-open : goal.take_whole-requires-2-clause-open
take_whole-requires-2-clause-open g c = in_read c.requires.open (rw c.in-Whole.is at (c.in_ok-take_unary_parts.ensures.read (heights_in c.args.numbers.now)))

pub returns-clause-read : goal.returns-clause-read
returns-clause-read g c = λ too_great prior bound last.
    let long = long_zeros c.args.count (omega arith) in
    differences_split (kind_of c.args.bounded.range too_great) c.args.option c.args.count (prior ++ heights_in c.args.numbers.now)
    (is_split c.args.bounded.range.bits c.args.option (λ e. omega (arith, e)) (λ e. omega (arith, e, c.uncoded_of.ensures))) _ _
    (omega (arith, long, c.take_unary_parts.auto.zeros))
    (rw long at (rw c.in-Whole.is at (c.in_ok-take_unary_parts.ensures.read (prior ++ heights_in c.args.numbers.now))))
    (c.take_whole-2.ensures.read too_great prior bound last)
