use Rattle.std.proofs.Common.{suc, append-nil}
use Rattle.std.proofs.lemmas.Result.{err_from_is_err_and}
use Rattle.bit_pipe.proofs.ScriptReading.{in_read}
use Rattle.gaggle_codes.specs.Given.{kind_of}
use Rattle.gaggle_codes.proofs.GaggleReads.{gaggle_fault, gaggle_cut, gaggle_next}
use Rattle.gaggle_codes.proofs.take_gaggle.take_next.Goals as goal

pub returns-in_err-option-clause-read : goal.returns-in_err-option-clause-read
returns-in_err-option-clause-read g c = λ too_great all h prior bound size last.
    let p = err_from_is_err_and c.from_residual.result c.from_residual.ensures.1 in
    rw (p.1, p.2, c.requires.none, append-nil prior) (gaggle_fault (kind_of c.args.bounded.range too_great) all (suc h) prior _
    (c.in_err-option.ensures.read prior))

pub returns-in_default-clause-read : goal.returns-in_default-clause-read
returns-in_default-clause-read g c = λ too_great all h prior bound size last.
    rw (c.requires.none, append-nil prior) (gaggle_cut (kind_of c.args.bounded.range too_great) all (suc h) prior
    (rw c.in_default.is at (c.in_ok-option.ensures.read prior)))

pub take_differences-requires-clause-open : goal.take_differences-requires-clause-open
take_differences-requires-clause-open g c = in_read c.requires.open (rw c.in-Some.is at (c.in_ok-option.ensures.read c.args.numbers.now.heights))

pub returns-clause-read : goal.returns-clause-read
returns-clause-read g c = λ too_great all h prior bound size last.
    gaggle_next (kind_of c.args.bounded.range too_great) all c.args.size h prior c.in-Some.option _ size (rw c.in-Some.is at (c.in_ok-option.ensures.read
    prior))
    (rw (c.requires.none, append-nil prior) at (c.take_differences.ensures.read too_great prior bound (rw (c.requires.none, append-nil prior) last)))
