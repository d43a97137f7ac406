use Rattle.std.proofs.Common.{sym, ◌∙◌}
use Rattle.std.proofs.lemmas.Result.{err_from_is_err_and}
use Rattle.gaggle_codes.proofs.GaggleReads.{option_failed, option_ended, option_none, option_got}
use Rattle.gaggle_codes.proofs.take_gaggle.take_identifier.Goals as goal

pub returns-in_err-number-clause-read : goal.returns-in_err-number-clause-read
returns-in_err-number-clause-read g c = λ given.
    let p = err_from_is_err_and c.from_residual.result c.from_residual.ensures.1 in
    rw (p.1, p.2) (option_failed given c.args.bits _ c.option_bits.ensures.is _ c.in_err-number.ensures.ends)

pub returns-in_default-clause-read : goal.returns-in_default-clause-read
returns-in_default-clause-read g c = λ given. option_ended given c.args.bits _ c.option_bits.ensures.is (rw c.in_default.is at c.in_ok-number.ensures).ends

pub returns-then-not-names_option-clause-read : goal.returns-then-not-names_option-clause-read
returns-then-not-names_option-clause-read g c = λ given.
    option_none given c.args.bits _ c.option_bits.ensures.is c.in-Some.number (sym c.names_option.ensures ∙ c.if-not-names_option.true)
    (rw c.in-Some.is at c.in_ok-number.ensures).ends

pub returns-clause-read : goal.returns-clause-read
returns-clause-read g c = λ given.
    option_got given c.args.bits _ c.option_bits.ensures.is c.in-Some.number c.requires.open (sym c.names_option.ensures ∙ c.if-not-names_option.false)
    (rw c.in-Some.is at c.in_ok-number.ensures).ends
