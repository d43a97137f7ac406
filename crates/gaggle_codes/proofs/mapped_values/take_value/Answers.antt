use Rattle.std.proofs.Common.{◌≡◌, arith, pow_mono, refl, inl, inr}
use Rattle.std.proofs.lemmas.Result.{err_from_is_err_and}
use Rattle.number_defs.specs.Gaggles.{uncoded}
use Rattle.gaggle_codes.proofs.ValueReads.{k_below, parts_below, parts_code, plain_failed, plain_ended, plain_got, alone, rest_failed, rest_ended, rest_got}
use Rattle.gaggle_codes.proofs.ValueReads.{is_plain}
use Rattle.gaggle_codes.proofs.mapped_values.take_value.Goals as goal

pub returns-in_err-value-clause-read : goal.returns-in_err-value-clause-read
returns-in_err-value-clause-read g c =
    let p = err_from_is_err_and c.from_residual.result c.from_residual.ensures.1 in
    rw (p.1, p.2) (plain_failed c.args.bits c.args.option c.args.zeros (omega (arith, c.uncoded_of.ensures)) _ c.in_err-value.ensures.ends)

pub returns-in_default-clause-read : goal.returns-in_default-clause-read
returns-in_default-clause-read g c =
    let p = rw c.in_default.is at c.in_ok-value.ensures in
    plain_ended c.args.bits c.args.option c.args.zeros (omega (arith, c.uncoded_of.ensures)) p.ends

pub returns-then-option-uncoded_of-clause-read : goal.returns-then-option-uncoded_of-clause-read
returns-then-option-uncoded_of-clause-read g c =
    let p = rw c.in-Some.is at c.in_ok-value.ensures in
    let all : c.args.option ≡ uncoded c.args.bits = omega (arith, c.uncoded_of.ensures) in
    plain_got c.args.bits c.args.option c.args.zeros all c.in-Some.value (c.requires.plain (is_plain c.args.bits c.args.option (inr all))) p.ends

pub returns-then-option-eq0-clause-read : goal.returns-then-option-eq0-clause-read
returns-then-option-eq0-clause-read g c =
    let none : c.args.option ≡ 0 = omega arith in
    alone _ c.args.bits c.args.zeros _ _ c.args.option none (λ e. omega (arith, e, c.uncoded_of.ensures))
    (c.requires.plain (is_plain c.args.bits c.args.option (inl none))) _ c.take_unary.ensures.read

pub returns-in_err-rest-clause-read : goal.returns-in_err-rest-clause-read
returns-in_err-rest-clause-read g c =
    let p = err_from_is_err_and c.from_residual-in_err-rest.result c.from_residual-in_err-rest.ensures.1 in
    rw (p.1, p.2) (rest_failed c.args.bits c.args.option c.args.zeros (λ e. omega (arith, e, c.uncoded_of.ensures)) (λ e. omega (arith, e)) _
    c.in_err-rest.ensures.ends)

pub returns-in_default-2-clause-read : goal.returns-in_default-2-clause-read
returns-in_default-2-clause-read g c =
    let p = rw c.in_default-2.is at c.in_ok-rest.ensures in
    rest_ended c.args.bits c.args.option c.args.zeros (λ e. omega (arith, e, c.uncoded_of.ensures)) (λ e. omega (arith, e)) p.ends

pub overflow_add-result : goal.overflow_add-result
overflow_add-result g c =
    let p = rw c.in-Some-2.is at c.in_ok-rest.ensures in
    let le = k_below c.args.bits c.args.option c.requires.option (λ e. omega (arith, e, c.uncoded_of.ensures)) in
    let below = parts_below c.args.bits c.args.option c.args.zeros c.in-Some-2.rest le c.requires.zeros p.ends.0 in
    omega (arith, parts_code c.args.bits c.args.option c.args.zeros c.requires.bits le c.requires.zeros, below, pow_mono c.requires.bits)

pub returns-clause-few : goal.returns-clause-few
returns-clause-few g c =
    let p = rw c.in-Some-2.is at c.in_ok-rest.ensures in
    let le = k_below c.args.bits c.args.option c.requires.option (λ e. omega (arith, e, c.uncoded_of.ensures)) in
    omega (
      arith,
      parts_code c.args.bits c.args.option c.args.zeros c.requires.bits le c.requires.zeros,
      parts_below c.args.bits c.args.option c.args.zeros
          c.in-Some-2.rest le c.requires.zeros p.ends.0,
    )

pub returns-clause-read : goal.returns-clause-read
returns-clause-read g c =
    let p = rw c.in-Some-2.is at c.in_ok-rest.ensures in
    let le = k_below c.args.bits c.args.option c.requires.option (λ e. omega (arith, e, c.uncoded_of.ensures)) in
    rw (parts_code c.args.bits c.args.option c.args.zeros c.requires.bits le c.requires.zeros)
    (rest_got c.args.bits c.args.option c.args.zeros (λ e. omega (arith, e, c.uncoded_of.ensures)) (λ e. omega (arith, e)) _ c.in-Some-2.rest refl p.ends)
