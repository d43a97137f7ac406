use Rattle.std.proofs.Common.{refl, arith}
use Rattle.std.proofs.lemmas.Result.{err_from_is_err_and}
use Rattle.item_defs.specs.Readings.{ended}
use Rattle.bit_pipe.specs.Reading.{stopped, failed}
use Rattle.bit_pipe.proofs.OneItem.{one_ended, one_failed}
use Rattle.plane_defs.specs.Codes.{option_item}
use Rattle.word_codes.proofs.Identifiers.{names_one, names_none}
use Rattle.word_codes.proofs.take.take_option.Goals as goal

pub returns-in_err-number : goal.returns-in_err-number
returns-in_err-number g c =
    let p = err_from_is_err_and c.from_residual.result c.from_residual.ensures.1 in
    let h = rw c.identifier_bits.ensures.is at c.in_err-number.ensures.ends in
    rw (p.1, p.2) (record {
      value = 0;
      known = omega (arith, c.requires.short);
      ending = failed 0 c.in_err-number.field-0.0;
      read = one_failed (option_item c.args.length 0) c.in_err-number.field-0.0 h;
      answer = refl;
    })

pub returns-in_default : goal.returns-in_default
returns-in_default g c =
    let h = rw c.in_default.is at c.in_ok-number.ensures in
    let k = rw c.identifier_bits.ensures.is at h.ends in
    record {
      value = 0;
      known = omega (arith, c.requires.short);
      ending = stopped (ended 0);
      read = one_ended (option_item c.args.length 0) k;
      answer = refl;
    }

pub option_named-requires : goal.option_named-requires
option_named-requires g c =
    let h = rw c.in-Some.is at c.in_ok-number.ensures in
    let k = rw c.identifier_bits.ensures.is at h.ends in
    record { short = c.requires.short; long = c.requires.long; fits = k.0 }

pub returns-in-Some-option_named : goal.returns-in-Some-option_named
returns-in-Some-option_named g c =
    let h = rw c.in-Some.is at c.in_ok-number.ensures in
    let k = rw c.identifier_bits.ensures.is at h.ends in
    let named = c.in-Some-option_named.ensures in
    names_one c.args.length c.in-Some.number c.in-Some-option_named.option named.0 named.1 k.1

pub returns-in-None : goal.returns-in-None
returns-in-None g c =
    let h = rw c.in-Some.is at c.in_ok-number.ensures in
    let k = rw c.identifier_bits.ensures.is at h.ends in
    let named = rw c.in-None.is at c.option_named.ensures in
    names_none c.args.length c.in-Some.number (omega (arith, c.requires.short)) k.0 named k.1
