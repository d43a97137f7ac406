use Rattle.std.proofs.Common.{◌<◌, ◌^◌, ◌≤◌, refl, arith, pow_mono, pow_pos}
use Rattle.std.proofs.lemmas.Result.{err_from_is_err_and}
use Rattle.item_defs.specs.Items.{plain}
use Rattle.item_defs.specs.Readings.{whole, ended}
use Rattle.bit_pipe.specs.Reading.{stopped, failed}
use Rattle.bit_pipe.proofs.OneItem.{one_whole, one_ended, one_failed}
use Rattle.word_codes.proofs.take.take_plain.Goals as goal

pub returns-in_err-word : goal.returns-in_err-word
returns-in_err-word g c =
    let p = err_from_is_err_and c.from_residual.result c.from_residual.ensures.1 in
    rw (p.1, p.2) (record {
      value = 0;
      known = pow_pos c.args.length;
      ending = failed 0 c.in_err-word.field-0.0;
      read = one_failed (plain c.args.length 0) c.in_err-word.field-0.0 c.in_err-word.ensures.ends;
      answer = refl;
    })

pub returns-in_default : goal.returns-in_default
returns-in_default g c =
    let h = rw c.in_default.is at c.in_ok-word.ensures in
    record {
      value = 0;
      known = pow_pos c.args.length;
      ending = stopped (ended 0);
      read = one_ended (plain c.args.length 0) h.ends;
      answer = refl;
    }

pub returns : goal.returns
returns g c =
    let h = rw c.in-Some.is at c.in_ok-word.ensures in
    record {
      value = c.in-Some.word;
      known = h.ends.0;
      ending = stopped whole;
      read = one_whole (plain c.args.length c.in-Some.word) h.ends.1;
      answer = refl;
    }
