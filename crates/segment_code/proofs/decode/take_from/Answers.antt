use Rattle.std.proofs.Common.{Err, Ok, rules, refl, ap}
use Rattle.std.proofs.lemmas.Result.{err_from_is_err_and}
use Rattle.bit_pipe.specs.SourceState.{source_state}
use Rattle.segment_code.specs.TakenText.{with_used}
use Rattle.segment_code.proofs.decode.take_from.Goals as goal

pub returns-in_err-part-clause-takes : goal.returns-in_err-part-clause-takes
returns-in_err-part-clause-takes g c =
    let p = err_from_is_err_and c.from_residual.result c.from_residual.ensures.1 in
    let name = c.in_err-part.ensures.takes.1.taken.name in
    let same = c.new-bits.ensures.same in
    rw (p.1, p.2) (record {
      start = source_state c.new-bits.result;
      begins = rw (c.from.ensures, c.from-2.ensures) at c.new-bits.ensures.begins;
      stop = source_state c.take_text.new.input;
      valid = search rules;
      answered = Err _;
      text = c.in_err-part.ensures.takes;
      answer = refl;
    })

pub returns-clause-takes : goal.returns-clause-takes
returns-clause-takes g c =
    let name = c.in_ok-part.ensures.takes.taken.name in
    let same = c.new-bits.ensures.same in
    record {
      start = source_state c.new-bits.result;
      begins = rw (c.from.ensures, c.from-2.ensures) at c.new-bits.ensures.begins;
      stop = source_state c.take_text.new.input;
      valid = search rules;
      answered = Ok c.in_ok-part.part;
      text = c.in_ok-part.ensures.takes;
      answer = ap (with_used (Ok c.in_ok-part.part)) c.used.ensures;
    }
