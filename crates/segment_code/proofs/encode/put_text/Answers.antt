use Rattle.std.proofs.lemmas.Result.{err_from_is_err_and}
use Rattle.bit_pipe.proofs.Putting.{puts_then, puts_cut}
use Rattle.segment_code.proofs.encode.put_text.Goals as goal

pub returns-in_err-write_head-clause-puts : goal.returns-in_err-write_head-clause-puts
returns-in_err-write_head-clause-puts g c =
    let e = err_from_is_err_and c.from_residual.result c.from_residual.ensures.1 in
    rw (e.1, e.2) (puts_cut _ c.in_err-write_head.ensures.puts)

pub returns-clause-puts : goal.returns-clause-puts
returns-clause-puts g c = puts_then c.in_ok-write_head.ensures.puts.ends c.put_items.ensures.encodes.puts
