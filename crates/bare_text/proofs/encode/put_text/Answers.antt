use Rattle.std.proofs.lemmas.Result.{err_from_is_err_and}
use Rattle.bit_pipe.proofs.Putting.{puts_then, puts_cut}
use Rattle.bare_text.proofs.encode.put_text.Goals as goal

pub returns-in_err-put_bare_head-clause-puts : goal.returns-in_err-put_bare_head-clause-puts
returns-in_err-put_bare_head-clause-puts g c =
    let e = err_from_is_err_and c.from_residual.result c.from_residual.ensures.1 in
    rw (e.1, e.2) (puts_cut _ c.in_err-put_bare_head.ensures)

pub returns-clause-puts : goal.returns-clause-puts
returns-clause-puts g c = puts_then c.in_ok-put_bare_head.ensures.ends c.encode_items.ensures.encodes.puts
