use Rattle.bit_pipe.proofs.Putting.{puts_then}
use Rattle.gaggle_codes.proofs.values.put_unary.Goals as goal

pub returns : goal.returns
returns g c = puts_then c.in_ok-put_zeros.ensures.ends c.put.ensures
