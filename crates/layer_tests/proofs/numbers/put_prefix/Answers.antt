use Rattle.std.proofs.Common.{false, arith}
use Rattle.bit_pipe.proofs.Putting.{open_later}
use Rattle.layer_tests.proofs.numbers.put_prefix.Goals as goal

pub end-requires-clause-bound : goal.end-requires-clause-bound
end-requires-clause-bound g c =
    let stopped = rw c.in-Err-Stopped.field-0-is at (c.in-Err-Stopped.ensures (λ height. false)) in
    open_later c.new-bits.ensures.is_open stopped.ends.1

pub end-requires-clause-padded : goal.end-requires-clause-padded
end-requires-clause-padded g c =
    let stopped = rw c.in-Err-Stopped.field-0-is at (c.in-Err-Stopped.ensures (λ height. false)) in
    let open_still = open_later c.new-bits.ensures.is_open stopped.ends.1 in
    let whole = open_still.whole in
    omega (arith, whole)
