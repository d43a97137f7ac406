use Rattle.std.proofs.Common.{false, arith}
use Rattle.bit_pipe.proofs.Putting.{open_after}
use Rattle.layer_tests.proofs.numbers.put_four.Goals as goal

pub end-requires-clause-bound : goal.end-requires-clause-bound
end-requires-clause-bound g c = open_after c.new-bits.ensures.is_open (c.in_ok-put_values.ensures (λ height. false))

pub end-requires-clause-padded : goal.end-requires-clause-padded
end-requires-clause-padded g c =
    let open_still = open_after c.new-bits.ensures.is_open (c.in_ok-put_values.ensures (λ height. false)) in
    let whole = open_still.whole in
    omega (arith, whole)
