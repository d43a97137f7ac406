use Rattle.std.proofs.Common.{refl}
use Rattle.port_tests.proofs.bare_written.port_of.Goals as goal

pub encode_port-requires-clause-in_range : goal.encode_port-requires-clause-in_range
encode_port-requires-clause-in_range g c = c.in_ok-check.ensures.range.0 refl
