use Rattle.std.specs.Prelude.{◌-◌}
use Rattle.std.specs.Io.KnownBytes.{Keeps}
use Rattle.port_122.specs.Answers.{Interruptions}
use Rattle.port_122.proofs.retries.read_some.Given as goal

abbrev pub invariant-tries : goal.invariant-tries
invariant-tries g l = Keeps (g.I.Reader.remaining l.fn.input) (g.I.Reader.remaining l.input) ×
    Interruptions g.I.Reader.answers l.fn.input l.interrupted l.input

abbrev pub decreases-tries : goal.decreases-tries
decreases-tries g l = 18446744073709551615 - l.interrupted
