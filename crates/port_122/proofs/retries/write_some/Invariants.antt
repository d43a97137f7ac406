use Rattle.std.specs.Prelude.{◌-◌}
use Rattle.std.specs.Io.KnownBytes.{Keeps}
use Rattle.port_122.specs.Answers.{Interruptions}
use Rattle.port_122.proofs.retries.write_some.Given as goal

abbrev pub invariant-tries : goal.invariant-tries
invariant-tries g l = Keeps (g.O.Writer.contents l.fn.output) (g.O.Writer.contents l.output) ×
    Interruptions g.O.Writer.answers l.fn.output l.interrupted l.output

abbrev pub decreases-tries : goal.decreases-tries
decreases-tries g l = 18446744073709551615 - l.interrupted
