use Rattle.std.proofs.Common.{◌*◌}
use Rattle.wave_defs.specs.Lifted.{less_correction}
use Rattle.wave_defs.specs.Held.{Agrees, signal}
use Rattle.lift_lanes.proofs.narrow_onto.update_sub_onto.Given as goal

abbrev pub invariant-lanes : goal.invariant-lanes
invariant-lanes l = Agrees (8 * l.k) (signal l.low) (less_correction (signal l.even) (signal l.before) (signal l.after))

abbrev pub invariant-rest : goal.invariant-rest
invariant-rest l = Agrees l.j (signal l.low) (less_correction (signal l.even) (signal l.before) (signal l.after))
