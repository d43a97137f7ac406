use Rattle.std.proofs.Common.{◌*◌}
use Rattle.wave_defs.specs.Lifted.{less_predicted}
use Rattle.wave_defs.specs.Held.{Agrees, signal}
use Rattle.lift_lanes.proofs.narrow_onto.predict_sub_onto.Given as goal

abbrev pub invariant-lanes : goal.invariant-lanes
invariant-lanes l =
    Agrees (8 * l.k) (signal l.high)
    (less_predicted (signal l.odd) (signal l.evens.second_before.now) (signal l.evens.before.now) (signal l.evens.after.now) (signal l.evens.second_after.now))

abbrev pub invariant-rest : goal.invariant-rest
invariant-rest l =
    Agrees l.j (signal l.high)
    (less_predicted (signal l.odd) (signal l.evens.second_before.now) (signal l.evens.before.now) (signal l.evens.after.now) (signal l.evens.second_after.now))
