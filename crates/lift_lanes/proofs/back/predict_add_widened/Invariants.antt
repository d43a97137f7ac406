use Rattle.std.proofs.Common.{◌≡◌, ℕ, ◌≤◌}
use Rattle.wave_defs.specs.Lifted.{plus_predicted}
use Rattle.wave_defs.specs.Held.{Agrees, signal}
use Rattle.lift_lanes.proofs.back.predict_add_widened.Given as goal

abbrev pub invariant-loop-j : goal.invariant-loop-j
invariant-loop-j l = record {
  done : Agrees l.j (signal l.odd) (plus_predicted (signal l.fn.odd) (signal l.a) (signal l.b) (signal l.c) (signal l.d));
  left : (p : ℕ) → l.j ≤ p → signal l.odd p ≡ signal l.fn.odd p;
}
