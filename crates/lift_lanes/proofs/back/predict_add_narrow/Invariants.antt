use Rattle.std.proofs.Common.{◌≡◌, ℕ, ◌*◌, ◌≤◌}
use Rattle.wave_defs.specs.Lifted.{plus_predicted}
use Rattle.wave_defs.specs.Held.{Agrees, signal}
use Rattle.lift_lanes.proofs.back.predict_add_narrow.Given as goal

abbrev pub invariant-lanes : goal.invariant-lanes
invariant-lanes l = record {
  done : Agrees (8 * l.k) (signal l.odd) (plus_predicted (signal l.fn.odd) (signal l.a) (signal l.b) (signal l.c) (signal l.d));
  left : (p : ℕ) → 8 * l.k ≤ p → signal l.odd p ≡ signal l.fn.odd p;
}

abbrev pub invariant-rest : goal.invariant-rest
invariant-rest l = record {
  done : Agrees l.j (signal l.odd) (plus_predicted (signal l.fn.odd) (signal l.a) (signal l.b) (signal l.c) (signal l.d));
  left : (p : ℕ) → l.j ≤ p → signal l.odd p ≡ signal l.fn.odd p;
}
