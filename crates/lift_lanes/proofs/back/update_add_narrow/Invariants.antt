use Rattle.std.proofs.Common.{◌≡◌, ℕ, ◌*◌, ◌≤◌}
use Rattle.wave_defs.specs.Lifted.{plus_correction}
use Rattle.wave_defs.specs.Held.{Agrees, signal}
use Rattle.lift_lanes.proofs.back.update_add_narrow.Given as goal

abbrev pub invariant-lanes : goal.invariant-lanes
invariant-lanes l = record {
  done : Agrees (8 * l.k) (signal l.even) (plus_correction (signal l.fn.even) (signal l.before) (signal l.after));
  left : (p : ℕ) → 8 * l.k ≤ p → signal l.even p ≡ signal l.fn.even p;
}

abbrev pub invariant-rest : goal.invariant-rest
invariant-rest l = record {
  done : Agrees l.j (signal l.even) (plus_correction (signal l.fn.even) (signal l.before) (signal l.after));
  left : (p : ℕ) → l.j ≤ p → signal l.even p ≡ signal l.fn.even p;
}
