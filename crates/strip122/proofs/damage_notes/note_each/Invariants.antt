use Rattle.std.proofs.Common.{◌-◌}
use Rattle.strip122.proofs.DamageParts.{AreNoted}
use Rattle.strip122.proofs.damage_notes.note_each.Given as goal

abbrev pub invariant-loop-range : goal.invariant-loop-range
invariant-loop-range g l = AreNoted l.damage (g.X.Port.outside l.initial.port) (g.X.Port.outside l.port) l.from

abbrev pub decreases-loop-range : goal.decreases-loop-range
decreases-loop-range g l = l.damage.rows - l.from
