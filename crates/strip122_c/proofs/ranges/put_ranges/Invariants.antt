use Rattle.std.proofs.Common.{◌-◌}
use Rattle.strip122_c.proofs.RangesPut.{ArePut}
use Rattle.strip122_c.proofs.ranges.put_ranges.Given as goal

abbrev pub invariant-loop-range : goal.invariant-loop-range
invariant-loop-range l = ArePut l.damage l.initial.places l.places l.count l.from

abbrev pub decreases-loop-range : goal.decreases-loop-range
decreases-loop-range l = l.damage.rows - l.from
