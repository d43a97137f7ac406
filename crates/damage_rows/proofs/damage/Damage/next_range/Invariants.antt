use Rattle.std.proofs.Common.{◌≡◌}
use Rattle.stream_defs.specs.Marks.{next_range}
use Rattle.damage_rows.proofs.RangeLaws.{found_from}
use Rattle.damage_rows.proofs.damage.Damage.next_range.Given as goal

abbrev pub invariant-loop-row : goal.invariant-loop-row
invariant-loop-row l = next_range l.self l.from ≡ found_from l.self.rows l.self.missing l.from l.row
