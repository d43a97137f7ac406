use Rattle.std.proofs.Common.{◌≡◌, ◌+◌}
use Rattle.stream_defs.specs.Damage.{run_length}
use Rattle.damage_rows.proofs.damage.Damage.last_of_range.Given as goal

abbrev pub invariant-loop-row : goal.invariant-loop-row
invariant-loop-row l = l.first + run_length l.self.rows l.self.missing l.first ≡ l.row + run_length l.self.rows l.self.missing l.row
