use Rattle.std.proofs.Common.{◌≡◌, ◌≤◌, ◌*◌}
use Rattle.code_book.specs.Tests.{room_of}
use Rattle.code_book.proofs.check.room_of.Given as goal

-- the room of the codes so far
abbrev pub invariant-loop-symbol : goal.invariant-loop-symbol
invariant-loop-symbol l = (l.room ≡ room_of l.codes l.symbol) × (l.room ≤ 256 * l.symbol)
