use Rattle.std.proofs.Common.{◌≡◌, ◌-◌}
use Rattle.code_book.specs.Tests.{clash_from}
use Rattle.code_book.proofs.check.first_clash.Given as goal

-- no pair so far clashes
abbrev pub invariant-loop-first : goal.invariant-loop-first
invariant-loop-first l = clash_from l.table l.codes l.count 0 l.count ≡ clash_from l.table l.codes l.count l.first (l.count - l.first)
