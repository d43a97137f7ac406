use Rattle.std.proofs.Common.{◌≡◌, ◌-◌}
use Rattle.code_book.specs.Tests.{fault_from}
use Rattle.code_book.proofs.check.first_fault.Given as goal

-- no table so far has a fault
abbrev pub invariant-loop-table : goal.invariant-loop-table
invariant-loop-table l = fault_from l.book 0 6 ≡ fault_from l.book l.table (6 - l.table)
