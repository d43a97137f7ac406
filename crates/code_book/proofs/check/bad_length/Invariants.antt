use Rattle.std.proofs.Common.{◌≡◌, ◌-◌, not}
use Rattle.plane_defs.specs.Codes.{entry}
use Rattle.code_book.specs.Tests.{first_from, bad_length, has_length}
use Rattle.code_book.proofs.check.bad_length.Given as goal

-- no symbol so far has the fault
abbrev pub invariant-loop-symbol : goal.invariant-loop-symbol
invariant-loop-symbol l = bad_length l.codes l.count ≡ first_from (λ s. not (has_length (entry l.codes s))) l.symbol (l.count - l.symbol)
