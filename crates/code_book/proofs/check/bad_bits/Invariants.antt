use Rattle.std.proofs.Common.{◌≡◌, ◌-◌, not}
use Rattle.plane_defs.specs.Codes.{entry}
use Rattle.code_book.specs.Tests.{first_from, bad_bits, fits}
use Rattle.code_book.proofs.check.bad_bits.Given as goal

-- no symbol so far has the fault
abbrev pub invariant-loop-symbol : goal.invariant-loop-symbol
invariant-loop-symbol l = bad_bits l.codes l.count ≡ first_from (λ s. not (fits (entry l.codes s))) l.symbol (l.count - l.symbol)
