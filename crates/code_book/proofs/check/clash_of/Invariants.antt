use Rattle.std.proofs.Common.{◌≡◌, ◌-◌}
use Rattle.plane_defs.specs.Codes.{entry}
use Rattle.code_book.specs.Tests.{first_from, clash_of, clashes}
use Rattle.code_book.proofs.check.clash_of.Given as goal

-- no code so far clashes
abbrev pub invariant-loop-second : goal.invariant-loop-second
invariant-loop-second l = clash_of l.codes l.count l.first ≡ first_from (λ s. clashes (entry l.codes l.first) (entry l.codes s)) l.second (l.count - l.second)
