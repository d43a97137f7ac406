use Rattle.std.proofs.Common.{◌+◌, ◌^◌, pos, ◌*ℤ◌, get_or}
use Rattle.block_families.specs.Gathering.{FillsEach}
use Rattle.block_families.proofs.gathering.put_tops.Given as goal

abbrev pub invariant-loop-k : goal.invariant-loop-k
invariant-loop-k l = FillsEach (λ k i. get_or l.row (l.column + k) (pos 0) *ℤ pos (2 ^ l.shift)) l.at 1 l.k l.initial.into l.into
