use Rattle.std.proofs.Common.{◌+◌, ◌-◌, ◌*◌, ◌^◌, pos, ◌*ℤ◌}
use Rattle.block_families.specs.Gathering.{FillsEach, square}
use Rattle.block_families.proofs.gathering.put_squares.Given as goal

abbrev pub invariant-loop-k : goal.invariant-loop-k
invariant-loop-k l =
    FillsEach (λ k i. square l.upper l.lower (l.squares.start + l.squares.step * k) (i - l.squares.at) *ℤ pos (2 ^ l.squares.shift)) l.squares.at 4 l.k
    l.initial.into l.into
