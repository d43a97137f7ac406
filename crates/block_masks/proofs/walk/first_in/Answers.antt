use Rattle.std.proofs.Common.{◌==◌, ap}
use Rattle.std.specs.Int.{w64}
use Rattle.std.proofs.lemmas.Nat.Bits.{bit_at-trailing_zeros}
use Rattle.block_masks.proofs.walk.first_in.Goals as goal

pub returns-clause-here : goal.returns-clause-here
returns-clause-here c = ap (λ x. x == 1) (bit_at-trailing_zeros w64 c.args.mask c.requires.some c.ranges.mask.fits).1

pub returns-clause-none_before : goal.returns-clause-none_before
returns-clause-none_before c = λ k lt. ap (λ x. x == 1) ((bit_at-trailing_zeros w64 c.args.mask c.requires.some c.ranges.mask.fits).2 k lt)
