use Rattle.std.proofs.Common.{◌==◌, ap}
use Rattle.std.specs.Int.{w64}
use Rattle.std.proofs.lemmas.Nat.Bits.{bit_at_clear_same, bit_at_clear_other}
use Rattle.block_masks.proofs.MaskParts.{fewer_left}
use Rattle.block_masks.proofs.walk.without.Goals as goal

pub returns-clause-gone : goal.returns-clause-gone
returns-clause-gone c = ap (λ x. x == 1) (bit_at_clear_same w64 c.args.mask c.args.position c.requires.position)

pub returns-clause-others : goal.returns-clause-others
returns-clause-others c = λ k lt ne. ap (λ x. x == 1) (bit_at_clear_other w64 c.args.mask c.args.position c.requires.position k lt ne)

pub returns-clause-fewer : goal.returns-clause-fewer
returns-clause-fewer c = λ here. fewer_left c.args.mask _ c.args.position here
    (ap (λ x. x == 1) (bit_at_clear_same w64 c.args.mask c.args.position c.requires.position))
