use Rattle.std.proofs.Common.{◌<◌, ◌+◌, ap, ◌∙◌, arith}
use Rattle.plane_coder.specs.Kept.{bits_in}
use Rattle.plane_coder.proofs.Keeping.{sealed_bits, weight_is}
use Rattle.plane_coder.proofs.pending.PendingBits.seal.Goals as goal

pub returns-clause-bits : goal.returns-clause-bits
returns-clause-bits c =
    let s = c.args.self.now in
    let few : s.count < 64 = omega (arith, s.most) in
    ap (λ w. bits_in (s.value + w)) (weight_is s.count few) ∙ sealed_bits s.value s.count s.fits few
