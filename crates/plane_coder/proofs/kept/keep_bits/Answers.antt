use Rattle.std.proofs.Common.{refl, ap, ◌∙◌, arith, get_or-set_same, get_or-set_other}
use Rattle.plane_coder.specs.Kept.{bits_in}
use Rattle.plane_coder.proofs.kept.keep_bits.Goals as goal
use Rattle.plane_coder.proofs.kept.keep_bits.Goals.{then-used-lt-FREE, else-used-lt-FREE}

pub returns-clause-keeps : goal.returns-clause-keeps
returns-clause-keeps c =
    let old = c.args.free.now in
    let used = c.args.used in
    elim c.if-used-lt-FREE.branch [
      | then-used-lt-FREE w ↦ rw w.free-is (record {
        used = omega (arith, c.min.ensures);
        here = λ room. ap bits_in (get_or-set_same old used c.seal-mask.result 0 (omega (arith, c.requires.whole, w.if-used-lt-FREE.true)))
            ∙ c.seal-mask.ensures.bits;
        before = λ k lt. get_or-set_other old used k c.seal-mask.result 0 (λ e. omega (arith, e, lt));
      })
      | else-used-lt-FREE w ↦ rw w.free-is (record {
        used = omega (arith, c.min.ensures);
        here = λ room. absurd (omega (arith, room, c.min.ensures, w.if-used-lt-FREE.false));
        before = λ k lt. refl;
      })
    ]
