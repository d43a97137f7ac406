use Rattle.std.proofs.Common.{ℕ, ℤ, sym, subst}
use Rattle.wave_defs.specs.Held.{Agrees}
use Rattle.inverse_strip.specs.Zeros.{zeros}
use Rattle.inverse_strip.proofs.level.InverseLevel.pass.Goals as goal

pub returns-clause-follows : goal.returns-clause-follows
returns-clause-follows c = λ q follow ll hl lh hh.
    let s = c.args.self.now in
    let there = λ (f : ℕ → ℕ → ℤ) (a : Agrees s.left.width zeros (f s.left.taken)).
    subst (λ (v : ℕ). Agrees v zeros (f s.right.taken)) (sym s.same_width)
    (subst (λ (n : ℕ). Agrees s.left.width zeros (f n)) (sym s.same_taken) a) in
    record {
      left = c.pass.ensures.follows q.ll q.lh follow.left ll lh;
      right = c.pass-2.ensures.follows q.hl q.hh follow.right (there q.hl hl) (there q.hh hh);
    }
