use Rattle.std.proofs.Common.{◌+◌, ◌*◌, ◌^◌, ◌<◌, ◌≤◌, ◌%◌, bit_or, ap, sym, ◌∙◌, subst, arith}
use Rattle.std.proofs.lemmas.Grind.{common_steps}
use Rattle.plane_coder.proofs.Pushing.{joined, joined_below, joined_bits}
use Rattle.plane_coder.proofs.pending.PendingBits.push.Goals as goal

pub invariant_of-self : goal.invariant_of-self
invariant_of-self c =
    let s = c.args.self.now in
    let room : s.count + c.args.count ≤ 64 = omega (arith, c.requires.room) in
    let whole = ap (bit_or (s.value * 2 ^ c.args.count % 18446744073709551616)) c.from.ensures ∙ joined s.value c.args.value s.count c.args.count s.fits
    c.requires.fits room in
    record {
      fits = subst (λ n. n < 2 ^ (s.count + c.args.count)) (sym whole) (joined_below s.value c.args.value s.count c.args.count s.fits c.requires.fits);
      most = omega (arith, c.requires.room);
      known = s.known;
      closed_known = s.closed_known;
    }

pub returns-clause-said : goal.returns-clause-said
returns-clause-said c = grind (arith, common_steps, bit_or, joined, joined_bits)
