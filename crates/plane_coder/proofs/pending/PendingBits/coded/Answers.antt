use Rattle.std.proofs.Common.{◌++◌, ◌∙◌, ap, arith}
use Rattle.plane_coder.specs.Appends.{said}
use Rattle.plane_coder.proofs.Appending.{load_pushed}
use Rattle.plane_coder.proofs.pending.PendingBits.coded.Goals as goal

pub push-requires : goal.push-requires
push-requires c = record {
  few = c.code-code.ensures.few;
  room = omega (arith, c.requires.room, c.code-code.ensures.few);
  fits =
      c.code-code.ensures.fits;
}

pub returns : goal.returns
returns c = record {
  said = c.push.ensures.said ∙ ap (λ l. said c.args.self.now ++ l) c.code-code.ensures.bits;
  gaggle = c.push.ensures.gaggle;
  load =
      let more = load_pushed c.args.self.now c.push.new.self c.code-code.result.len c.push.ensures.count c.push.ensures.gaggle in
      omega (arith, more, c.code-code.ensures.few);
}
