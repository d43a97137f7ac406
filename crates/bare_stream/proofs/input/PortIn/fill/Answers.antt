use Rattle.std.proofs.Common.{refl, arith}
use Rattle.bare_stream.proofs.InputSteps.{failed_piece, some_piece}
use Rattle.bare_stream.proofs.input.PortIn.fill.Goals as goal

pub returns-in_default : goal.returns-in_default
returns-in_default g c = record {
  fills = failed_piece g.X.Port.outside c.args.self.now _ refl c.in_default.ensures.reads
      (omega (arith, c.if-self-eq0.false)) refl refl refl refl;
}

pub returns : goal.returns
returns g c = record {
  fills = some_piece g.X.Port.outside c.args.self.now _ c.in-Ok.count _ refl c.in-Ok.ensures.reads
      (omega (arith, c.min-most.ensures, c.in-Ok.ensures.reads.within)) (omega (arith, c.if-self-eq0.false)) refl refl refl c.if-self.false refl;
}
