use Rattle.std.proofs.Common.{refl}
use Rattle.quick_look.proofs.Keeping.{begins}
use Rattle.quick_look.proofs.gaps.GapsBlockSink.begin.Goals as goal

pub returns : goal.returns
returns c = begins _ c.args._geometry.now c.requires.range c.requires.height c.new.ensures.items refl refl
