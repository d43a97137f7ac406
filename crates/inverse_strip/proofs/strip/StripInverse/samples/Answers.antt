use Rattle.std.proofs.Common.{arith}
use Rattle.inverse_strip.proofs.SampleLemmas.{strip-samples}
use Rattle.inverse_strip.proofs.strip.StripInverse.samples.Goals as goal

pub returns-clause-all : goal.returns-clause-all
returns-clause-all c = let t = strip-samples c.args.self.now in omega arith
