use Rattle.std.proofs.Common.{sym, arith}
use Rattle.std.proofs.lemmas.Grind.{common_steps}
use Rattle.strip_coder.specs.Plans.{whole, packed}
use Rattle.stream_defs.proofs.ShareLaws.{share_none, share_some}
use Rattle.strip_coder.proofs.segments.share.Goals as goal

pub returns-then-setting-eq0 : goal.returns-then-setting-eq0
returns-then-setting-eq0 c = sym (share_none (whole (packed c.args.plan.now)) c.args.at.now.index c.args.at.now.used c.if-setting-eq0.true)

pub overflow_sub-left : goal.overflow_sub-left
overflow_sub-left c = let left = c.requires.left.left c.if-setting-eq0.false in omega (arith, left)

pub returns : goal.returns
returns c = grind (arith, common_steps, share_some)
