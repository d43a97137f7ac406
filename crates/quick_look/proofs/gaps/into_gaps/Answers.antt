use Rattle.quick_look.proofs.Keeping.{gaps_of_all}
use Rattle.quick_look.proofs.gaps.into_gaps.Goals as goal

pub returns : goal.returns
returns c = gaps_of_all c.args.sink c.end_gap.new.gaps c.end_gap.ensures.ended (c.if-sink.false)
