use Rattle.std.proofs.Common.{refl}
use Rattle.bare_stream.proofs.NextHeads.{head_faulted, now_at, is_head, next_faulted, octets}
use Rattle.bare_stream.proofs.walk.next_head.Goals as goal

pub returns-in-Err-clause-run : goal.returns-in-Err-clause-run
returns-in-Err-clause-run g c = λ wish start r at reaches.
    head_faulted g.X.Port.outside wish at.laws start r c.args.input.now c.take_head.new.input c.args.walk.now.parts c.take_head.new.parts
    c.args.walk.now.index at.read at.going reaches at.index c.in-Err.fault c.in-Err.ensures.takes

pub returns-in-Ok-check_head-clause-run : goal.returns-in-Ok-check_head-clause-run
returns-in-Ok-check_head-clause-run g c = λ wish start r at reaches. (
  octets g.X.Port.outside wish start r c.args.input.now c.take_head.new.input c.args.walk.now c.take_head.new.parts at reaches c.in-Ok.read
      c.in-Ok.ensures.takes,
  now_at g.X.Port.outside wish start r c.args.input.now c.take_head.new.input c.args.walk.now c.take_head.new.parts at reaches c.in-Ok.read
      c.in-Ok.ensures.takes _ refl,
  is_head g.X.Port.outside wish start r c.args.input.now c.take_head.new.input c.args.walk.now c.take_head.new.parts at reaches c.in-Ok.read
      c.in-Ok.ensures.takes c.requires.later,
)

pub returns-in-Err-check_head-clause-run : goal.returns-in-Err-check_head-clause-run
returns-in-Err-check_head-clause-run g c = λ wish start r at reaches.
    next_faulted g.X.Port.outside wish start r c.args.input.now c.take_head.new.input c.args.walk.now c.take_head.new.parts at reaches c.in-Ok.read
    c.in-Ok.ensures.takes c.requires.later c.in-Err-check_head.fault c.in-Err-check_head.ensures
