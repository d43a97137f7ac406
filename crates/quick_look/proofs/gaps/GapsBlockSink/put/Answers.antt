use Rattle.std.proofs.Common.{ap, arith, ◌+◌, Some, not, is_some, false}
use Rattle.quick_look.proofs.Keeping.{takes, keeps_put}
use Rattle.quick_look.proofs.gaps.GapsBlockSink.put.Goals as goal

pub returns : goal.returns
returns g c g' n at within =
    takes (g.X.Port.outside c.args._port.now) c.args.self.now (record c.end_gap.new.gaps { passed = c.end_gap.new.gaps.passed + 1 }) g' n
    (Some c.args._numbers.now) false at within (let passed = c.end_gap.ensures.passed in omega (arith, passed)) (λ blocks is. ap (λ o. not (is_some o)) is)
    (λ lost. keeps_put c.args.self.now c.end_gap.new.gaps n at.passed c.end_gap.ensures.none_open c.end_gap.ensures.ended lost)
