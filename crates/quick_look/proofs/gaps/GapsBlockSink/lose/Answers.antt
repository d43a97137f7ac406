use Rattle.std.proofs.Common.{refl, ap, ◌+◌, None, Some, not, is_some, true}
use Rattle.quick_look.specs.declared.gaps.Gaps.{Gaps}
use Rattle.quick_look.proofs.Keeping.{takes, keeps_lost}
use Rattle.quick_look.proofs.gaps.GapsBlockSink.lose.Goals as goal

pub returns : goal.returns
returns g c g' n at within =
    let old = c.args.self.now in
    let new : Gaps = record old { open_from = Some c.unwrap_or.result; passed = old.passed + 1 } in
    takes (g.X.Port.outside c.args._port.now) old new g' n (None) true at within refl (λ blocks is. ap (λ o. not (is_some o)) is)
    (λ lost. keeps_lost old new n at.passed (ap Some c.unwrap_or.ensures) refl refl lost)
