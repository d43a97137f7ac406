use Rattle.std.proofs.Common.{◌+◌, ◌*◌}
use Rattle.std.specs.List.{list_any}
use Rattle.plane_defs.specs.Spans.{span}
use Rattle.plane_coder.proofs.FourTypes.{shows_later}
use Rattle.plane_coder.proofs.fours.four_sets.Goals as goal

pub returns : goal.returns
returns c f p =
    let at = c.args.at in
    c.joined.ensures.if_known (λ j. list_any f (span (at + 4 * j) 4)) 0 2 (c.two_sets.ensures.if_known f p)
    (shows_later c.two_sets-2.result at f (c.two_sets-2.ensures.if_known f p))
