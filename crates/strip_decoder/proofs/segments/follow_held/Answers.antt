use Rattle.std.proofs.Common.{◌≡◌, sym, subst, ◌∙◌, Some}
use Rattle.strip_decoder.specs.WalkSteps.{walking}
use Rattle.strip_decoder.specs.Segments.{MayFollow}
use Rattle.strip_decoder.proofs.segments.follow_held.Goals as goal

pub follow_head-requires-clause-follows : goal.follow_head-requires-clause-follows
follow_head-requires-clause-follows g c =
    let held = c.requires.held in
    let next = held.next c.in-Some.next (sym c.held.ensures ∙ c.in-Some.is) in
    subst (λ image. MayFollow image (walking c.args.walk.now) c.in-Some.next)
    (let same : Some held.image ≡ Some c.in-Some-geometry.geometry = sym held.has.geometry ∙ sym c.geometry.ensures.current ∙ c.in-Some-geometry.is in cc) next
