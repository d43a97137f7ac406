use Rattle.std.proofs.Common.{◌≡◌, ℕ, ◌+◌, ◌*◌, ◌-◌}
use Rattle.wave_defs.specs.Pyramid.{Pyramid}
use Rattle.inverse_strip.specs.Kept.{IsCompletion}
use Rattle.inverse_strip.specs.Strip.{FollowStrip}
use Rattle.inverse_strip.proofs.strip.StripInverse.make_row.Given as goal

abbrev pub invariant-loop-self : goal.invariant-loop-self
invariant-loop-self l = record {
  height : l.self.height ≡ l.initial.self.height;
  width : l.self.third.left.width ≡ l.initial.self.third.left.width;
  taken : l.self.third.left.taken ≡ l.initial.self.third.left.taken;
  given : l.self.first.level.given ≡ l.initial.self.first.level.given;
  next : l.self.next ≡ l.initial.self.next;
  follows : (p : Pyramid) (r : ℕ) → IsCompletion l.initial.self.third.left.taken l.initial.self.height r → FollowStrip p r l.initial.self →
      FollowStrip p r l.self;
}

-- the number of rows that the third and the second level can still give
abbrev pub decreases-loop-self : goal.decreases-loop-self
decreases-loop-self l = 6 * l.self.third.left.taken - (l.self.third.given + l.self.second.level.given)
