use Rattle.std.proofs.Common.{◌≡◌, ℕ, ◌*◌, ◌^◌, sym, subst, arith}
use Rattle.wave_defs.specs.Pyramid.{first_of, second_of, third_of}
use Rattle.wave_defs.specs.Rings.{AreNewest}
use Rattle.inverse_strip.specs.Kept.{HasRow}
use Rattle.inverse_strip.specs.Stage.{FollowStage}
use Rattle.inverse_strip.proofs.StripLemmas.{second-low, first-low, Counts-second}
use Rattle.inverse_strip.proofs.PairLemmas.{ArePairsWithin-more}
use Rattle.inverse_strip.proofs.strip.StripInverse.step.Goals as goal

pub feed-requires-then-has_row-2-clause-within : goal.feed-requires-then-has_row-2-clause-within
feed-requires-then-has_row-2-clause-within c = let s = c.args.self.now.third.left in ArePairsWithin-more (2 ^ 27) (21 * 2 ^ 25) s.width s.taken s.evens
    s.highs (omega arith) c.args.self.now.third_within

pub invariant_of-self-then-has_row-clause-second_within : goal.invariant_of-self-then-has_row-clause-second_within
invariant_of-self-then-has_row-clause-second_within c = c.feed.ensures.before_within (21 * 2 ^ 25) c.args.self.now.second_within

pub invariant_of-self-then-has_row-clause-counts : goal.invariant_of-self-then-has_row-clause-counts
invariant_of-self-then-has_row-clause-counts c =
    let s = c.args.self.now in
    let row = c.has_row.ensures.0 c.if-has_row.true in
    let third = subst (λ (k : ℕ). HasRow k s.second.level.given (2 * s.height)) s.second_taken row in
    rw (c.feed.ensures.before_given, c.feed.ensures.given) (Counts-second s.third.left.taken s.third.given s.second.level.given s.first.level.given s.height
    s.counts third)

pub returns-then-has_row-clause-follows : goal.returns-then-has_row-clause-follows
returns-then-has_row-clause-follows c = λ p r completion follow.
    let s = c.args.self.now in
    let w = s.third.left.width in
    let more = completion.more in
    let within = s.counts.within in
    let q = second_of p r w in
    let end = λ (e : s.second.level.left.taken ≡ 2 * s.height).
    let all : s.third.left.taken ≡ s.height = omega arith in
    let whole = completion.whole all in
    let t : 2 * r ≡ 2 * s.height = omega arith in t in
    let width = sym c.feed.ensures.before_width in
    record {
      third = follow.third;
      second = record {
        level = c.feed.ensures.before_follows q follow.second.level;
        hl = subst (λ (v : ℕ). AreNewest q.hl v s.second.came s.second.hl) width follow.second.hl;
        lh = subst (λ (v : ℕ). AreNewest q.lh v s.second.came s.second.lh) width follow.second.lh;
        hh = subst (λ (v : ℕ). AreNewest q.hh v s.second.came s.second.hh) width follow.second.hh;
      };
      first = c.feed.ensures.follows q (first_of p r w) (2 * r) follow.second.level (omega arith) end
          (first-low p r w s.second.level.left.width s.second_wide) follow.first;
    }

pub returns-then-has_row-2-clause-follows : goal.returns-then-has_row-2-clause-follows
returns-then-has_row-2-clause-follows c = λ p r completion follow.
    let s = c.args.self.now in
    let w = s.third.left.width in
    let feed = c.feed-then-has_row-2 in
    let width = sym feed.ensures.before_width in
    let second = feed.ensures.follows (third_of p) (second_of p r w) r follow.third completion.more completion.whole (second-low p r w) follow.second in
    record {
      third = feed.ensures.before_follows (third_of p) follow.third;
      second = subst (λ (v : ℕ). FollowStage (second_of p r v) feed.new.self) width second;
      first = subst (λ (v : ℕ). FollowStage (first_of p r v) s.first) width follow.first;
    }
