use Rattle.std.proofs.Common.{◌≡◌, ℕ, ◌*◌, ◌^◌, ◌<◌, ◌≤◌, subst, sym, refl, arith, ◌∙◌}
use Rattle.std.proofs.lemmas.Bool.Decides.{nat_tests}
use Rattle.wave_defs.specs.Held.{Agrees, signal}
use Rattle.wave_defs.specs.Rolling.{mirrored, beside, parted}
use Rattle.wave_strip.specs.Levels.{FollowLevels}
use Rattle.wave_strip.proofs.ChainLemmas.{AreSmall-more}
use Rattle.wave_strip.proofs.CountLemmas.{no_block_row, block_row}
use Rattle.wave_strip.proofs.StripLemmas.{Agrees-beside}
use Rattle.wave_strip.proofs.ShownLaws.{shows}
use Rattle.wave_strip.proofs.strip.StripWave.push_row.Goals as goal

pub take-requires-clause-small : goal.take-requires-clause-small
take-requires-clause-small c = AreSmall-more 81920 (2 ^ 23) _ _ _ _ _ (omega arith) c.args.self.now.levels.first_small

pub hand_down-requires-clause-small_first : goal.hand_down-requires-clause-small_first
hand_down-requires-clause-small_first c =
    let s = c.args.self.now in
    let halves = s.levels.halves in
    let quarters = s.levels.quarters in
    let wide : 2 * s.first.half ≡ 8 * s.third.half = omega arith in
    c.take.ensures.small 16384 (omega arith) s.levels.first_small (record { at = λ k h. c.requires.bounded.at k (omega arith) })

pub invariant_of-self : goal.invariant_of-self
invariant_of-self c =
    let s = c.args.self.now in
    let l = s.levels in
    let run = s.counts.running c.requires.running in
    let halves = l.halves in
    let quarters = l.quarters in
    let wide : 2 * s.first.half ≡ 8 * s.third.half = omega arith in
    let still : c.settled_in-now.result ≤ s.answered = grind (arith, nat_tests, c.if-not-self.true) in
    record {
      levels = record {
        halves = omega (arith, l.halves);
        quarters = omega (arith, l.quarters);
        most = omega (arith, l.most);
        first_kept = c.take.ensures.kept ∙ l.first_kept;
        second_kept = c.hand_down.ensures.kept_second ∙ l.second_kept;
        third_kept = c.hand_down.ensures.kept_third ∙ l.third_kept;
        first_small = c.take.ensures.small 16384 (omega arith) l.first_small (record { at = λ k h. c.requires.bounded.at k (omega arith) });
        second_small = c.hand_down.ensures.small_second;
        third_small = c.hand_down.ensures.small_third;
      };
      counts = no_block_row s.rows s.answered _ _ _ _ _ _ _ s.ended _ run c.requires.few c.requires.running c.take.ensures.taken
          c.hand_down.ensures.second_taken c.hand_down.ensures.third_taken c.settled_in-now.ensures c.if-not-self.true still;
    }

pub invariant_of-self-2 : goal.invariant_of-self-2
invariant_of-self-2 c =
    let s = c.args.self.now in
    let l = s.levels in
    let run = s.counts.running c.requires.running in
    let halves = l.halves in
    let quarters = l.quarters in
    let wide : 2 * s.first.half ≡ 8 * s.third.half = omega arith in
    let more : s.answered < c.settled_in-now.result = grind (arith, nat_tests, c.if-not-self.false) in
    record {
      levels = record {
        halves = omega (arith, l.halves);
        quarters = omega (arith, l.quarters);
        most = omega (arith, l.most);
        first_kept = c.take.ensures.kept ∙ l.first_kept;
        second_kept = c.hand_down.ensures.kept_second ∙ l.second_kept;
        third_kept = c.hand_down.ensures.kept_third ∙ l.third_kept;
        first_small = c.take.ensures.small 16384 (omega arith) l.first_small (record { at = λ k h. c.requires.bounded.at k (omega arith) });
        second_small = c.hand_down.ensures.small_second;
        third_small = c.hand_down.ensures.small_third;
      };
      counts = block_row s.rows s.answered _ _ _ _ _ _ _ s.ended _ run c.requires.few c.requires.running c.take.ensures.taken
          c.hand_down.ensures.second_taken c.hand_down.ensures.third_taken c.settled_in-now.ensures c.if-not-self.false more;
    }

pub returns-then-not-self-clause-follows : goal.returns-then-not-self-clause-follows
returns-then-not-self-clause-follows c = λ image r three few f row.
    let s = c.args.self.now in
    let m = s.third.half in
    let long = s.third.long in
    let halves = s.levels.halves in
    let quarters = s.levels.quarters in
    let run = s.counts.running c.requires.running in
    let here = Agrees-beside image (4 * r) (4 * m) s.rows s.first.half (signal c.args.row.now) (omega arith) (omega arith) (omega arith)
    (record { at = λ k h. row.at k (omega arith) }) in
    let there = subst (λ (k : ℕ). Agrees (2 * s.first.half) (parted (signal c.args.row.now) s.first.half) (mirrored (beside image (4 * m)) (4 * r) k))
    (sym run.first) here in
    let first = c.take.ensures.follows (mirrored (beside image (4 * m)) (4 * r)) f.first there in
    let down = c.hand_down.ensures.follows image r m (omega arith) refl (omega arith) (record { first = first; second = f.second; third = f.third }) in
    subst (λ (k : ℕ). FollowLevels image r k c.take.new.self.columns c.hand_down.new.second.columns c.hand_down.new.third.columns)
    (sym c.hand_down.ensures.quarters) down

pub returns-clause-follows : goal.returns-clause-follows
returns-clause-follows c = λ image r three few f row.
    let s = c.args.self.now in
    let m = s.third.half in
    let long = s.third.long in
    let halves = s.levels.halves in
    let quarters = s.levels.quarters in
    let run = s.counts.running c.requires.running in
    let here = Agrees-beside image (4 * r) (4 * m) s.rows s.first.half (signal c.args.row.now) (omega arith) (omega arith) (omega arith)
    (record { at = λ k h. row.at k (omega arith) }) in
    let there = subst (λ (k : ℕ). Agrees (2 * s.first.half) (parted (signal c.args.row.now) s.first.half) (mirrored (beside image (4 * m)) (4 * r) k))
    (sym run.first) here in
    let first = c.take.ensures.follows (mirrored (beside image (4 * m)) (4 * r)) f.first there in
    let down = c.hand_down.ensures.follows image r m (omega arith) refl (omega arith) (record { first = first; second = f.second; third = f.third }) in
    subst (λ (k : ℕ). FollowLevels image r k c.take.new.self.columns c.hand_down.new.second.columns c.hand_down.new.third.columns)
    (sym c.hand_down.ensures.quarters) down

pub returns-clause-shows : goal.returns-clause-shows
returns-clause-shows c = λ image r valid three most f. shows image r _ valid three most f
