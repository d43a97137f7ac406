use Rattle.std.proofs.Common.{◌≡◌, ℕ, ◌+◌, ◌*◌, ◌<◌, ℤ, refl, sym, subst, arith}
use Rattle.wave_defs.specs.Pyramid.{first_of, second_of, third_of}
use Rattle.wave_defs.specs.Blocks.{block_side}
use Rattle.wave_defs.proofs.Equations.{third_of-is, second_of-is, first_of-is}
use Rattle.inverse_strip.specs.Stage.{FollowStage}
use Rattle.inverse_strip.specs.Cells.{HasBlockRow}
use Rattle.inverse_strip.proofs.StripLemmas.{row-lost}
use Rattle.inverse_strip.proofs.strip.StripInverse.push_row.Goals as goal

pub returns-then-self-clause-follows : goal.returns-then-self-clause-follows
returns-then-self-clause-follows c = λ p r follow next.
    let s = c.args.self.now in
    let t = s.third.left.taken in
    let w = s.third.left.width in
    let columns = s.next.columns in
    let cells = s.next.rows in
    let wide = s.next_wide in
    let none = c.requires.lost (c.if-lost.true) in
    let has9 : HasBlockRow (third_of p).ll 9 (block_side 9 * t) columns cells = rw third_of-is (next.band 9 (omega arith)) in
    let has7 : HasBlockRow (third_of p).hl 7 (block_side 7 * t) columns cells = rw third_of-is (next.band 7 (omega arith)) in
    let has8 : HasBlockRow (third_of p).lh 8 (block_side 8 * t) columns cells = rw third_of-is (next.band 8 (omega arith)) in
    let has6 : HasBlockRow (third_of p).hh 6 (block_side 6 * t) columns cells = rw third_of-is (next.band 6 (omega arith)) in
    let has4 : HasBlockRow (second_of p r w).hl 4 (block_side 4 * t) columns cells = rw second_of-is (next.band 4 (omega arith)) in
    let has5 : HasBlockRow (second_of p r w).lh 5 (block_side 5 * t) columns cells = rw second_of-is (next.band 5 (omega arith)) in
    let has3 : HasBlockRow (second_of p r w).hh 3 (block_side 3 * t) columns cells = rw second_of-is (next.band 3 (omega arith)) in
    let has1 : HasBlockRow (first_of p r w).hl 1 (block_side 1 * t) columns cells = rw first_of-is (next.band 1 (omega arith)) in
    let has2 : HasBlockRow (first_of p r w).lh 2 (block_side 2 * t) columns cells = rw first_of-is (next.band 2 (omega arith)) in
    let has0 : HasBlockRow (first_of p r w).hh 0 (block_side 0 * t) columns cells = rw first_of-is (next.band 0 (omega arith)) in
    let one = λ (f : ℕ → ℕ → ℤ) (band : ℕ) (side : block_side band ≡ 1) (has : HasBlockRow f band (block_side band * t) columns cells).
    let across : w ≡ block_side band * columns = rw side (omega arith) in
    let down : t ≡ block_side band * t + 0 = rw side (omega arith) in
    row-lost f band (block_side band * t) columns w t 0 cells has none across down (omega arith) in
    let second = λ (f : ℕ → ℕ → ℤ) (band : ℕ) (side : block_side band ≡ 2) (has : HasBlockRow f band (block_side band * t) columns cells) (y : ℕ) (h : y < 2).
    let across : s.second.level.left.width ≡ block_side band * columns = rw side (omega arith) in
    let down : s.second.came + y ≡ block_side band * t + y = rw side (omega arith) in
    row-lost f band (block_side band * t) columns s.second.level.left.width (s.second.came + y) y cells has none across down (omega arith) in
    let first = λ (f : ℕ → ℕ → ℤ) (band : ℕ) (side : block_side band ≡ 4) (has : HasBlockRow f band (block_side band * t) columns cells) (y : ℕ) (h : y < 4).
    let across : s.first.level.left.width ≡ block_side band * columns = rw side (omega arith) in
    let down : s.first.came + y ≡ block_side band * t + y = rw side (omega arith) in
    row-lost f band (block_side band * t) columns s.first.level.left.width (s.first.came + y) y cells has none across down (omega arith) in
    let q3 = third_of p in
    let q2 = second_of p r w in
    let q1 = first_of p r w in
    let width = sym c.pass.ensures.width in
    record {
      third = c.pass.ensures.follows q3 follow.third (one q3.ll 9 refl has9) (one q3.hl 7 refl has7) (one q3.lh 8 refl has8) (one q3.hh 6 refl has6);
      second = subst (λ (v : ℕ). FollowStage (second_of p r v) c.pass_rows.new.self) width
          (c.pass_rows.ensures.follows q2 follow.second (second q2.hl 4 refl has4) (second q2.lh 5 refl has5) (second q2.hh 3 refl has3));
      first = subst (λ (v : ℕ). FollowStage (first_of p r v) c.pass_rows-then-self.new.self) width
          (c.pass_rows-then-self.ensures.follows q1 follow.first (first q1.hl 1 refl has1) (first q1.lh 2 refl has2) (first q1.hh 0 refl has0));
    }
