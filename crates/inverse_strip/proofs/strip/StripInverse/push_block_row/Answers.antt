use Rattle.std.proofs.Common.{ℕ, ◌*◌, ◌<◌, ℤ, List, refl, sym, subst, arith}
use Rattle.wave_defs.specs.Pyramid.{first_of, second_of, third_of}
use Rattle.wave_defs.specs.Held.{Agrees, signal}
use Rattle.wave_defs.specs.Blocks.{block_side}
use Rattle.wave_defs.proofs.Equations.{third_of-is, second_of-is, first_of-is}
use Rattle.inverse_strip.specs.Stage.{FollowStage}
use Rattle.inverse_strip.specs.Cells.{HasBlockRow}
use Rattle.inverse_strip.proofs.StripLemmas.{row-arrives, block_row-at, block_row-moved}
use Rattle.inverse_strip.proofs.strip.StripInverse.push_block_row.Goals as goal

pub returns-clause-follows : goal.returns-clause-follows
returns-clause-follows c = λ p r follow next.
    let s = c.args.self.now in
    let t = s.third.left.taken in
    let w = s.third.left.width in
    let columns = s.next.columns in
    let cells = s.next.rows in
    let wide = s.next_wide in
    let has9 : HasBlockRow (third_of p).ll 9 (block_side 9 * t) columns cells = rw third_of-is (next.band 9 (omega arith)) in
    let has7 : HasBlockRow (third_of p).hl 7 (block_side 7 * t) columns cells = rw third_of-is (next.band 7 (omega arith)) in
    let has8 : HasBlockRow (third_of p).lh 8 (block_side 8 * t) columns cells = rw third_of-is (next.band 8 (omega arith)) in
    let has6 : HasBlockRow (third_of p).hh 6 (block_side 6 * t) columns cells = rw third_of-is (next.band 6 (omega arith)) in
    let has4 : HasBlockRow (second_of p r w).hl 4 (block_side 4 * t) columns cells = rw second_of-is (next.band 4 (omega arith)) in
    let has5 : HasBlockRow (second_of p r w).lh 5 (block_side 5 * t) columns cells = rw second_of-is (next.band 5 (omega arith)) in
    let has3 : HasBlockRow (second_of p r w).hh 3 (block_side 3 * t) columns cells = rw second_of-is (next.band 3 (omega arith)) in
    let has1 : HasBlockRow (first_of p r w).hl 1 (block_side 1 * t) columns cells = rw first_of-is (next.band 1 (omega arith)) in
    let has2 : HasBlockRow (first_of p r w).lh 2 (block_side 2 * t) columns cells = rw first_of-is (next.band 2 (omega arith)) in
    let has0 : HasBlockRow (first_of p r w).hh 0 (block_side 0 * t) columns cells = rw first_of-is (next.band 0 (omega arith)) in
    let here = λ (f : ℕ → ℕ → ℤ) (x : List ℤ) (a : Agrees columns (signal x) (f t)). subst (λ (v : ℕ). Agrees v (signal x) (f t)) wide a in
    let ll = here (third_of p).ll _ (row-arrives (third_of p).ll 9 t columns cells c.row.result.now refl has9 c.row.ensures.value) in
    let hl = here (third_of p).hl _ (row-arrives (third_of p).hl 7 t columns cells c.row-2.result.now refl has7 c.row-2.ensures.value) in
    let lh = here (third_of p).lh _ (row-arrives (third_of p).lh 8 t columns cells c.row-3.result.now refl has8 c.row-3.ensures.value) in
    let hh = here (third_of p).hh _ (row-arrives (third_of p).hh 6 t columns cells c.row-4.result.now refl has6 c.row-4.ensures.value) in
    let mid = c.take_rows.new.bands in
    let there = λ (f : ℕ → ℕ → ℤ) (b : ℕ) (hb : b < 3) (has : HasBlockRow f b (4 * t) columns cells).
    block_row-moved f b s.first.came columns mid.columns cells mid.rows hb c.take_rows.ensures.columns c.take_rows.ensures.others
    (block_row-at f b (4 * t) s.first.came columns cells s.first_came has) in
    let second = c.take_rows.ensures.follows (second_of p r w) follow.second
    (block_row-at (second_of p r w).hl 4 (2 * t) s.second.came columns cells s.second_came has4)
    (block_row-at (second_of p r w).lh 5 (2 * t) s.second.came columns cells s.second_came has5)
    (block_row-at (second_of p r w).hh 3 (2 * t) s.second.came columns cells s.second_came has3) in
    let first = c.take_rows-2.ensures.follows (first_of p r w) follow.first
    (there (first_of p r w).hl 1 (omega arith) has1)
    (there (first_of p r w).lh 2 (omega arith) has2)
    (there (first_of p r w).hh 0 (omega arith) has0) in
    let width = sym c.push_bands.ensures.width in
    record {
      third = c.push_bands.ensures.follows (third_of p) follow.third ll hl lh hh;
      second = subst (λ (v : ℕ). FollowStage (second_of p r v) c.take_rows.new.self) width second;
      first = subst (λ (v : ℕ). FollowStage (first_of p r v) c.take_rows-2.new.self) width first;
    }
