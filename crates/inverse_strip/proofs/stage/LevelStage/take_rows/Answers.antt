use Rattle.std.proofs.Common.{ℕ, ◌+◌, ◌*◌, ◌<◌, sym, ap, ◌∙◌, arith}
use Rattle.wave_defs.specs.Blocks.{block_side}
use Rattle.inverse_strip.specs.Cells.{row_place}
use Rattle.inverse_strip.proofs.CellLemmas.{row_place-before, row_place-apart, row-agrees}
use Rattle.inverse_strip.proofs.stage.LevelStage.take_rows.Goals as goal

pub loop-y-preserved : goal.loop-y-preserved
loop-y-preserved c =
    let i = c.loop-y.invariant in
    let high = c.args.high in
    let y = c.loop-y.y in
    let s = c.args.self.now in
    let b = c.args.bands.now in
    let hy0 : y < block_side high = omega (arith, c.loop-y-test.true, c.requires.side) in
    let hy1 : y < block_side (high + 1) = omega (arith, c.loop-y-test.true, c.requires.side_hl) in
    let hy2 : y < block_side (high + 2) = omega (arith, c.loop-y-test.true, c.requires.side_lh) in
    let b01 : row_place high y < row_place (high + 1) y = row_place-before high (high + 1) y y (omega arith) (omega arith) hy0 in
    let b02 : row_place high y < row_place (high + 2) y = row_place-before high (high + 2) y y (omega arith) (omega arith) hy0 in
    let width = ap (λ l. l.left.width) i.level ∙ c.requires.wide in
    record {
      level = c.take_row.ensures.level ∙ i.level;
      kept = c.take_row.ensures.kept ∙ i.kept;
      came = omega (arith, c.take_row.ensures.came, i.came);
      columns = c.take_row.ensures.columns ∙ i.columns;
      before = λ k h.
          c.take_row.ensures.others k (λ e. absurd (omega (arith, h, e))) (λ e. absurd (omega (arith, h, e, b01))) (λ e. absurd (omega (arith, h, e, b02)))
          ∙ i.before k h;
      others = λ band z l0 l1 after hz.
          let apart = λ (k : ℕ) (hk : k < 10) (hy : y < block_side k). row_place-apart k band y z hk (omega arith) hy hz (omega arith) in
          c.take_row.ensures.others (row_place band z) (apart high (omega arith) hy0) (apart (high + 1) (omega arith) hy1) (apart (high + 2) (omega arith) hy2)
          ∙ i.others band z l0 l1 (omega arith) hz;
      follows = λ q f hl lh hh.
          c.take_row.ensures.follows q (i.follows q f hl lh hh)
          (row-agrees q.hl (high + 1) s.came b.columns _ y _ b.rows _ (omega arith) hy1 hl (width ∙ ap (λ (n : ℕ). n * b.columns) (sym c.requires.side_hl))
          i.came (i.others (high + 1) y (omega arith) (omega arith) (omega arith) hy1))
          (row-agrees q.lh (high + 2) s.came b.columns _ y _ b.rows _ (omega arith) hy2 lh (width ∙ ap (λ (n : ℕ). n * b.columns) (sym c.requires.side_lh))
          i.came (i.others (high + 2) y (omega arith) (omega arith) (omega arith) hy2))
          (row-agrees q.hh high s.came b.columns _ y _ b.rows _ (omega arith) hy0 hh (width ∙ ap (λ (n : ℕ). n * b.columns) (sym c.requires.side)) i.came
          (i.others high y (omega arith) (omega arith) (omega arith) hy0));
    }
