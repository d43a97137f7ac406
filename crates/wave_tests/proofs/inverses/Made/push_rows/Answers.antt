use Rattle.std.proofs.Common.{◌+◌, ◌∙◌, ap}
use Rattle.wave_tests.proofs.inverses.Made.push_rows.Goals as goal

pub loop-row-preserved : goal.loop-row-preserved
loop-row-preserved c =
    let k = c.put_block_row.ensures in
    let before = c.loop-row.invariant in
    record {
      columns = c.take_rows.ensures.columns ∙ c.push_block_row.ensures.width ∙ k.width ∙ before.columns;
      height = c.take_rows.ensures.height ∙ c.push_block_row.ensures.height ∙ k.height ∙ before.height;
      taken = c.take_rows.ensures.taken ∙ c.push_block_row.ensures.taken ∙ ap (λ n. n + 1) (k.taken ∙ before.taken);
      idle = c.in_ok-take_rows.ensures.idle;
    }
