use Rattle.std.proofs.Common.{rules, arith, ◌^◌}
use Rattle.inverse_strip.proofs.ZeroRows.{AreRows-zeros, RowsWithin-zeros}
use Rattle.inverse_strip.proofs.stage.LevelStage.new.Goals as goal

pub invariant_of-result : goal.invariant_of-result
invariant_of-result c =
    let n = c.args.kept in
    let w = c.args.width in
    let wide = c.in_ok-level.ensures.width in
    record {
      some = search rules;
      hl_valid = rw wide (AreRows-zeros n w _ c.in_ok-hl.ensures);
      lh_valid = rw wide (AreRows-zeros n w _ c.in_ok-lh.ensures);
      hh_valid = rw wide (AreRows-zeros n w _ c.in_ok-hh.ensures);
      hl_small = rw wide (RowsWithin-zeros (2 ^ 27) n w _ c.in_ok-hl.ensures);
      lh_small = rw wide (RowsWithin-zeros (2 ^ 27) n w _ c.in_ok-lh.ensures);
      hh_small = rw wide (RowsWithin-zeros (2 ^ 27) n w _ c.in_ok-hh.ensures);
      waits = omega arith;
    }
