use Rattle.std.proofs.Common.{◌≡◌, ◌+◌, ◌*◌, ◌≤◌, length, arith, refl}
use Rattle.std.proofs.lemmas.Nat.{rows}
use Rattle.wave_defs.specs.Level.{rows_low, rows_high}
use Rattle.wave_defs.proofs.LineLaws.{Agrees-low, Agrees-high}
use Rattle.wave_defs.proofs.GridLaws.{Agrees-row, SameWithin-write_row}
use Rattle.wave_plain.proofs.rows.split_rows.Goals as goal

pub loop-i-preserved : goal.loop-i-preserved
unfolding rows_low rows_high
loop-i-preserved c =
    let n = c.args.n in
    let i = c.loop-i.i in
    let row = Agrees-row (2 * n) i _ c.args.cells.now refl in
    let room : i * n + n ≤ c.args.rows * n = grind (arith, rows) in
    let low_long : length c.forward_row.new.low ≡ n = omega arith in
    let high_long : length c.forward_row.new.high ≡ n = omega arith in
    record {
      low = SameWithin-write_row n i _ _ _ _ (omega arith) (omega arith) low_long c.loop-i.invariant.low
          (Agrees-low _ n _ _ _ low_long (omega arith) c.forward_row.ensures.low row);
      high = SameWithin-write_row n i _ _ _ _ (omega arith) (omega arith) high_long c.loop-i.invariant.high
          (Agrees-high _ n _ _ _ low_long (omega arith) c.forward_row.ensures.high row);
    }
