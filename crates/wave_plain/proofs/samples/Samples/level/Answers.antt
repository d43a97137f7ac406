use Rattle.std.proofs.Common.{◌*◌, ◌/◌, ◌^◌, arith}
use Rattle.wave_defs.specs.Within.{EachWithin}
use Rattle.wave_defs.proofs.LevelWithin.{rows_low-within, rows_high-within}
use Rattle.wave_plain.specs.ShownSamples.{samples_of}
use Rattle.wave_plain.proofs.LevelLemmas.{shown_within, shown_widened, shown_columns}
use Rattle.wave_plain.proofs.samples.Samples.level.Goals as goal
use Rattle.wave_defs.proofs.Equations.{level-is}

pub halve_columns-requires-clause-bounded : goal.halve_columns-requires-clause-bounded
halve_columns-requires-clause-bounded c =
    let s = c.args.self.now in
    let bounded : EachWithin (2 * (2 * 10 ^ 6)) s.rows (2 * (s.width / 2)) (samples_of s) = rw (← c.requires.even) c.requires.bounded in
    shown_within (5 * (2 * 10 ^ 6)) _ _ _ _ _ (omega arith) c.in_ok-low.ensures.low (rows_low-within (2 * 10 ^ 6) (s.width / 2) s.rows (samples_of s)
    (omega arith) (omega arith) bounded)

pub halve_columns-requires-2-clause-bounded : goal.halve_columns-requires-2-clause-bounded
halve_columns-requires-2-clause-bounded c =
    let s = c.args.self.now in
    let bounded : EachWithin (2 * (2 * 10 ^ 6)) s.rows (2 * (s.width / 2)) (samples_of s) = rw (← c.requires.even) c.requires.bounded in
    shown_within (5 * (2 * 10 ^ 6)) _ _ _ _ _ (omega arith) c.in_ok-low.ensures.high (rows_high-within (2 * 10 ^ 6) (s.width / 2) s.rows (samples_of s)
    (omega arith) (omega arith) bounded)

pub returns : goal.returns
returns c =
    rw level-is (
    let low = shown_columns _ _ _ _ _ _ c.requires.even_rows (omega arith) c.in_ok-low.ensures.low c.in_ok-ll.ensures in
    let high = shown_columns _ _ _ _ _ _ c.requires.even_rows (omega arith) c.in_ok-low.ensures.high c.in_ok-hl.ensures in
    record {
      ll = low.low;
      hl = shown_widened _ _ _ _ _ high.low c.in_ok-widened.ensures;
      lh = shown_widened _ _ _ _ _ low.high c.in_ok-widened-2.ensures;
      hh = shown_widened _ _ _ _ _ high.high c.in_ok-widened-3.ensures;
    }
    )
