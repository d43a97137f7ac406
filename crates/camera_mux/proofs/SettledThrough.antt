-- The segments whose blocks are there with some rows are settled by these.
use Rattle.std.proofs.lemmas.Bool.Decides.{nat_tests}
use Rattle.std.proofs.Common.{◌≡◌, ◌+◌, ◌*◌, ◌<◌, ◌≤◌, ℕ, arith, true, div-lt_iff_lt-mul, mul-le-mul_right}
use Rattle.std.proofs.lemmas.Bool.{cases_lt}
use Rattle.base_122.specs.Ranges.{IsInRange}
use Rattle.base_122.specs.Setting.{sized}
use Rattle.base_122.specs.Sizes.{block_count, total_blocks, first_block, segment_blocks}
use Rattle.base_122.specs.declared.setting.Setting.{Setting}
use Rattle.base_122.proofs.SizeBounds.{three-le-block_count, one-le-segment_blocks}
use Rattle.wave_strip.specs.Counts.{settled as block_rows_in}
use Rattle.stream_defs.specs.Output.{segments_of, reports_last}
use Rattle.stream_defs.specs.Settled.{is_settled}
use Rattle.stream_defs.specs.SettledImages.{settled_in}
use Rattle.stream_defs.proofs.SettledLaws.{count_many}
use Rattle.strip_coder.specs.Plans.{tallest}
use Rattle.strip_coder.proofs.SettledCounts.{settled_so}
use Rattle.stream_defs.proofs.Equations.{settled-is}

module _ (s : Setting) (range : IsInRange s) (k index : ℕ) (inside : index < segments_of (sized s (tallest s)))
    (there : first_block s.segment index + segment_blocks (total_blocks s.width (tallest s)) s.segment index ≤ block_count s.width * block_rows_in k) where
  abbrev total : ℕ
  total = total_blocks s.width (tallest s)

  -- the blocks of a segment before it are there too
  before : (j : ℕ) → j ≤ index → first_block s.segment j + segment_blocks total s.segment j ≤ first_block s.segment index + segment_blocks total s.segment index
  before j le = grind (arith, nat_tests, cases_lt, mul-le-mul_right)

  settled_at : (j : ℕ) → j ≤ index → is_settled (reports_last s) (sized s (tallest s)) k j ≡ true
  settled_at j le =
      let segment = range.segment in
      let three = three-le-block_count s.width range.width.0 in
      let some = one-le-segment_blocks total s.segment j (omega (arith, segment)) (omega (arith, inside, le)) in
      let up = before j le in
      let turned : block_count s.width * block_rows_in k ≡ block_rows_in k * block_count s.width = grind arith in
      grind (arith, nat_tests, div-lt_iff_lt-mul, settled_so)

  pub settled_through : index + 1 ≤ settled_in s (tallest s) k
  settled_through = grind (arith, nat_tests, settled-is, count_many, settled_at)
