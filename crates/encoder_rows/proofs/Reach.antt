-- The segments that some rows reach, and how many a call gives at most.
use Rattle.std.proofs.Common.{◌≡◌, ◌≤◌, ◌<◌, ◌+◌, ◌-◌, ◌*◌, ◌/◌, ◌∙◌, ℕ, sym, ap, arith, mul-le-mul, mul-le-mul_left, mul-le-mul_right}
use Rattle.std.proofs.Math.Nat.{div-le_self}
use Rattle.std.specs.Int.{div_ceil}
use Rattle.std.proofs.lemmas.Nat.{div-mul-add, le-div}
use Rattle.base_122.specs.Ranges.{IsInRange, IsWithin, rows_range}
use Rattle.base_122.specs.Setting.{sized}
use Rattle.base_122.specs.Sizes.{block_count, first_block, segment_blocks, total_blocks}
use Rattle.base_122.specs.declared.setting.Setting.{Setting}
use Rattle.base_122.proofs.SizeBounds.{three-le-block_count}
use Rattle.stream_defs.specs.Output.{segments_of}
use Rattle.stream_defs.proofs.SettledLaws.{rows_rise}
use Rattle.strip_coder.specs.Plans.{plan_of, tallest}
use Rattle.strip_coder.specs.Works.{HasTaken}
use Rattle.strip_coder.specs.declared.work.Work.{Work}
use Rattle.strip_coder.proofs.PlanLaws.{tall_height, tall_plan}
use Rattle.strip_coder.proofs.SettledCounts.{below, place}
use Rattle.wave_strip.specs.Counts.{settled}
use Rattle.encoder_rows.proofs.Parts.{parts_more, ceil_more}
use Rattle.encoder_rows.specs.Room.{reached, row_room, end_room, segment_room}

module _ (s : Setting) (range : IsInRange s) where
  some_blocks : 0 < s.segment
  some_blocks = let segment = range.segment in omega (arith, segment)

  some_columns : 0 < block_count s.width
  some_columns = let three = three-le-block_count s.width range.width.0 in omega (arith, three)

  -- the segments before the present one are those that the rows reach
  pub reached_is : (k : ℕ) (w : Work) → k ≤ tallest s → HasTaken (plan_of s (tallest s)) k w → w.at.index ≡ reached s k
  reached_is k w le taken =
      let plan = tall_plan s range in
      let at = place (plan_of s (tallest s)) plan k w taken.running taken.strip_rows le in
      let present = taken.running.gathered.present (below (plan_of s (tallest s)) plan k w taken.running taken.strip_rows le) in
      let few : w.at.filled < s.segment = omega (arith, present) in
      sym (ap (λ n. n / s.segment) (sym at) ∙ div-mul-add w.at.index s.segment w.at.filled few)

  pub below_all : (k : ℕ) (w : Work) → k ≤ tallest s → HasTaken (plan_of s (tallest s)) k w → w.at.index < segments_of (sized s (tallest s))
  below_all k w le taken = below (plan_of s (tallest s)) (tall_plan s range) k w taken.running taken.strip_rows le

  -- a segment all of whose blocks are in the block rows that k rows complete is reached
  pub reaches : (k index : ℕ) → k ≤ tallest s → first_block s.segment index + segment_blocks (total_blocks s.width (tallest s)) s.segment index ≤
      block_count s.width * settled k → index + 1 ≤ reached s k
  reaches k index le there =
      let least = (tall_height s range).0.0 in
      let c = block_count s.width in
      let fewer : c * (settled k + 1) ≤ c * block_count (tallest s) = mul-le-mul_left c (omega (arith, le, least)) in
      let parts : c * (settled k + 1) ≡ c * settled k + c = grind arith in
      let next : (index + 1) * s.segment ≡ index * s.segment + s.segment = grind arith in
      le-div (index + 1) (c * settled k) s.segment some_blocks (omega (arith, there, fewer, parts, next, some_columns))

  -- ---- how many a call gives

  pub row_few : (k : ℕ) → reached s (k + 1) - reached s k ≤ div_ceil (block_count s.width) s.segment
  row_few k =
      let c = block_count s.width in
      let one : settled (k + 1) ≤ settled k + 1 = omega arith in
      let rise : c * settled (k + 1) ≤ c * (settled k + 1) = mul-le-mul_left c one in
      let parts : c * (settled k + 1) ≡ c * settled k + c = grind arith in
      parts_more (c * settled (k + 1)) (c * settled k) c s.segment some_blocks (omega (arith, rise, parts))

  pub end_few : (k : ℕ) → IsWithin rows_range k → segments_of (sized s k) - reached s k ≤ div_ceil (4 * block_count s.width) s.segment + 1
  end_few k within =
      let c = block_count s.width in
      let four : block_count k ≤ settled k + 4 = omega (arith, within) in
      let rise : c * block_count k ≤ c * (settled k + 4) = mul-le-mul_left c four in
      let parts : c * (settled k + 4) ≡ c * settled k + 4 * c = grind arith in
      let some = ceil_more (c * block_count k) (c * settled k) (4 * c) s.segment some_blocks (omega (arith, rise, parts)) in
      omega (arith, some)

  pub row_fits : (k : ℕ) → (reached s (k + 1) - reached s k) * segment_room s ≤ row_room s
  row_fits k = mul-le-mul_right (segment_room s) (row_few k)

  pub end_fits : (k : ℕ) → IsWithin rows_range k → (segments_of (sized s k) - reached s k) * segment_room s ≤ end_room s
  end_fits k within = mul-le-mul_right (segment_room s) (end_few k within)

  pub row_room-most : row_room s ≤ end_room s
  row_room-most =
      let c = block_count s.width in
      mul-le-mul_right (segment_room s) (let rise : c / s.segment ≤ 4 * c / s.segment =
      rows_rise c (4 * c) s.segment some_blocks (omega arith) in omega (arith, rise))

  -- ---- numbers that fit

  pub end_room-few : (room : ℕ) → room < 8589934592 → (div_ceil (4 * block_count s.width) s.segment + 1) * room < 18014398509481984
  end_room-few room few =
      let c = block_count s.width in
      let width = range.width in
      let columns : c ≤ 131072 = omega (arith, width) in
      let parts : div_ceil (4 * c) s.segment + 1 ≤ 524290 = omega (arith, columns, div-le_self (4 * c) s.segment) in
      let most : (div_ceil (4 * c) s.segment + 1) * room ≤ 524290 * 8589934592 = mul-le-mul {m₁ = room} {m₂ = 8589934592} parts (omega (arith, few)) in
      omega (arith, most)
