-- The heads of an image's segments agree with the first one.
use Rattle.std.proofs.Common.{◌≡◌, ◌≤◌, ◌<◌, ◌+◌, ◌-◌, ◌*◌, ◌%◌, ◌==◌, max, ℕ, ℤ, Bool, true, false, List, length, refl, sym, ap, ◌∙◌, arith, nat_le}
use Rattle.std.proofs.Common.{nat_lt, ◌&&◌, ◌||◌, if◌then◌else◌, mul-le-mul_left}
use Rattle.std.specs.Int.{div_ceil}
use Rattle.std.proofs.lemmas.Grind.{div_ceil_times}
use Rattle.std.proofs.lemmas.Bool.Decides.{nat_tests}
use Rattle.std.proofs.lemmas.Nat.{div-mul-add, mod-mul-add}
use Rattle.std.proofs.lemmas.Bool.{le-leb, lt-ltb, eq-eqb, and_from}
use Rattle.base_122.specs.Ranges.{IsInRange, IsWithin, is_within, rows_range}
use Rattle.base_122.specs.Sizes.{block_count, total_blocks, segment_blocks}
use Rattle.base_122.specs.declared.setting.Setting.{Setting}
use Rattle.base_122.proofs.SizeBounds.{three-le-block_count, nine-le-total_blocks, one-le-segment_blocks}
use Rattle.segment_defs.specs.declared.head.SegmentHead.{SegmentHead}
use Rattle.stream_defs.specs.Begun.{rows_reached}
use Rattle.stream_defs.specs.Output.{head_for, image_blocks, image_part, segment_of, segments_of}
use Rattle.bare_text.specs.Agreement.{blocks_before, blocks_agree, last_agrees, height_at}
use Rattle.bare_stream.specs.Heads.{AgreesWith}
use Rattle.bare_stream.specs.Pictures.{geometry_at, open_geometry, pixels_at}
use Rattle.bare_stream.specs.Images.{bare_geometry}
use Rattle.bare_text.proofs.Agreements.{all_agree}
use Rattle.bare_stream.proofs.Agrees.{pixels_last, same_flag, same_number, same_image}
use Rattle.bare_stream.proofs.SegmentCounts.{whole_before, room_before, few_last, all_blocks, least_first, least_is}

module _ (s : Setting) (x : ℕ → ℕ → ℤ) (range : IsInRange s) (height : IsWithin rows_range s.rows)
    (sized : (index : ℕ) → length (segment_of s (image_blocks s x) index) ≡ segment_blocks (total_blocks s.width s.rows) s.segment index) where
  abbrev all : List (List ℤ)
  all = image_blocks s x

  abbrev total : ℕ
  total = total_blocks s.width s.rows

  abbrev n : ℕ
  n = segments_of s

  abbrev c : ℕ
  c = block_count s.width

  abbrev r : ℕ
  r = block_count s.rows

  abbrev head : ℕ → SegmentHead
  head index = head_for s all index

  -- blocks of a segment
  abbrev size : ℕ → ℕ
  size index = length (segment_of s all index)

  any : 9 ≤ total
  any = nine-le-total_blocks s.width s.rows range.width.0 height.0

  whole : (index : ℕ) → index + 1 < n → size index ≡ size 0
  whole index more = sized index ∙ whole_before total s.segment range.segment.0 any index more ∙ sym (sized 0)

  room : (index : ℕ) → index + 1 < n → index * size 0 + size 0 < total
  room index more = grind (arith, nat_tests, room_before, any)

  few : (index : ℕ) → size index ≤ size 0
  few index = grind (arith, nat_tests, few_last, any)

  ended : (index : ℕ) → index + 1 ≡ n → index * size 0 + size index ≡ total
  ended index last = grind (arith, nat_tests, all_blocks, any)

  some : (index : ℕ) → index < n → 1 ≤ size index
  some index lt = grind (arith, nat_tests, one-le-segment_blocks)

  -- ---- the number of blocks

  blocks_are : (index : ℕ) → index < n → blocks_agree (head 0) (head index) ≡ true
  blocks_are index lt = and_from _ _ (by (index + 1 == n) refl) (ap (λ k. nat_le 16 k || (0 + 1 == n)) (sized 0) ∙ least_first total s.segment
      range.segment.0 any)
    where
      by : (b : Bool) → (index + 1 == n) ≡ b → (if b then nat_le 1 (size index) && nat_le (size index) (size 0) else size index == size 0) ≡ true
      by b e = grind (arith, nat_tests, and_from, le-leb, some, few, eq-eqb, whole)

  -- ---- the last one, and the height

  rows_total : total ≡ r * c + 0
  rows_total = grind arith

  some_columns : 0 < c
  some_columns = let three = three-le-block_count s.width range.width.0 in omega (arith, three)

  pub height_is : (index : ℕ) → index + 1 ≡ n → height_at (head 0) index (head index) ≡ s.rows
  height_is index last = grind (arith, nat_tests, eq-eqb, ended, rows_total, div-mul-add, some_columns)

  last_are : (index : ℕ) → index < n → last_agrees (head 0) index (head index) ≡ true
  last_are index lt = by (index + 1 == n) refl
    where
      by : (b : Bool) → (index + 1 == n) ≡ b →
          (if b then ((blocks_before (head 0) index + size index) % c == 0) && is_within rows_range (height_at (head 0) index (head index)) else nat_lt
          (blocks_before (head 0) index + size 0) (32768 * c)) ≡ true
      by true e =
          let last : index + 1 ≡ n = grind (arith, nat_tests) in
          let rest : (index * size 0 + size index) % c ≡ 0 = ap (λ k. k % c) (ended index last ∙ rows_total) ∙ mod-mul-add r c 0 some_columns in
          and_from _ _ (eq-eqb ((index * size 0 + size index) % c) 0 rest)
          (ap (is_within rows_range) (height_is index last) ∙ and_from _ _ (le-leb 17 s.rows height.0) (le-leb s.rows 262144 height.1))
      by false e =
          let more : index + 1 < n = grind (arith, nat_tests) in
          let before = room index more in
          let rows : r ≤ 32768 = (let high = height.1 in omega (arith, high)) in
          let most : c * r ≤ c * 32768 = mul-le-mul_left c rows in
          lt-ltb (index * size 0 + size 0) (32768 * c) (omega (arith, before, most))

  pub heads_agree : (index : ℕ) → index < n → AgreesWith (head 0) index (head index)
  heads_agree index lt = all_agree (head 0) index (head index) record {
    flag = same_flag (index == 0);
    blocks = blocks_are index lt;
    last = last_are index lt;
    count = same_number (index % 256);
    image = same_image (image_part s);
  }

  -- ---- the pixels

  reached : (k : ℕ) → k < total → max 17 (8 * div_ceil k c - 7) ≤ s.rows
  reached k lt =
      let some = some_columns in
      let high : div_ceil k c ≤ r = (let most : k ≤ r * c = omega (arith, lt, rows_total) in grind (arith, nat_tests, div_ceil_times)) in
      let low = height.0 in
      omega (arith, high, low)

  -- no head reports more than the image has
  pub few_pixels : (index : ℕ) → index < n → pixels_at (head 0) index (head index) ≤ s.width * s.rows
  few_pixels index lt = by (index + 1 == n) refl
    where
      by : (b : Bool) → (index + 1 == n) ≡ b → pixels_at (head 0) index (head index) ≤ s.width * s.rows
      by true e =
          let last : index + 1 ≡ n = grind (arith, nat_tests) in
          let all = pixels_last (head 0) index (head index) (heads_agree index lt) e ∙ ap (λ h. s.width * h) (height_is index last) in
          omega (arith, all)
      by false e =
          let more : index + 1 < n = grind (arith, nat_tests) in
          let before = room index more in
          let whole_one = whole index more in
          let k = index * size 0 + size index in
          let there : pixels_at (head 0) index (head index) ≡ s.width * max 17 (8 * div_ceil k c - 7) =
          ap (λ t. s.width * rows_reached (if t then geometry_at (head 0) index (head index) else open_geometry (head 0)) k) e in
          let most : s.width * max 17 (8 * div_ceil k c - 7) ≤ s.width * s.rows = mul-le-mul_left s.width (reached k (omega (arith, before, whole_one))) in
          omega (arith, there, most)

  -- ---- the geometry

  pub geometry_is : (index : ℕ) → index + 1 ≡ n → bare_geometry s ≡ geometry_at (head 0) index (head index)
  geometry_is index last = grind (arith, nat_tests, height_is, least_is, any)
