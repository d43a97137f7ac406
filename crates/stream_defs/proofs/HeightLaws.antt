-- Images of one setting, of the same height or not, whose first rows agree: the packets of the segments that these settle are the same.
use Rattle.std.proofs.Common.{◌≡◌, ◌⊎◌, inl, inr, ◌≤◌, ◌<◌, ◌+◌, ◌-◌, ◌*◌, ◌/◌, ◌%◌, ℕ, zero, suc, ℤ, List, [], ◌++◌, length, take, drop, refl, sym, ap}
use Rattle.std.proofs.Common.{subst, ◌∙◌, arith, get_or, length-take, length-drop, true, false, ◌==◌, nat_lt, ext_get_or, get_or-take, get_or-drop}
use Rattle.std.proofs.lemmas.Bool.{cases_lt}
use Rattle.std.proofs.lemmas.Bool.Decides.{nat_tests}
use Rattle.std.proofs.Math.Nat.{lt-div-mul-add, mul-le-mul_right, mul-le-mul_left}
use Rattle.wave_defs.specs.Held.{SameWithin}
use Rattle.wave_defs.specs.Reach.{SameBlock}
use Rattle.wave_defs.specs.Pyramid.{padded, pyramid}
use Rattle.wave_defs.proofs.BlockPlaces.{block-same}
use Rattle.wave_defs.proofs.ForwardReach.{images-known}
use Rattle.base_122.specs.Ranges.{IsInRange}
use Rattle.base_122.specs.Setting.{IsHeight, sized}
use Rattle.base_122.specs.Sizes.{block_count, total_blocks, segment_blocks}
use Rattle.base_122.specs.declared.setting.Setting.{Setting}
use Rattle.base_122.proofs.GeometryRanges.{in_range-sized}
use Rattle.base_122.proofs.SizeBounds.{first_block-lt, three-le-block_count, total-le-segments}
use Rattle.packet_defs.specs.Packets.{part_count, part_size, text_packets}
use Rattle.stream_defs.specs.Output.{ancillary_of, head_of, image_blocks, packets_before, packets_of, segment_of, segment_packets, segment_text}
use Rattle.stream_defs.specs.Output.{segments_of, share, reports_last, used_before}
use Rattle.stream_defs.specs.Settled.{last_block_row, is_settled, settled}
use Rattle.stream_defs.specs.SettledImages.{leading_packets, settled_in}
use Rattle.stream_defs.proofs.SettledLaws.{settled_same, settled_first, count_many, count_most, rows_rise}
use Rattle.stream_defs.proofs.ImageLaws.{blocks_agree, length-image_blocks, image_block, total_above}
use Rattle.stream_defs.proofs.Outputs.{packets_of-none, packets_of-more, packets_before-none, packets_before-more}

-- ---- images whose height is told last

-- a segment of an image of this height is whole and isn't the last one, and its last block row is near
pub record IsNear (s : Setting) (k rows index : ℕ) : Type 0 where
  pub whole : (index + 1) * s.segment < total_blocks s.width rows
  pub near : 8 * ((index * s.segment + s.segment - 1) / block_count s.width) + 28 < k

module _ (s : Setting) (range : IsInRange s) (open_rows : s.rows ≡ 0) (k : ℕ) where
  some_blocks : 0 < s.segment
  some_blocks = let segment = range.segment in omega (arith, segment)

  three_columns : 3 ≤ block_count s.width
  three_columns = three-le-block_count s.width range.width.0

  no_total : s.total ≡ 0
  no_total = elim range.total [ inl none ↦ none | inr has ↦ absurd (has.rows open_rows) ]

  -- a segment that the first k rows settle is such a segment
  settled_near : (rows index : ℕ) → k ≤ rows → index < segments_of (sized s rows) → 8 * last_block_row (sized s rows) index + 28 < k → IsNear s k rows index
  settled_near rows index most lt near =
      let c = block_count s.width in
      let S = s.segment in
      let total = total_blocks s.width rows in
      let r = last_block_row (sized s rows) index in
      let high : c * (r + 4) ≤ total = mul-le-mul_left c (omega (arith, near, most)) in
      let part : c * (r + 4) ≡ (r + 1) * c + 3 * c = grind arith in
      let up : index * S + segment_blocks total S index - 1 < r * c + c = lt-div-mul-add {a = index * S + segment_blocks total S index - 1} {b =
      c} (omega (arith, three_columns)) in
      let next : (r + 1) * c ≡ r * c + c = grind arith in
      let whole : segment_blocks total S index ≡ S = omega (arith, up, next, high, part, first_block-lt total S index some_blocks lt, three_columns) in
      record {
        whole = omega (arith, whole, up, next, high, part, three_columns);
        near = subst (λ n. 8 * ((index * S + n - 1) / c) + 28 < k) whole near;
      }

  -- and it is one in an image of another height
  near_there : (rows lines index : ℕ) → k ≤ lines → IsNear s k rows index → IsNear s k lines index
  near_there rows lines index most n = grind (arith, nat_tests, mul-le-mul_left, lt-div-mul-add, three_columns, some_blocks)

  near_index : (rows index : ℕ) → IsNear s k rows index → index + 1 < segments_of (sized s rows)
  near_index rows index n =
      let S = s.segment in
      let total = total_blocks s.width rows in
      let all : total ≤ segments_of (sized s rows) * S = total-le-segments total S some_blocks in
      elim (cases_lt (index + 1) (segments_of (sized s rows))) [
        | inl less ↦ less
        | inr far ↦ let few : segments_of (sized s rows) * S ≤ (index + 1) * S =
            mul-le-mul_right S far in absurd (let whole = n.whole in omega (arith, whole, all, few))
      ]

  near_settled : (rows index : ℕ) → IsNear s k rows index → is_settled true (sized s rows) k index ≡ true
  near_settled rows index n = grind (arith, nat_tests)

  module _ (rows lines : ℕ) (height : IsHeight s rows) (other : IsHeight s lines) (le : k ≤ rows) (le' : k ≤ lines) where
    few : settled true (sized s rows) k ≤ segments_of (sized s rows)
    unfolding settled
    few = count_most (is_settled true (sized s rows) k) (segments_of (sized s rows)) 0

    near_at : (index : ℕ) → index < settled true (sized s rows) k → IsNear s k rows index
    near_at index lt =
        let first : is_settled true (sized s rows) k index ≡ true = settled_first true (sized s rows) (in_range-sized s rows range height) k index lt in
        settled_near rows index le (omega (arith, lt, few)) (below (8 * last_block_row (sized s rows) index + 28) first)
      where
        below : (m : ℕ) → nat_lt m k ≡ true → m < k
        below m e = grind (arith, nat_tests)

    pub no_fewer : settled true (sized s rows) k ≤ settled true (sized s lines) k
    unfolding settled
    no_fewer =
        let m = settled true (sized s rows) k in
        let there : (index : ℕ) → index < m → IsNear s k lines index = λ index lt. near_there rows lines index le' (near_at index lt) in
        let room : m ≤ segments_of (sized s lines) = elim (cases_lt (segments_of (sized s lines)) m) [
          | inl more ↦ absurd (let i = near_index lines (segments_of (sized s lines)) (there (segments_of (sized s lines)) more) in omega (arith, i))
          | inr fits ↦ fits
        ] in
        count_many (is_settled true (sized s lines) k) (segments_of (sized s lines)) 0 m room
        (λ j low high. near_settled lines j (there j (omega (arith, high))))

    -- ---- their blocks and texts

    module _ (x y : ℕ → ℕ → ℤ) (same : SameWithin k s.width x y) where
      abbrev A : Setting
      A = sized s rows

      abbrev B : Setting
      B = sized s lines

      pub block_same : (b : ℕ) → 8 * (b / block_count s.width) + 28 < k → get_or (image_blocks A x) b [] ≡ get_or (image_blocks B y) b []
      block_same b near =
          let c = block_count s.width in
          let three = three_columns in
          let width = range.width.0 in
          let column : b % c < c = omega (arith, three) in
          let in_a = total_above A (in_range-sized s rows range height) height.0 b (omega (arith, near, le)) in
          let in_b = total_above B (in_range-sized s lines range other) other.0 b (omega (arith, near, le')) in
          let known : SameBlock (pyramid (padded x rows s.width) (block_count rows) c) (pyramid (padded y lines s.width) (block_count lines) c) (b / c)
          (b % c) =
          images-known x y rows lines s.width k (block_count rows) (block_count lines) c (b / c) (b % c) le le' (omega (arith, width)) (omega arith)
          (omega arith) (omega (arith, three)) column near same in
          image_block A x b [] in_a ∙ block-same _ _ s.weights.shifts (b / c) (b % c) known ∙ sym (image_block B y b [] in_b)

      segment_same : (index : ℕ) → index < settled true A k → segment_of A (image_blocks A x) index ≡ segment_of B (image_blocks B y) index
      segment_same index lt =
          let S = s.segment in
          let first = index * S in
          let xs = image_blocks A x in
          let ys = image_blocks B y in
          let here = near_at index lt in
          let there = near_there rows lines index le' here in
          let whole = here.whole in
          let whole' = there.whole in
          let long = length-image_blocks A x in
          let long' = length-image_blocks B y in
          ext_get_or [] (take S (drop first xs)) (take S (drop first ys))
          (omega (
            arith,
            long,
            long',
            whole,
            whole',
            length-take S (drop first xs),
            length-take S (drop first ys),
            length-drop first xs,
            length-drop first ys,
          ))
          (λ i lt.
          let inside : i < S = omega (arith, lt, length-take S (drop first xs)) in
          let row : (first + i) / block_count s.width ≤ (index * S + S - 1) / block_count s.width =
          rows_rise (first + i) (index * S + S - 1) (block_count s.width) (omega (arith, three_columns)) (omega (arith, inside)) in
          get_or-take S (drop first xs) i [] inside ∙ get_or-drop first xs i []
          ∙ block_same (first + i) (omega (arith, row, here.near))
          ∙ sym (get_or-take S (drop first ys) i [] inside ∙ get_or-drop first ys i []))

      -- the head of a segment that isn't the last one doesn't depend on the height
      not_last : (lines index : ℕ) → IsNear s k lines index → (index + 1 == segments_of (sized s lines)) ≡ false
      not_last lines index n = let lt = near_index lines index n in let m = segments_of (sized s lines) in grind (arith, nat_tests)

      head_same : (index used : ℕ) (segment : List (List ℤ)) → index < settled true A k → head_of A index used segment ≡ head_of B index used segment
      unfolding share
      head_same index used segment lt =
          let total : (s.total == 0) ≡ true = let e = no_total in grind (arith, nat_tests) in
          rw (not_last rows index (near_at index lt), not_last lines index (near_there rows lines index le' (near_at index lt)), total) refl

      used_same : (n : ℕ) → n ≤ settled true A k → used_before A (image_blocks A x) n ≡ used_before B (image_blocks B y) n
      unfolding used_before
      used_same zero most = refl
      used_same (suc n) most = grind (arith, nat_tests, head_same, segment_same, used_same n (omega (arith, most)))

      text_same : (n : ℕ) → n < settled true A k → segment_text A (image_blocks A x) n ≡ segment_text B (image_blocks B y) n
      text_same n lt = grind (arith, nat_tests, used_same, head_same, segment_same)

      pub before_same : (n : ℕ) → n ≤ settled true A k → packets_before A (image_blocks A x) n ≡ packets_before B (image_blocks B y) n
      before_same zero most = packets_before-none A (image_blocks A x) ∙ sym (packets_before-none B (image_blocks B y))
      before_same (suc n) most =
          subst (λ m. packets_before A (image_blocks A x) m ≡ packets_before B (image_blocks B y) m) (omega arith)
          (packets_before-more A (image_blocks A x) n
          ∙ ap (λ m. m + part_count (part_size s.packet) (length (segment_text A (image_blocks A x) n))) (before_same n (omega (arith, most)))
          ∙ ap (λ t. packets_before B (image_blocks B y) n + part_count (part_size s.packet) (length t)) (text_same n (omega (arith, most)))
          ∙ sym (packets_before-more B (image_blocks B y) n))

      pub packets_same : (n : ℕ) → n ≤ settled true A k → packets_of true A (image_blocks A x) n ≡ packets_of true B (image_blocks B y) n
      packets_same zero most = packets_of-none true A (image_blocks A x) ∙ sym (packets_of-none true B (image_blocks B y))
      packets_same (suc n) most =
          let here : segment_packets true A (image_blocks A x) n ≡ segment_packets true B (image_blocks B y) n =
          ap (λ before. text_packets s.apid (ancillary_of true s n) s.packet before (segment_text A (image_blocks A x) n)) (before_same n (omega (arith, most)))
          ∙ ap (text_packets s.apid (ancillary_of true s n) s.packet (packets_before B (image_blocks B y) n)) (text_same n (omega (arith, most))) in
          subst (λ m. packets_of true A (image_blocks A x) m ≡ packets_of true B (image_blocks B y) m) (omega arith)
          (packets_of-more true A (image_blocks A x) n
          ∙ ap (λ zs. zs ++ segment_packets true A (image_blocks A x) n) (packets_same n (omega (arith, most)))
          ∙ ap (λ zs. packets_of true B (image_blocks B y) n ++ zs) here
          ∙ sym (packets_of-more true B (image_blocks B y) n))

-- ---- any two images of a setting

module _ (s : Setting) (rows lines k : ℕ) (range : IsInRange s) (height : IsHeight s rows) (other : IsHeight s lines) (le : k ≤ rows) (le' : k ≤ lines) where
  abbrev SameHeight : Type 0
  SameHeight = rows ≡ lines

  heights : (s.rows ≡ 0) ⊎ SameHeight
  heights = grind (arith, nat_tests)

  reports : s.rows ≡ 0 → reports_last s ≡ true
  reports none = grind (arith, nat_tests)

  pub settled_alike : settled_in s rows k ≡ settled_in s lines k
  settled_alike = grind (arith, nat_tests, heights, no_fewer, reports)

  pub images_settle : (x y : ℕ → ℕ → ℤ) → SameWithin k s.width x y → leading_packets s rows x (settled_in s rows k) ≡ leading_packets s lines y
      (settled_in s lines k)
  images_settle x y same = elim heights [
    | inl none ↦
        let packets = packets_same s range none k rows lines height other le le' x y same (settled true (sized s rows) k) (omega arith) in
        subst (λ n. leading_packets s rows x (settled_in s rows k) ≡ leading_packets s lines y n) settled_alike (rw (reports none) packets)
    | inr one ↦
        subst (λ n. leading_packets s rows x (settled_in s rows k) ≡ leading_packets s n y (settled_in s n k)) one
        (settled_same (reports_last s) (sized s rows) (in_range-sized s rows range height) k (image_blocks (sized s rows) x) (image_blocks (sized s rows) y)
        (length-image_blocks (sized s rows) x)
        (blocks_agree (sized s rows) (in_range-sized s rows range height) height.0 k x y le same))
  ]
