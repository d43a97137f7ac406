-- The blocks of an image's segments can be spelled.
use Rattle.std.proofs.Common.{◌≡◌, ◌≤◌, ◌<◌, ◌+◌, ◌*◌, ◌/◌, ◌%◌, ◌^◌, ◌*ℤ◌, ℕ, ℤ, pos, negsuc, true, List, [], length, drop, map, get_or, refl, sym, ap}
use Rattle.std.proofs.Common.{subst, ◌∙◌, inl, inr, arith, length-drop, ◌⊎◌, if◌then◌else◌, nat_le, nat_lt, unsigned_abs, All, pow_mono}
use Rattle.std.specs.Int.{int_shr}
use Rattle.std.specs.List.{range_with_len, list_all}
use Rattle.std.proofs.lemmas.Bool.{cases_lt}
use Rattle.std.proofs.lemmas.Bool.Decides.{nat_tests}
use Rattle.std.proofs.lemmas.Int.{ints, unsigned_abs-mul}
use Rattle.std.proofs.lemmas.Nat.{div_below}
use Rattle.std.proofs.lemmas.List.{get_or_past, get_or-drop, get_or-map, get_or_default, length-map, length-take}
use Rattle.std.proofs.lemmas.List.Elements.{All-drop, All-take}
use Rattle.std.proofs.lemmas.List.FromFn.{get_or-map-range_with_len, length-map-range_with_len}
use Rattle.base_122.specs.Ranges.{IsInRange, rows_range, IsWithin as IsWithinRange}
use Rattle.base_122.specs.Sizes.{block_count, total_blocks, segment_blocks, first_block}
use Rattle.base_122.specs.declared.setting.Setting.{Setting}
use Rattle.base_122.proofs.SizeBounds.{three-le-block_count, one-le-segment_blocks}
use Rattle.wave_defs.specs.Blocks.{coefficient, block, weight_at}
use Rattle.wave_defs.specs.Pyramid.{Pyramid, padded, pyramid}
use Rattle.wave_defs.specs.Within.{EachWithin, PyramidWithin}
use Rattle.wave_defs.proofs.BlockLaws.{passes, coefficient-within}
use Rattle.wave_defs.proofs.PyramidLaws.{pyramid-within}
use Rattle.number_defs.specs.DcPart.{dc_bits, dc_q}
use Rattle.number_defs.specs.Depths.{depth_bits}
use Rattle.number_defs.specs.Laws.{AreFew, DcsFit}
use Rattle.number_defs.specs.Ranges.{IsInRange as IsNumber}
use Rattle.number_defs.proofs.DcRange.{dc_fits}
use Rattle.plane_defs.specs.Laws.{IsMultiple}
use Rattle.plane_defs.specs.Sets.{magnitude, shift}
use Rattle.segment_defs.specs.Depths.{dc_of, dcs_of, block_depth, block_depths, depth_dc_of, depth_ac_of, signed_size}
use Rattle.segment_defs.specs.declared.head.SegmentHead.{SegmentHead}
use Rattle.segment_defs.specs.Head.{IsHead}
use Rattle.segment_defs.specs.SegmentItems.{dc_shift}
use Rattle.segment_defs.proofs.DepthLaws.{each_above, range_of_size, depths_law}
use Rattle.segment_code.proofs.CodedChoices.{within_greatest}
use Rattle.segment_defs.specs.Spellable.{IsSpellable}
use Rattle.base_122.proofs.ShiftLaws.{shift_low}
use Rattle.stream_defs.proofs.Small.{pixel_small, within_small}
use Rattle.stream_defs.specs.Output.{head_for, head_with, image_blocks, segment_of, segments_of}
use Rattle.stream_defs.specs.Shares.{CanBeSaid}
use Rattle.stream_defs.proofs.ShareLaws.{share_said}
use Rattle.stream_defs.proofs.ImageLaws.{image_block, length-image_blocks}
use Rattle.strip_decoder.specs.Images.{ArePixels}
use Rattle.wave_defs.proofs.Equations.{block-is}

-- ---- a head that can be said

pub head_said : (s : Setting) (index limit count depth_dc depth_ac : ℕ) → IsInRange s → CanBeSaid s limit → 1 ≤ count → count ≤ 1048575 → 1 ≤ depth_dc →
    depth_dc ≤ 28 → depth_ac ≤ 27 →
    IsHead (head_with s index limit count depth_dc depth_ac)
head_said s index limit count depth_dc depth_ac range said some most least_dc most_dc most_ac = grind (arith, nat_tests)

-- ---- numbers that are small and multiples of their weights

-- a block of 64 numbers that are small and multiples of their weights
pub record IsSound (weights : List ℕ) (xs : List ℤ) : Type 0 where
  pub long : length xs ≡ 64
  pub small : (i : ℕ) → magnitude xs i < 2 ^ 27
  pub multiple : IsMultiple xs weights

module _ (p : Pyramid) (weights : List ℕ) (r c t k : ℕ) (within : PyramidWithin 409600 2560000 16000000 r c p) (row : t < r) (column : k < c)
    (shifts : All (λ shift. shift ≤ 3) weights) where
  number_at : (i : ℕ) → i < 64 → get_or (block p weights t k) i (pos 0) ≡ coefficient p t k i *ℤ weight_at weights i
  number_at i lt = rw block-is (get_or-map-range_with_len (λ i. coefficient p t k i *ℤ weight_at weights i) 0 64 i i (pos 0) lt (omega arith))

  long : length (block p weights t k) ≡ 64
  long = rw block-is (length-map-range_with_len (λ i. coefficient p t k i *ℤ weight_at weights i) 0 64)

  none_past : (i : ℕ) → 64 ≤ i → magnitude (block p weights t k) i ≡ 0
  none_past i ge = ap unsigned_abs (get_or_past (block p weights t k) i (pos 0) (omega (arith, long, ge)))

  part_of_number : ℕ → ℕ
  part_of_number i = if nat_lt i 64 then unsigned_abs (coefficient p t k i) else 0

  whole_number : (i : ℕ) → (i < 64) ⊎ (64 ≤ i) → magnitude (block p weights t k) i ≡ 2 ^ shift weights i * part_of_number i
  unfolding part_of_number
  whole_number i h1 = grind (arith, nat_tests, number_at, unsigned_abs-mul, none_past)

  pub sound_block : IsSound weights (block p weights t k)
  sound_block = record {
    long = long;
    small = λ i. elim (cases_lt i 64) [
      | inl lt ↦ subst (λ z. unsigned_abs z < 2 ^ 27) (sym (number_at i lt))
          (within_small _ (coefficient-within r c t k i p weights row column lt (λ band. shift_low weights band shifts) within))
      | inr ge ↦ let none = none_past i ge in omega (arith, none)
    ];
    multiple = record { part = part_of_number; whole = λ i. whole_number i (cases_lt i 64) };
  }

-- ---- the blocks of an image

module _ (s : Setting) (x : ℕ → ℕ → ℤ) (range : IsInRange s) (height : IsWithinRange rows_range s.rows) (pixels : ArePixels s s.rows x) where
  abbrev r : ℕ
  r = block_count s.rows

  abbrev c : ℕ
  c = block_count s.width

  image_small : EachWithin (2 ^ 16) (8 * r) (8 * c) (padded x s.rows s.width)
  image_small = grind (arith, nat_tests, pixel_small)

  all_sound : All (IsSound s.weights.shifts) (image_blocks s x)
  all_sound b d lt =
      let tall = three-le-block_count s.rows height.0 in
      let wide = three-le-block_count s.width range.width.0 in
      let inside : b < total_blocks s.width s.rows = omega (arith, lt, length-image_blocks s x) in
      let column : b % c < c = omega (arith, wide) in
      let turned : c * r ≡ r * c = grind arith in
      let row : b / c < r = div_below b c r (omega (arith, wide)) (omega (arith, inside, turned)) in
      subst (IsSound s.weights.shifts) (sym (image_block s x b d inside))
      (sound_block (pyramid (padded x s.rows s.width) r c) s.weights.shifts r c (b / c) (b % c)
      (pyramid-within (padded x s.rows s.width) r c (omega (arith, tall)) (omega (arith, wide)) image_small) row column range.weights)

  -- those of a segment
  segment_sound : (index : ℕ) → All (IsSound s.weights.shifts) (segment_of s (image_blocks s x) index)
  segment_sound index = All-take (IsSound s.weights.shifts) s.segment (drop (first_block s.segment index) (image_blocks s x))
      (All-drop (IsSound s.weights.shifts) (first_block s.segment index) (image_blocks s x) all_sound)

  pub length-segment : (index : ℕ) → length (segment_of s (image_blocks s x) index) ≡ segment_blocks (total_blocks s.width s.rows) s.segment index
  length-segment index = grind (arith, nat_tests, length-take, length-drop, length-image_blocks)

  -- ---- a segment with its head

  module _ (index : ℕ) (inside : index < segments_of s) where
    abbrev blocks : List (List ℤ)
    blocks = segment_of s (image_blocks s x) index

    some_blocks : 1 ≤ length blocks
    some_blocks = omega (
      arith,
      length-segment index,
      one-le-segment_blocks (total_blocks s.width s.rows) s.segment index (omega (arith, range.segment.0))
          inside,
    )

    few_blocks : length blocks ≤ 1048575
    few_blocks = omega (arith, length-segment index, range.segment.1)

    number_fits : (z : ℤ) → unsigned_abs z < 2 ^ 27 → IsNumber true 28 z
    number_fits z lt = grind (arith, nat_tests, ints)

    depth_dc_most : depth_dc_of blocks ≤ 28
    depth_dc_most = depths_law.dc_least blocks 28 (omega arith) (λ k d lt. number_fits _ ((segment_sound index k d lt).small 0))

    depth_dc_some : 1 ≤ depth_dc_of blocks
    depth_dc_some =
        let here = each_above (λ b. signed_size (dc_of b)) 0 blocks 0 [] (omega (arith, some_blocks)) in
        grind (arith, nat_tests, some_size, get_or)
      where
        some_size : (z : ℤ) → 1 ≤ signed_size z
        some_size (pos a) = omega arith
        some_size (negsuc a) = omega arith

    rest_small : (xs : List ℤ) → IsSound s.weights.shifts xs → All (λ z. unsigned_abs z < 2 ^ 27) (drop 1 xs)
    rest_small xs sound k d lt =
        let at : get_or (drop 1 xs) k d ≡ get_or xs (1 + k) (pos 0) = get_or_default (drop 1 xs) k d (pos 0) lt ∙ get_or-drop 1 xs k (pos 0) in
        subst (λ z. unsigned_abs z < 2 ^ 27) (sym at) (sound.small (1 + k))

    depth_ac_most : depth_ac_of blocks ≤ 27
    depth_ac_most = depths_law.ac_least blocks 27 (λ k d lt. rest_small (get_or blocks k d) (segment_sound index k d lt))

    abbrev head : SegmentHead
    head = head_for s (image_blocks s x) index

    pub head_fits : IsHead head
    head_fits = grind (arith, nat_tests, head_said, length, share_said, some_blocks, few_blocks, depth_dc_some, depth_dc_most, depth_ac_most)

    -- ---- they can be spelled

    dcs_fit : DcsFit (depth_dc_of blocks) (depth_ac_of blocks) (dc_shift head) (dcs_of blocks)
    dcs_fit i lt =
        let inside : i < length blocks = omega (arith, lt, length-map blocks dc_of) in
        let above = each_above (λ b. signed_size (dc_of b)) 0 blocks i [] inside in
        let here : get_or (map dc_of blocks) i (pos 0) ≡ dc_of (get_or blocks i []) = get_or-map dc_of blocks i [] (pos 0) inside in
        subst (λ z. IsNumber true (dc_bits (depth_dc_of blocks) (depth_ac_of blocks) (dc_shift head))
        (int_shr z (dc_q (depth_dc_of blocks) (depth_ac_of blocks) (dc_shift head)))) (sym here)
        (dc_fits (depth_dc_of blocks) (depth_ac_of blocks) (dc_shift head) (dc_of (get_or blocks i [])) depth_dc_some
        (range_of_size (dc_of (get_or blocks i [])) (depth_dc_of blocks) above))

    no_block : (n : ℕ) → length blocks ≤ n → get_or blocks n [] ≡ []
    no_block n ge = get_or_past blocks n [] ge

    multiples : (n : ℕ) → IsMultiple (get_or blocks n []) s.weights.shifts
    multiples n = elim (cases_lt n (length blocks)) [
      | inl lt ↦ (segment_sound index n [] lt).multiple
      | inr ge ↦ subst (λ xs. IsMultiple xs s.weights.shifts) (sym (no_block n ge)) record { part = λ p. 0; whole = λ p. none (2 ^ shift s.weights.shifts p) }
    ]
      where
        none : (n : ℕ) → 0 ≡ n * 0
        none n = omega arith

    below : (n p : ℕ) → 1 ≤ p → magnitude (get_or blocks n []) p < 2 ^ get_or (block_depths blocks) n 0
    below n p some = grind (arith, nat_tests, cases_lt, length, get_or, get_or-map, in_block, no_block, pow_mono)
      where
        in_block : (xs : List ℤ) (p : ℕ) → 1 ≤ p → magnitude xs p < 2 ^ block_depth xs
        in_block xs p some = elim (cases_lt p (length xs)) [
          | inl lt ↦ grind (arith, nat_tests, get_or, pos, get_or-drop, depths_law, length-drop)
          | inr ge ↦
              let none : magnitude xs p ≡ 0 = ap unsigned_abs (get_or_past xs p (pos 0) ge) in
              let least : 2 ^ 0 ≤ 2 ^ block_depth xs = pow_mono {i = 0} {j = block_depth xs} (omega arith) in
              omega (arith, none, least)
        ]

    -- depths have room in their bits
    room_table : list_all (λ d. nat_le (1 + d) (2 ^ depth_bits d)) (range_with_len 0 28) ≡ true
    room_table = refl

    room : (d : ℕ) → d ≤ 27 → 1 + d ≤ 2 ^ depth_bits d
    room d le = let e = passes (λ d. nat_le (1 + d) (2 ^ depth_bits d)) 28 d room_table (omega (arith, le)) in least (1 + d) (2 ^ depth_bits d) e
      where
        least : (m n : ℕ) → nat_le m n ≡ true → m ≤ n
        least m n e = grind (arith, nat_tests)

    depths_few : AreFew (depth_bits (depth_ac_of blocks)) (block_depths blocks)
    depths_few i lt = let most = within_greatest block_depth blocks 0 i in let fits = room (depth_ac_of blocks) depth_ac_most in omega (arith, most, fits)

    pub spells : IsSpellable head blocks (block_depths blocks)
    spells = record {
      blocks_all = refl;
      depths_all = length-map blocks block_depth;
      whole = λ n lt. (segment_sound index n [] lt).long;
      dcs_fit = dcs_fit;
      multiples = multiples;
      below = below;
      depths_few = depths_few;
    }
