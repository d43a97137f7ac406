-- The first rows of an image determine the packets of the segments that they settle.
use Rattle.std.proofs.Common.{◌≡◌, ◌≤◌, ◌<◌, ◌+◌, ◌*◌, ◌/◌, ◌%◌, ℕ, zero, suc, ℤ, List, [], length, refl, sym, ◌∙◌, arith, get_or, Bool, true, false, ◌==◌}
use Rattle.std.proofs.Common.{cond, div-lt_iff_lt-mul}
use Rattle.std.specs.List.{count_by, range_with_len}
use Rattle.std.proofs.lemmas.Bool.Decides.{nat_tests}
use Rattle.std.proofs.lemmas.List.{same_lists}
use Rattle.std.proofs.lemmas.List.Sums.{sum_by-cons}
use Rattle.wave_defs.specs.Held.{SameWithin}
use Rattle.wave_defs.specs.Pyramid.{padded, pyramid}
use Rattle.wave_defs.specs.Blocks.{block}
use Rattle.wave_defs.proofs.BlockLaws.{length-blocks, get_or-blocks}
use Rattle.wave_defs.proofs.BlockPlaces.{SamePyramid-block, block-same}
use Rattle.wave_defs.proofs.ForwardReach.{images-known}
use Rattle.wave_defs.proofs.PyramidLaws.{pyramid-same}
use Rattle.base_122.specs.Ranges.{IsInRange, IsWithin, rows_range}
use Rattle.base_122.specs.Sizes.{block_count, total_blocks}
use Rattle.base_122.specs.declared.setting.Setting.{Setting}
use Rattle.base_122.proofs.SizeBounds.{three-le-block_count}
use Rattle.stream_defs.specs.Output.{image_blocks, segments_of}
use Rattle.stream_defs.specs.Settled.{is_settled, settled, BlocksAgree}

-- ---- the blocks

pub length-image_blocks : (s : Setting) (x : ℕ → ℕ → ℤ) → length (image_blocks s x) ≡ total_blocks s.width s.rows
unfolding image_blocks
length-image_blocks s x = grind (arith, nat_tests, length-blocks)

-- a block of an image by its row and column
pub image_block : (s : Setting) (x : ℕ → ℕ → ℤ) (b : ℕ) (d : List ℤ) → b < total_blocks s.width s.rows →
    get_or (image_blocks s x) b d
    ≡ block (pyramid (padded x s.rows s.width) (block_count s.rows) (block_count s.width)) s.weights.shifts (b / block_count s.width) (b % block_count s.width)
unfolding image_blocks
image_block s x b d lt = grind (arith, nat_tests, get_or-blocks)

module _ (s : Setting) (range : IsInRange s) (tall : IsWithin rows_range s.rows) where
  some_columns : 3 ≤ block_count s.width
  some_columns = three-le-block_count s.width range.width.0

  row_below : (b : ℕ) → b < total_blocks s.width s.rows → b / block_count s.width < block_count s.rows
  row_below b lt = grind (arith, nat_tests, some_columns, div-lt_iff_lt-mul)

  pub total_above : (b : ℕ) → b / block_count s.width < block_count s.rows → b < total_blocks s.width s.rows
  total_above b lt = grind (arith, nat_tests, some_columns, div-lt_iff_lt-mul)

  -- a block row that the first k rows determine
  pub blocks_known : (k : ℕ) (x y : ℕ → ℕ → ℤ) (b : ℕ) → k ≤ s.rows → SameWithin k s.width x y → 8 * (b / block_count s.width) + 28 < k →
      get_or (image_blocks s x) b [] ≡ get_or (image_blocks s y) b []
  blocks_known k x y b le same near = grind (arith, nat_tests, some_columns, total_above, images-known, image_block, block-same)

  -- all of them
  padded_whole : (x y : ℕ → ℕ → ℤ) → SameWithin s.rows s.width x y → SameWithin (8 * block_count s.rows) (8 * block_count s.width) (padded x s.rows s.width)
      (padded y s.rows s.width)
  padded_whole x y same = grind (arith, nat_tests)

  pub blocks_whole : (x y : ℕ → ℕ → ℤ) → SameWithin s.rows s.width x y → image_blocks s x ≡ image_blocks s y
  blocks_whole x y same =
      let r = block_count s.rows in
      let c = block_count s.width in
      let three = some_columns in
      let tall = three-le-block_count s.rows tall.0 in
      let pyramids = pyramid-same r c (padded x s.rows s.width) (padded y s.rows s.width) (omega (arith, tall)) (omega (arith, three))
      (padded_whole x y same) in
      same_lists (image_blocks s x) (image_blocks s y) (length-image_blocks s x ∙ sym (length-image_blocks s y))
      (λ b d hb.
      let lt : b < total_blocks s.width s.rows = omega (arith, hb, length-image_blocks s x) in
      image_block s x b d lt
      ∙ block-same _ _ s.weights.shifts (b / c) (b % c) (SamePyramid-block _ _ r c (b / c) (b % c) pyramids (row_below b lt) (omega (arith, three)))
      ∙ sym (image_block s y b d lt))

  pub blocks_agree : (k : ℕ) (x y : ℕ → ℕ → ℤ) → k ≤ s.rows → SameWithin k s.width x y → BlocksAgree s k (image_blocks s x) (image_blocks s y)
  blocks_agree k x y le same = grind (arith, nat_tests, length-image_blocks, blocks_known, blocks_whole)

-- ---- how many are settled

count_rises : (p q : ℕ → Bool) (n a : ℕ) → ((i : ℕ) → p i ≡ true → q i ≡ true) → count_by p (range_with_len a n) ≤ count_by q (range_with_len a n)
count_rises p q zero a each = omega arith
count_rises p q (suc n) a each =
    let f = sum_by-cons (λ x. cond (q x) 1 0) a (range_with_len (a + 1) n) in
    omega (arith, sum_by-cons (λ x. cond (p x) 1 0) a (range_with_len (a + 1) n), f, count_rises p q n (a + 1) each, by_tests (p a) (q a) (each a))
  where
    by_tests : (b c : Bool) → (b ≡ true → c ≡ true) → cond b 1 0 ≤ cond c 1 0
    by_tests b c f = grind (arith, nat_tests)

count_all : (p : ℕ → Bool) (n a : ℕ) → ((i : ℕ) → p i ≡ true) → count_by p (range_with_len a n) ≡ n
count_all p zero a each = refl
count_all p (suc n) a each =
    omega (arith, sum_by-cons (λ x. cond (p x) 1 0) a (range_with_len (a + 1) n), count_all p n (a + 1) each, one (p a) (each a))
  where
    one : (b : Bool) → b ≡ true → cond b 1 0 ≤ 1 × 1 ≤ cond b 1 0
    one b e = grind (arith, nat_tests)

pub settled_rises : (reported_last : Bool) (s : Setting) (k l : ℕ) → k ≤ l → l ≤ s.rows → settled reported_last s k ≤ settled reported_last s l
unfolding settled
settled_rises reported_last s k l le most = grind (arith, nat_tests, count_rises)

pub settled_whole : (s : Setting) → settled false s s.rows ≡ segments_of s
unfolding settled
settled_whole s = count_all (is_settled false s s.rows) (segments_of s) 0 (λ i. let h : (s.rows == s.rows) ≡ true = grind (arith, nat_tests) in rw h refl)
