-- The numbers of blocks of the segments.
use Rattle.std.proofs.Common.{◌≡◌, ◌≤◌, ◌<◌, ◌+◌, ◌*◌, ◌/◌, ◌%◌, ◌==◌, ℕ, sym, ap, ◌∙◌, min, arith, Bool, true, nat_le, ◌||◌}
use Rattle.std.proofs.lemmas.Bool.Decides.{nat_tests}
use Rattle.std.proofs.lemmas.Nat.{div-add-mod', mod_below, div_below}
use Rattle.base_122.specs.Sizes.{segment_blocks, segment_count}
use Rattle.base_122.proofs.SizeBounds.{first_block-lt, total-le-segments, segment_blocks-whole}

or_true : (b : Bool) → (b || true) ≡ true
or_true b = grind (arith, nat_tests)

module _ (total S : ℕ) (some : 16 ≤ S) (any : 9 ≤ total) where
  abbrev n : ℕ
  n = segment_count total S

  -- blocks of a segment
  abbrev size : ℕ → ℕ
  size index = segment_blocks total S index

  pub whole_first : 1 < n → size 0 ≡ S
  whole_first more = segment_blocks-whole total S 0 (omega (arith, some)) (omega (arith, more))

  -- a single segment has all blocks
  pub single : n ≡ 1 → size 0 ≡ total
  single one = let all = total-le-segments total S (omega (arith, some)) in let times : n * S ≡ 1 * S = ap (λ k. k * S) one in omega (arith, all, times)

  some_segments : 0 < n
  some_segments = grind (arith, nat_tests, total-le-segments)

  -- ---- a segment that isn't the last

  pub whole_before : (index : ℕ) → index + 1 < n → size index ≡ size 0
  whole_before index more = segment_blocks-whole total S index (omega (arith, some)) more ∙ sym (whole_first (omega (arith, more)))

  pub room_before : (index : ℕ) → index + 1 < n → index * size 0 + size 0 < total
  room_before index more = grind (arith, nat_tests, whole_first, first_block-lt)

  -- ---- the last segment

  pub few_last : (index : ℕ) → size index ≤ size 0
  few_last index = omega arith

  pub all_blocks : (index : ℕ) → index + 1 ≡ n → index * size 0 + size index ≡ total
  all_blocks index last = grind (arith, nat_tests, single, whole_first, first_block-lt, total-le-segments)

  -- ---- the number of the first

  pub least_first : (nat_le 16 (size 0) || (0 + 1 == n)) ≡ true
  least_first = grind (arith, nat_tests, whole_first, some_segments, or_true)

  pub least_is : size 0 ≡ min S total
  least_is = omega arith

  -- ---- a block's segment

  -- segments with the number of blocks of the first one
  abbrev first : ℕ
  first = min S total

  pub segment_within : (block : ℕ) → block < total → block / first < n
  segment_within block lt = grind (arith, nat_tests, total-le-segments, div_below, some_segments)

  pub place_within : (block : ℕ) → block % first < S
  place_within block = let below = mod_below block first (omega (arith, some, any)) in omega (arith, below)

  pub place_is : (block : ℕ) → block < total → block / first * S + block % first ≡ block
  place_is block lt = grind (arith, nat_tests, div-add-mod', div_below)
