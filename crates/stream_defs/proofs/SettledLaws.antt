-- The packets of settled segments are determined by the blocks that the rows so far determine.
use Rattle.std.proofs.Common.{◌≡◌, ◌≤◌, ◌<◌, ◌+◌, ◌*◌, ◌/◌, ℕ, zero, suc, ℤ, List, [], length, take, drop, refl, sym, ap, subst, ◌∙◌, arith, length-take}
use Rattle.std.proofs.Common.{length-drop, Bool, true, false, ◌==◌, ◌&&◌, not, nat_lt, cond, ext_get_or, get_or-take, get_or-drop, div-mul-le_self}
use Rattle.std.proofs.Common.{mul-le-mul_right}
use Rattle.std.specs.List.{count_by, range_with_len}
use Rattle.std.proofs.lemmas.Bool.{false≢true}
use Rattle.std.proofs.lemmas.Bool.Decides.{nat_tests}
use Rattle.std.proofs.lemmas.List.Sums.{sum_by-cons}
use Rattle.std.proofs.lemmas.Nat.{le-div}
use Rattle.base_122.specs.Ranges.{IsInRange}
use Rattle.base_122.specs.Sizes.{block_count, total_blocks}
use Rattle.base_122.specs.declared.setting.Setting.{Setting}
use Rattle.base_122.proofs.SizeBounds.{first_block-lt, three-le-block_count}
use Rattle.stream_defs.specs.Output.{packets_of, segment_of, segments_of}
use Rattle.stream_defs.specs.Settled.{last_block_row, is_settled, settled, BlocksAgree}
use Rattle.stream_defs.proofs.WholeStreams.{same_packets}

-- ---- the settled segments are the first ones

-- if a test fails from one number on, at most the numbers before it are counted
count_few : (p : ℕ → Bool) (n a m : ℕ) → ((j : ℕ) → a + m ≤ j → j < a + n → p j ≡ false) → count_by p (range_with_len a n) ≤ m
count_few p zero a m none = omega arith
count_few p (suc n) a zero none = grind (
  arith,
  nat_tests,
  sum_by-cons,
  false≢true,
  count_few p n (a + 1) zero (λ j low high. none j (omega (arith, low)) (omega (arith, high))),
)
count_few p (suc n) a (suc m) none =
    let rest : count_by p (range_with_len (a + 1) n) ≤ m = count_few p n (a + 1) m (λ j low high. none j (omega (arith, low)) (omega (arith, high))) in
    subst (λ t. t ≤ suc m) (sym (sum_by-cons (λ x. cond (p x) 1 0) a (range_with_len (a + 1) n))) (by_test (p a) rest)
  where
    by_test : (b : Bool) → count_by p (range_with_len (a + 1) n) ≤ m → cond b 1 0 + count_by p (range_with_len (a + 1) n) ≤ suc m
    by_test b rest = grind (arith, nat_tests)

-- if the first m numbers pass a test, at least m are counted
pub count_many : (p : ℕ → Bool) (n a m : ℕ) → m ≤ n → ((j : ℕ) → a ≤ j → j < a + m → p j ≡ true) → m ≤ count_by p (range_with_len a n)
count_many p n a zero few each = omega arith
count_many p zero a (suc m) few each = absurd (omega (arith, few))
count_many p (suc n) a (suc m) few each =
    let rest : m ≤ count_by p (range_with_len (a + 1) n) =
    count_many p n (a + 1) m (omega (arith, few)) (λ j low high. each j (omega (arith, low)) (omega (arith, high))) in
    let one : cond {A = ℕ} (p a) 1 0 ≡ 1 = ap (λ b. cond b 1 0) (each a (omega arith) (omega arith)) in
    omega (arith, sym (sum_by-cons (λ x. cond (p x) 1 0) a (range_with_len (a + 1) n)), one, rest)

-- the count is at most the number of elements
pub count_most : (p : ℕ → Bool) (n a : ℕ) → count_by p (range_with_len a n) ≤ n
count_most p n a = count_few p n a n (λ j low high. absurd (omega (arith, low, high)))

pub rows_rise : (a b c : ℕ) → 0 < c → a ≤ b → a / c ≤ b / c
rows_rise a b c some le = let below : a / c * c ≤ a = div-mul-le_self a c in le-div (a / c) b c some (omega (arith, below, le))

not_settled : (reported_last : Bool) (s : Setting) (k i : ℕ) → is_settled reported_last s k i ≡ false → ((not reported_last && (k == s.rows)) ≡ false)
    × (k ≤ 8 * last_block_row s i + 28)
not_settled reported_last s k i e = grind (arith, nat_tests, false≢true)

unsettled_so : (reported_last : Bool) (s : Setting) (k i : ℕ) → (not reported_last && (k == s.rows)) ≡ false → k ≤ 8 * last_block_row s i + 28 →
    is_settled reported_last s k i ≡ false
unsettled_so reported_last s k i a far = grind (arith, nat_tests)

module _ (reported_last : Bool) (s : Setting) (range : IsInRange s) where
  some_blocks : 0 < s.segment
  some_blocks = let segment = range.segment in omega (arith, segment)

  some_columns : 0 < block_count s.width
  some_columns = let width = range.width in let three = three-le-block_count s.width width.0 in omega (arith, three)

  last_rises : (i j : ℕ) → i ≤ j → j < segments_of s → last_block_row s i ≤ last_block_row s j
  last_rises i j le lt = grind (arith, nat_tests, first_block-lt, some_blocks, mul-le-mul_right, rows_rise, some_columns)

  -- a segment that isn't settled is followed by none that is
  none_later : (k i j : ℕ) → is_settled reported_last s k i ≡ false → i ≤ j → j < segments_of s → is_settled reported_last s k j ≡ false
  none_later k i j e le lt = grind (arith, nat_tests, not_settled, last_rises, unsettled_so)

  pub settled_first : (k i : ℕ) → i < settled reported_last s k → is_settled reported_last s k i ≡ true
  unfolding settled
  settled_first k i lt = by_test (is_settled reported_last s k i) refl
    where
      by_test : (b : Bool) → is_settled reported_last s k i ≡ b → b ≡ true
      by_test true e = refl
      by_test false e = absurd (let few = count_few (is_settled reported_last s k) (segments_of s) 0 i
          (λ j low high. none_later k i j e (omega (arith, low)) (omega (arith, high))) in omega (arith, few, lt))

  -- ---- their blocks

  segment_same : (k : ℕ) (xs ys : List (List ℤ)) (index : ℕ) → length xs ≡ total_blocks s.width s.rows → BlocksAgree s k xs ys →
      8 * last_block_row s index + 28 < k → segment_of s xs index ≡ segment_of s ys index
  segment_same k xs ys index size agree near =
      let S = s.segment in
      let first = index * S in
      let long = agree.same_length in
      ext_get_or [] (take S (drop first xs)) (take S (drop first ys))
      (omega (arith, long, length-take S (drop first xs), length-take S (drop first ys), length-drop first xs, length-drop first ys))
      (λ i lt.
      let few : i < S = omega (arith, lt, length-take S (drop first xs)) in
      let there : first + i < total_blocks s.width s.rows = omega (arith, lt, size, length-take S (drop first xs), length-drop first xs) in
      let row : (first + i) / block_count s.width ≤ last_block_row s index = grind (arith, nat_tests, rows_rise, some_columns) in
      get_or-take S (drop first xs) i [] few ∙ get_or-drop first xs i []
      ∙ agree.at (first + i) (omega (arith, row, near))
      ∙ sym (get_or-take S (drop first ys) i [] few ∙ get_or-drop first ys i []))

  pub settled_same : (k : ℕ) (xs ys : List (List ℤ)) → length xs ≡ total_blocks s.width s.rows → BlocksAgree s k xs ys →
      packets_of reported_last s xs (settled reported_last s k) ≡ packets_of reported_last s ys (settled reported_last s k)
  settled_same k xs ys size agree = by_rows (not reported_last && (k == s.rows)) refl
    where
      near : (index : ℕ) → (not reported_last && (k == s.rows)) ≡ false → is_settled reported_last s k index ≡ true → 8 * last_block_row s index + 28 < k
      near index e t = let u : nat_lt (8 * last_block_row s index + 28) k ≡ true = rw e at t in grind (arith, nat_tests)

      all_rows : (if_known : Bool) → (not if_known && (k == s.rows)) ≡ true → k ≡ s.rows
      all_rows if_known e = grind (arith, nat_tests, false≢true)

      by_rows : (b : Bool) → (not reported_last && (k == s.rows)) ≡ b → packets_of reported_last s xs (settled reported_last s k)
          ≡ packets_of reported_last s ys
          (settled reported_last s k)
      by_rows true e = ap (λ zs. packets_of reported_last s zs (settled reported_last s k)) (agree.whole (all_rows reported_last e))
      by_rows false e = same_packets reported_last s xs ys (settled reported_last s k)
          (λ index lt. segment_same k xs ys index size agree (near index e (settled_first k index lt)))
