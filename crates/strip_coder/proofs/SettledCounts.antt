-- The segments before the present one are those that the rows so far settle.
use Rattle.std.proofs.Common.{◌≡◌, ℕ, zero, suc, ◌+◌, ◌-◌, ◌*◌, ◌<◌, ◌≤◌, sym, ap, ◌∙◌, arith, Bool, true, false, cond, div-lt_iff_lt-mul, mul-le-mul_right}
use Rattle.std.proofs.Common.{mul-le-mul_left}
use Rattle.std.specs.List.{count_by, range_with_len}
use Rattle.std.proofs.lemmas.Bool.Decides.{nat_tests}
use Rattle.std.proofs.lemmas.List.Sums.{sum_by-cons}
use Rattle.std.proofs.lemmas.Nat.{le-div}
use Rattle.strip_coder.specs.Plans.{Job, IsPlan, MoreMayArrive, whole}
use Rattle.strip_coder.proofs.PlanLaws.{open_last}
use Rattle.base_122.specs.Sizes.{block_count, total_blocks, segment_blocks}
use Rattle.base_122.proofs.SizeBounds.{three-le-block_count, one-le-segment_blocks}
use Rattle.wave_strip.specs.Strip.{rows_of}
use Rattle.wave_strip.specs.Counts.{settled as block_rows_in}
use Rattle.stream_defs.specs.Output.{segments_of, reports_last}
use Rattle.stream_defs.specs.Settled.{last_block_row, is_settled, settled}
use Rattle.strip_coder.specs.declared.work.Work.{Work}
use Rattle.strip_coder.specs.Works.{IsRunning, gathered_in}
use Rattle.strip_coder.proofs.GatherSteps.{more_segments, place_is}
use Rattle.stream_defs.proofs.Equations.{settled-is}

count_first : (p : ℕ → Bool) (n a m : ℕ) → m ≤ n → ((i : ℕ) → a ≤ i → i < a + m → p i ≡ true) → ((i : ℕ) → a + m ≤ i → i < a + n → p i ≡ false) →
    count_by p (range_with_len a n) ≡ m
count_first p zero a m le holds fails = let t : 0 ≡ m = omega (arith, le) in t
count_first p (suc n) a zero le holds fails =
    let e = sum_by-cons (λ x. cond (p x) 1 0) a (range_with_len (a + 1) n) in
    let rest = count_first p n (a + 1) zero (omega arith) (λ i low high. absurd (omega (arith, low, high)))
    (λ i low high. fails i (omega (arith, low)) (omega (arith, high))) in
    let here = none (p a) (fails a (omega arith) (omega arith)) in
    omega (arith, e, rest, here)
  where
    none : (b : Bool) → b ≡ false → cond b 1 0 ≤ 0
    none true e = absurd cc
    none false e = omega arith
count_first p (suc n) a (suc m) le holds fails =
    let e = sum_by-cons (λ x. cond (p x) 1 0) a (range_with_len (a + 1) n) in
    let rest = count_first p n (a + 1) m (omega (arith, le)) (λ i low high. holds i (omega (arith, low)) (omega (arith, high)))
    (λ i low high. fails i (omega (arith, low)) (omega (arith, high))) in
    let here = one (p a) (holds a (omega arith) (omega arith)) in
    omega (arith, e, rest, here)
  where
    one : (b : Bool) → b ≡ true → cond b 1 0 ≤ 1 × 1 ≤ cond b 1 0
    one true e = (omega arith, omega arith)
    one false e = absurd cc

pub settled_so : (s : Job) (k i : ℕ) → 8 * last_block_row (whole s) i + 28 < k → is_settled (reports_last s.setting) (whole s) k i ≡ true
settled_so s k i near = grind (arith, nat_tests)

unsettled_so : (s : Job) (k i : ℕ) → MoreMayArrive s k → k ≤ 8 * last_block_row (whole s) i + 28 → is_settled (reports_last s.setting) (whole s) k i ≡ false
unsettled_so s k i more far = grind (arith, nat_tests, open_last)

module _ (s : Job) (range : IsPlan s) (k : ℕ) (w : Work) (running : IsRunning s w) (rows : rows_of w.strip ≡ k) (least : k ≤ s.rows) where
  some_columns : 0 < block_count s.setting.width
  some_columns = let three = three-le-block_count s.setting.width range.in_range.width.0 in omega (arith, three)

  some_blocks : 0 < s.setting.segment
  some_blocks = let segment = range.in_range.segment in omega (arith, segment)

  pub count : gathered_in s w.at ≡ block_count s.setting.width * block_rows_in k
  count = running.count ∙ ap (λ n. block_count s.setting.width * block_rows_in n) rows

  pub few_gathered : gathered_in s w.at < total_blocks s.setting.width s.rows
  few_gathered = grind (arith, nat_tests, mul-le-mul_left, count, some_columns)

  pub below : w.at.index < segments_of (whole s)
  below = more_segments s range w running.gathered few_gathered

  pub place : w.at.index * s.setting.segment + w.at.filled ≡ block_count s.setting.width * block_rows_in k
  place = sym (place_is s range w below) ∙ count

  -- an earlier segment
  before : (i : ℕ) → i < w.at.index → is_settled (reports_last s.setting) (whole s) k i ≡ true
  before i lt =
      let total = total_blocks s.setting.width s.rows in
      let some = one-le-segment_blocks total s.setting.segment i some_blocks (let b = below in omega (arith, lt, b)) in
      let next : (i + 1) * s.setting.segment ≤ w.at.index * s.setting.segment = mul-le-mul_right s.setting.segment (omega (arith, lt)) in
      let more : (i + 1) * s.setting.segment ≡ i * s.setting.segment + s.setting.segment = omega arith in
      let at = place in
      let turned : block_count s.setting.width * block_rows_in k ≡ block_rows_in k * block_count s.setting.width = grind arith in
      let last : i * s.setting.segment + segment_blocks total s.setting.segment i - 1 < block_rows_in k * block_count s.setting.width =
      omega (arith, some, next, more, at, turned) in
      let row : last_block_row (whole s) i < block_rows_in k =
      (div-lt_iff_lt-mul {k = block_count s.setting.width} {x = i * s.setting.segment + segment_blocks total s.setting.segment i - 1} {y =
      block_rows_in k} some_columns).1 last in
      settled_so s k i (omega (arith, row))

  -- the present one or a later one
  after : (i : ℕ) → MoreMayArrive s k → w.at.index ≤ i → i < segments_of (whole s) → is_settled (reports_last s.setting) (whole s) k i ≡ false
  after i more le lt =
      let total = total_blocks s.setting.width s.rows in
      let last : block_rows_in k * block_count s.setting.width ≤ i * s.setting.segment + segment_blocks total s.setting.segment i - 1 = far in
      let row : block_rows_in k ≤ last_block_row (whole s) i =
      le-div (block_rows_in k) (i * s.setting.segment + segment_blocks total s.setting.segment i - 1) (block_count s.setting.width) some_columns last in
      unsettled_so s k i more (omega (arith, row))
    where
      far : block_rows_in k * block_count s.setting.width ≤ i * s.setting.segment + segment_blocks (total_blocks s.setting.width s.rows) s.setting.segment i - 1
      far = grind (arith, nat_tests, one-le-segment_blocks, some_blocks, below, place, mul-le-mul_right)

  pub index_settled : MoreMayArrive s k → w.at.index ≡ settled (reports_last s.setting) (whole s) k
  index_settled more = rw settled-is (sym (count_first (is_settled (reports_last s.setting) (whole s) k) (segments_of (whole s)) 0 w.at.index (let b =
      below in omega (arith, b)) (λ i low high. before i (omega (arith, high))) (λ i low high. after i more (omega (arith, low)) (omega (arith, high)))))
