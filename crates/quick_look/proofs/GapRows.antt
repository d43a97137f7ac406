-- The runs of missing blocks that begin from a block on, one after another.
use Rattle.std.proofs.Common.{◌≡◌, ◌⊎◌, inl, inr, ◌≤◌, ◌<◌, ◌+◌, ◌-◌, ◌*◌, ◌/◌, ◌%◌, ℕ, zero, suc, Bool, true, false, List, [], ◌∷◌, ◌++◌, map, sym, ap}
use Rattle.std.proofs.Common.{subst, ◌∙◌, arith, append_assoc, cond, ◌==◌, ◌&&◌, ◌||◌, not, max, min, filter, mul-le-mul_right}
use Rattle.std.specs.List.{range_with_len, prefix_len}
use Rattle.std.proofs.lemmas.Bool.{cases_lt, false≢true, and_from}
use Rattle.std.proofs.lemmas.Bool.Decides.{nat_tests}
use Rattle.std.proofs.lemmas.Nat.{div-add-mod', mod_below, div-mul-add, mod-mul-add}
use Rattle.std.proofs.Math.Bool.{and-false}
use Rattle.base_122.specs.Sizes.{block_count}
use Rattle.quick_look.specs.declared.gap.Gap.{Gap}
use Rattle.quick_look.specs.declared.rect.Rect.{Rect}
use Rattle.quick_look.specs.Rects.{begins_run, run_length, reach_of, rect_from, has_pixels}
use Rattle.quick_look.specs.Gaps.{AreAll, gap_rect}
use Rattle.quick_look.proofs.RectTests.{prefix_least, prefix_most, prefix_all}

-- if a test fails at a number, the numbers that pass end before it
prefix_ends : (p : ℕ → Bool) (a n k : ℕ) → p (a + k) ≡ false → prefix_len p (range_with_len a n) ≤ k
prefix_ends p a n k e = elim (cases_lt k (prefix_len p (range_with_len a n))) [
  | inl more ↦ absurd (false≢true (sym e ∙ prefix_all p a n k more))
  | inr le ↦ le
]

-- a list of one more
one_more : {A : Type 0} (b : Bool) (y : A) (ys : List A) → cond b (y ∷ ys) ys ≡ cond b (y ∷ []) [] ++ ys
one_more b y ys = grind (arith, nat_tests)

-- a number in a row of this length
in_row : (columns r k : ℕ) → r * columns ≤ k → k < (r + 1) * columns → (k / columns ≡ r) × (k % columns ≡ k - r * columns)
in_row columns r k low high =
    let more : (r + 1) * columns ≡ r * columns + columns = grind arith in
    let at : k ≡ r * columns + (k - r * columns) = omega (arith, low) in
    let few : k - r * columns < columns = omega (arith, low, high, more) in
    (ap (λ n. n / columns) at ∙ div-mul-add r columns (k - r * columns) few, ap (λ n. n % columns) at ∙ mod-mul-add r columns (k - r * columns) few)

module _ (rows width : ℕ) (lost : ℕ → Bool) (m : ℕ) (some : 0 < width) where
  abbrev c : ℕ
  c = block_count width

  abbrev begins : ℕ → Bool
  begins = begins_run c lost

  -- the rectangles of the runs that begin at some of these blocks
  abbrev pub made : List ℕ → List Rect
  made blocks = filter (has_pixels rows width) (map (rect_from rows width lost) (filter begins blocks))

  abbrev kept : List Rect → List Rect
  kept = filter (has_pixels rows width)

  -- those from a block on
  abbrev pub after : ℕ → List Rect
  after a = made (range_with_len a (m - a))

  wide : 0 < c
  wide = omega (arith, some)

  next_row : (r : ℕ) → (r + 1) * c ≡ r * c + c
  next_row r = grind arith

  range_of : (a : ℕ) → a < m → range_with_len a (m - a) ≡ a ∷ range_with_len (a + 1) (m - (a + 1))
  range_of a lt = let e : m - a ≡ suc (m - (a + 1)) = omega (arith, lt) in ap (range_with_len a) e

  -- one that begins none
  past_one : (a : ℕ) → a < m → begins a ≡ false → after a ≡ after (a + 1)
  past_one a lt e = grind (arith, nat_tests, range_of)

  -- and some
  pub past : (k a : ℕ) → a + k ≤ m → ((block : ℕ) → a ≤ block → block < a + k → begins block ≡ false) → after a ≡ after (a + k)
  past zero a le none = ap after (let e : a ≡ a + 0 = omega arith in e)
  past (suc k) a le none =
      past_one a (omega (arith, le)) (none a (omega arith) (omega arith))
      ∙ past k (a + 1) (omega (arith, le)) (λ block low high. none block (omega (arith, low)) (omega (arith, high)))
      ∙ ap after (let e : a + 1 + k ≡ a + suc k = omega arith in e)

  -- one that begins a run
  first_one : (a : ℕ) → a < m → begins a ≡ true → after a ≡ kept (rect_from rows width lost a ∷ []) ++ after (a + 1)
  first_one a lt e = grind (arith, nat_tests, range_of, one_more)

  -- a block that isn't missing begins none, nor does one after a missing one in its row
  pub lost_none : (block : ℕ) → lost block ≡ false → begins block ≡ false
  lost_none block e = ap (λ x. x && ((block % c == 0) || not (lost (block - 1)))) e

  inner_none : (r block : ℕ) → r * c < block → block < (r + 1) * c → lost (block - 1) ≡ true → begins block ≡ false
  inner_none r block low high e = grind (arith, nat_tests, in_row, and-false)

  -- ---- a run

  -- blocks p to q of block row r are a run
  pub record Piece (r p q : ℕ) : Type 0 where
    pub low : r * c ≤ p
    pub order : p ≤ q
    pub high : q < (r + 1) * c
    pub missing : AreAll lost true p (q + 1)
    pub begins_it : begins p ≡ true
    pub ends : (q + 1 ≡ (r + 1) * c) ⊎ (lost (q + 1) ≡ false)
    pub within : q < m

  run_is : (r p q : ℕ) → Piece r p q → run_length c lost p ≡ q + 1 - p
  run_is r p q x = grind (arith, nat_tests, in_row, next_row, prefix_least, prefix_most, prefix_ends)

  piece : (r p q : ℕ) → Piece r p q → after p ≡ kept (reach_of rows width r (p - r * c) (q - r * c) ∷ []) ++ after (q + 1)
  piece r p q x =
      let low = x.low in
      let order = x.order in
      let high = x.high in
      let within = x.within in
      let at = in_row c r p low (omega (arith, order, high)) in
      let run = run_is r p q x in
      let last : p % c + run_length c lost p - 1 ≡ q - r * c = omega (arith, at.1, run, low, order) in
      let rect : rect_from rows width lost p ≡ reach_of rows width r (p - r * c) (q - r * c) =
      ap (λ n. reach_of rows width n (p % c) (p % c + run_length c lost p - 1)) at.0 ∙ ap (λ n. reach_of rows width r n (p % c + run_length c lost p - 1))
      at.1 ∙ ap (reach_of rows width r (p - r * c)) last in
      let inner : after (p + 1) ≡ after (p + 1 + (q - p)) =
      past (q - p) (p + 1) (omega (arith, order, within))
      (λ block from to. inner_none r block (omega (arith, from, low)) (omega (arith, to, order, high))
      (x.missing.at (block - 1) (omega (arith, from)) (omega (arith, to, from, order)))) in
      first_one p (omega (arith, order, within)) x.begins_it
      ∙ ap (λ z. kept (z ∷ []) ++ after (p + 1)) rect
      ∙ ap (λ zs. kept (reach_of rows width r (p - r * c) (q - r * c) ∷ []) ++ zs)
      (inner ∙ ap after (let e : p + 1 + (q - p) ≡ q + 1 = omega (arith, order) in e))

  -- ---- a gap, from one of its block rows on

  -- what is known of a gap
  pub record IsGap (gap : Gap) : Type 0 where
    pub missing : AreAll lost true gap.first (gap.last + 1)
    pub ends : lost (gap.last + 1) ≡ false
    pub within : gap.last < m

  -- its part in block row r begins at block p, and has k block rows after this one
  pub record PartAt (gap : Gap) (k r p : ℕ) : Type 0 where
    pub low : r * c ≤ p
    pub high : p < (r + 1) * c
    pub first : p ≡ max gap.first (r * c)
    pub inside : p ≤ gap.last
    pub begins_it : begins p ≡ true
    pub last : r + k ≡ gap.last / c

  last_low : (gap : Gap) → gap.last / c * c ≤ gap.last
  last_low gap = let e = div-add-mod' gap.last c in omega (arith, e)

  last_high : (gap : Gap) → gap.last < (gap.last / c + 1) * c
  last_high gap = grind (arith, nat_tests, div-add-mod', mod_below, wide, next_row)

  joined_one : (x : Rect) (ys : List Rect) (rest : List Rect) → kept (x ∷ []) ++ (kept ys ++ rest) ≡ kept (x ∷ ys) ++ rest
  joined_one x ys rest = sym (append_assoc (kept (x ∷ [])) (kept ys) rest) ∙ ap (λ zs. zs ++ rest) (sym (one_more (has_pixels rows width x) x (kept ys)))

  part_here : (gap : Gap) (r p q : ℕ) → p ≡ max gap.first (r * c) → q ≡ min gap.last (r * c + c - 1) →
      after p ≡ kept (reach_of rows width r (p - r * c) (q - r * c) ∷ []) ++ after (q + 1) →
      after p ≡ kept (gap_rect rows width gap r ∷ []) ++ after (q + 1)
  part_here gap r p q first last e = grind (arith, nat_tests)

  pub rows_of_gap : (gap : Gap) (k r p : ℕ) → IsGap gap → PartAt gap k r p → after p ≡ kept (map (gap_rect rows width gap) (range_with_len r (suc k)))
      ++ after (gap.last + 1)
  rows_of_gap gap zero r p is at =
      let low = at.low in
      let here : r ≡ gap.last / c = let last = at.last in omega (arith, last) in
      let under : gap.last < (r + 1) * c = subst (λ n. gap.last < (n + 1) * c) (sym here) (last_high gap) in
      let first = at.first in
      let next = next_row r in
      part_here gap r p gap.last first (let e : gap.last ≡ min gap.last (r * c + c - 1) = omega (arith, under, next) in e)
      (piece r p gap.last record {
        low = low;
        order = at.inside;
        high = under;
        missing = record { at = λ block from to. is.missing.at block (omega (arith, from, first)) to };
        begins_it = at.begins_it;
        ends = inr is.ends;
        within = is.within;
      })
  rows_of_gap gap (suc k) r p is at =
      let low = at.low in
      let first = at.first in
      let next = next_row r in
      let later : r + 1 ≤ gap.last / c = let last = at.last in omega (arith, last) in
      let far : (r + 1) * c ≤ gap.last = let a = mul-le-mul_right c later in let b = last_low gap in omega (arith, a, b) in
      let q = r * c + c - 1 in
      let some_c = wide in
      let high = at.high in
      let end : q + 1 ≡ (r + 1) * c = omega (arith, next, some_c) in
      let within = is.within in
      let one = part_here gap r p q first (let e : q ≡ min gap.last (r * c + c - 1) = omega (arith, far, next) in e)
      (piece r p q record {
        low = low;
        order = omega (arith, high, next, some_c);
        high = omega (arith, next, some_c);
        missing = record { at = λ block from to. is.missing.at block (omega (arith, from, first)) (omega (arith, to, far, end)) };
        begins_it = at.begins_it;
        ends = inl end;
        within = omega (arith, far, within, end);
      }) in
      let p' = (r + 1) * c in
      let there : lost p' ≡ true = is.missing.at p' (omega (arith, first, high)) (omega (arith, far)) in
      let over = next_row (r + 1) in
      let column : (p' % c == 0) ≡ true = let e = (in_row c (r + 1) p' (omega arith) (omega (arith, over, some_c))).1 in let none : p' % c ≡ 0 =
      omega (arith, e) in grind (arith, nat_tests) in
      let rest = rows_of_gap gap k (r + 1) p' is record {
        low = omega arith;
        high = omega (arith, over, some_c);
        first = omega (arith, first, high);
        inside = far;
        begins_it = and_from (lost p') ((p' % c == 0) || not (lost (p' - 1))) there (ap (λ b. b || not (lost (p' - 1))) column);
        last = let last = at.last in omega (arith, last);
      } in
      one
      ∙ ap (λ zs. kept (gap_rect rows width gap r ∷ []) ++ zs) (ap after end ∙ rest)
      ∙ joined_one (gap_rect rows width gap r) (map (gap_rect rows width gap) (range_with_len (r + 1) (suc k))) (after (gap.last + 1))

  -- the whole gap
  pub gap_whole : (gap : Gap) → IsGap gap → gap.first ≤ gap.last → begins gap.first ≡ true →
      after gap.first ≡ kept (map (gap_rect rows width gap) (range_with_len (gap.first / c) (gap.last / c + 1 - gap.first / c))) ++ after (gap.last + 1)
  gap_whole gap is order starts =
      let r = gap.first / c in
      let e = div-add-mod' gap.first c in
      let few = mod_below gap.first c wide in
      let next = next_row r in
      let rises : r ≤ gap.last / c = elim (cases_lt (gap.last / c) r) [
        | inl less ↦ let up = last_high gap in let over : (gap.last / c + 1) * c ≤ r * c =
            mul-le-mul_right c (omega (arith, less)) in absurd (omega (arith, up, over, e, order))
        | inr le ↦ le
      ] in
      rows_of_gap gap (gap.last / c - r) r gap.first is record {
        low = omega (arith, e);
        high = omega (arith, e, few, next);
        first = omega (arith, e);
        inside = order;
        begins_it = starts;
        last = omega (arith, rises);
      }
      ∙ ap (λ n. kept (map (gap_rect rows width gap) (range_with_len r n)) ++ after (gap.last + 1))
      (let same : suc (gap.last / c - r) ≡ gap.last / c + 1 - r = omega (arith, rises) in same)
