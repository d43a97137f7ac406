-- The rectangles of all gaps are those of the missing blocks.
use Rattle.std.proofs.Common.{◌≡◌, ◌⊎◌, inl, inr, ◌≤◌, ◌<◌, ◌+◌, ◌-◌, ◌*◌, ◌/◌, ℕ, zero, suc, Bool, true, false, List, [], ◌∷◌, ◌++◌, map, refl, sym, ap}
use Rattle.std.proofs.Common.{◌∙◌, arith, ◌&&◌, nat_lt, filter, div-add-mod', append-nil}
use Rattle.std.specs.List.{range_with_len, flat_map}
use Rattle.std.proofs.lemmas.Bool.{cases_lt, or_left, and_from, lt-ltb}
use Rattle.std.proofs.lemmas.Bool.Decides.{nat_tests}
use Rattle.std.proofs.lemmas.List.Elements.{filter-append}
use Rattle.base_122.specs.Sizes.{block_count}
use Rattle.raster_rows.proofs.MadeLaws.{range-append}
use Rattle.quick_look.specs.declared.gap.Gap.{Gap}
use Rattle.quick_look.specs.declared.rect.Rect.{Rect}
use Rattle.quick_look.specs.Rects.{begins_run, rect_from, has_pixels, rects_before, rects_of}
use Rattle.quick_look.specs.Gaps.{AreAll, AreGaps, gap_rects, lost_below}
use Rattle.quick_look.proofs.SameLost.{rects_same}
use Rattle.quick_look.proofs.GapRows.{made, after, past, lost_none, gap_whole}

-- gaps from a block on are before a later one
pub gaps_low : (lost : ℕ → Bool) (a : ℕ) (gaps : List Gap) (e : ℕ) → AreGaps lost a gaps e → a ≤ e
gaps_low lost a [] e are = are.0
gaps_low lost a (gap ∷ gaps) e are =
    let rest = gaps_low lost (gap.last + 2) gaps e are.1 in
    omega (arith, rest, are.0.low, are.0.order)

module _ (rows width : ℕ) (lost : ℕ → Bool) (m : ℕ) (some : 0 < width) where
  abbrev c : ℕ
  c = block_count width

  abbrev from : ℕ → List Rect
  from a = after rows width lost m some a

  -- a gap begins a run
  starts : (a : ℕ) (gap : Gap) → AreAll lost false a gap.first → lost gap.first ≡ true → a ≤ gap.first → (a ≡ 0) ⊎ (lost (a - 1) ≡ false) →
      begins_run c lost gap.first ≡ true
  starts a gap clear here low before = grind (arith, nat_tests, and_from, or_left, div-add-mod')

  all_from : (gaps : List Gap) (a e : ℕ) → AreGaps lost a gaps e → (a ≡ 0) ⊎ (lost (a - 1) ≡ false) → e ≤ m → AreAll lost false e m →
      from a ≡ flat_map (gap_rects rows width) gaps
  all_from [] a e are before le rest =
      let none : (block : ℕ) → a ≤ block → block < a + (m - a) → begins_run c lost block ≡ false =
      (λ block low high. lost_none rows width lost m some block (elim (cases_lt block e) [
        | inl early ↦ are.1.at block low early
        | inr late ↦ rest.at block late (omega (arith, high, low))
      ])) in
      past rows width lost m some (m - a) a (let low = are.0 in omega (arith, low, le)) none
      ∙ ap (λ n. made rows width lost m some (range_with_len (a + (m - a)) n)) (let low = are.0 in let z : m - (a + (m - a)) ≡ 0 = omega (arith, low, le) in z)
  all_from (gap ∷ gaps) a e are before le rest =
      let is = are.0 in
      let low = is.low in
      let order = is.order in
      let further = gaps_low lost (gap.last + 2) gaps e are.1 in
      let here : lost gap.first ≡ true = is.missing.at gap.first (omega arith) (omega (arith, order)) in
      past rows width lost m some (gap.first - a) a (omega (arith, low, order, further, le))
      (λ block early late. lost_none rows width lost m some block (is.before.at block early (omega (arith, late, low))))
      ∙ ap from (let at : a + (gap.first - a) ≡ gap.first = omega (arith, low) in at)
      ∙ gap_whole rows width lost m some gap (record { missing = is.missing; ends = is.ends; within = omega (arith, further, le) }) order
      (starts a gap is.before here low before)
      ∙ ap (λ zs. gap_rects rows width gap ++ zs)
      (past rows width lost m some 1 (gap.last + 1) (omega (arith, further, le))
      (λ block early late. lost_none rows width lost m some block (let at : block ≡ gap.last + 1 = omega (arith, early, late) in ap lost at ∙ is.ends))
      ∙ ap from (let at : gap.last + 1 + 1 ≡ gap.last + 2 = omega arith in at)
      ∙ all_from gaps (gap.last + 2) e are.1 (inr (let at : gap.last + 2 - 1 ≡ gap.last + 1 = omega arith in ap lost at ∙ is.ends)) le rest)

  -- ---- blocks whose runs have no pixel

  made_of : List ℕ → List Rect
  made_of blocks = filter (has_pixels rows width) (map (rect_from rows width lost) blocks)

  -- one more such block
  none_more : (a : ℕ) (rest : List ℕ) → (begins_run c lost a ≡ false) ⊎ (has_pixels rows width (rect_from rows width lost a) ≡ false) →
      made rows width lost m some rest ≡ [] → made rows width lost m some (a ∷ rest) ≡ []
  unfolding made_of
  none_more a rest none later = grind (arith, nat_tests, made_of, made)

  made_none : (n a : ℕ) → ((block : ℕ) → a ≤ block → block < a + n →
      (begins_run c lost block ≡ false) ⊎ (has_pixels rows width (rect_from rows width lost block) ≡ false)) →
      made rows width lost m some (range_with_len a n) ≡ []
  made_none zero a none = refl
  made_none (suc n) a none =
      none_more a (range_with_len (a + 1) n) (none a (omega arith) (omega arith))
      (made_none n (a + 1) (λ block low high. none block (omega (arith, low)) (omega (arith, high))))

  cut : (k n : ℕ) → ((block : ℕ) → k ≤ block → block < k + n →
      (begins_run c lost block ≡ false) ⊎ (has_pixels rows width (rect_from rows width lost block) ≡ false)) →
      made rows width lost m some (range_with_len 0 (k + n)) ≡ made rows width lost m some (range_with_len 0 k)
  cut k n none =
      let prefix = range_with_len 0 k in
      let back = range_with_len (0 + k) n in
      let at : 0 + k ≡ k = omega arith in
      ap (made rows width lost m some) (range-append 0 k n)
      ∙ ap (λ bs. filter (has_pixels rows width) (map (rect_from rows width lost) bs)) (filter-append (begins_run c lost) prefix back)
      ∙ ap (filter (has_pixels rows width)) (map_append (filter (begins_run c lost) prefix) (filter (begins_run c lost) back))
      ∙ filter-append (has_pixels rows width) (map (rect_from rows width lost) (filter (begins_run c lost) prefix))
      (map (rect_from rows width lost) (filter (begins_run c lost) back))
      ∙ ap (λ zs. made rows width lost m some prefix ++ zs) (ap (λ a. made rows width lost m some (range_with_len a n)) at ∙ made_none n k none)
      ∙ append-nil (made rows width lost m some prefix)
    where
      map_append : (xs ys : List ℕ) → map (rect_from rows width lost) (xs ++ ys) ≡ map (rect_from rows width lost) xs ++ map (rect_from rows width lost) ys
      map_append [] ys = refl
      map_append (x ∷ xs) ys = ap (λ zs. rect_from rows width lost x ∷ zs) (map_append xs ys)

-- ---- all

pub gaps_give : (rows width block_rows passed : ℕ) (lost : ℕ → Bool) (gaps : List Gap) → 0 < width → block_rows * block_count width ≤ passed →
    ((block : ℕ) → block_rows * block_count width ≤ block → block < passed → rows ≤ 8 * (block / block_count width) - 21) →
    AreGaps (lost_below passed lost) 0 gaps (passed + 1) → flat_map (gap_rects rows width) gaps ≡ rects_of rows width block_rows lost
unfolding rects_before
gaps_give rows width block_rows passed lost gaps some few unseen are =
    let known = lost_below passed lost in
    let m = passed + 1 in
    let k = block_rows * block_count width in
    let count : k + (m - k) ≡ m = omega (arith, few) in
    sym (all_from rows width known m some gaps 0 m are (inl refl) (omega arith) (record { at = λ block low high. absurd (omega (arith, low, high)) }))
    ∙ ap (λ n. made rows width known m some (range_with_len 0 n)) (let z : m - 0 ≡ k + (m - k) = omega (arith, count) in z)
    ∙ cut rows width known m some k (m - k) (λ block low high. elim (cases_lt block passed) [
      | inl early ↦ inr (below _ (8 * (block / block_count width) - 21) (unseen block low early))
      | inr late ↦ inl (lost_none rows width known m some block (ap (λ b. b && lost block) (let no : nat_lt block passed ≡ false =
          grind (arith, nat_tests) in no)))
    ])
    ∙ rects_same rows width block_rows known lost some (λ block lt. ap (λ b. b && lost block) (lt-ltb block passed (omega (arith, lt, few))))
  where
    below : (y : Bool) (n : ℕ) → rows ≤ n → (nat_lt n rows && y) ≡ false
    below y n le = ap (λ b. b && y) (let no : nat_lt n rows ≡ false = grind (arith, nat_tests) in no)
