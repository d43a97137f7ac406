-- The rectangles have exactly the pixels that missing blocks reach.
use Rattle.std.proofs.Common.{◌≡◌, ◌≤◌, ◌<◌, ◌+◌, ◌-◌, ◌*◌, ◌/◌, ◌%◌, ℕ, Bool, true, false, List, sym, ap, subst, ◌∙◌, refl, arith, ℤ, ◌==◌, ◌&&◌, ◌||◌}
use Rattle.std.proofs.Common.{not, nat_le, nat_lt, min, Option, mul-le-mul_right}
use Rattle.std.specs.List.{range_with_len, list_any}
use Rattle.std.proofs.lemmas.Bool.{false≢true, and_from, leb-true, le-leb, lt-ltb}
use Rattle.std.proofs.lemmas.Nat.{div-add-mod', mod_below, div_below}
use Rattle.std.proofs.lemmas.Bool.Decides.{nat_tests}
use Rattle.base_122.specs.Sizes.{block_count}
use Rattle.base_122.specs.declared.geometry.Geometry.{Geometry}
use Rattle.wave_defs.specs.Reach.{reaches}
use Rattle.stream_defs.specs.Begun.{block_rows, height}
use Rattle.stream_defs.specs.Damage.{damage, is_covered, is_damaged, is_missing, missing_rows}
use Rattle.stream_defs.proofs.DamageLaws.{whole_damage}
use Rattle.quick_look.specs.declared.rect.Rect.{Rect}
use Rattle.quick_look.specs.Rects.{begins_run, run_length, reach_of, rect_from, has_pixels, rects_before, rects_of, rects, is_lost}
use Rattle.quick_look.specs.RectLaws.{has_pixel, has_some, is_reached}
use Rattle.quick_look.proofs.RectTests.{and_first, and_second, same_tests, any_map, any_filter, Hit, any_some, any_hit, prefix_least, prefix_most, prefix_all}
use Rattle.quick_look.proofs.RectRuns.{in_row, run_of, run_long}
use Rattle.stream_defs.proofs.Equations.{missing_below-is}

-- ---- the reach of columns c to d of block row r

-- a pixel in it, as inequalities
record IsIn (r c d i j : ℕ) : Type 0 where
  row_low : 8 * r ≤ i + 21
  row_high : i ≤ 8 * r + 29
  column_low : 8 * c ≤ j + 21
  column_high : j ≤ 8 * d + 29

is_in : (rows width r c d i j : ℕ) → has_pixel i j (reach_of rows width r c d) ≡ true → IsIn r c d i j
is_in rows width r c d i j e =
    let rect = reach_of rows width r c d in
    let up = nat_le rect.first_row i in
    let down = nat_le i rect.last_row in
    let left = nat_le rect.first_column j in
    let right = nat_le j rect.last_column in
    let rows_are = and_first (up && down) (left && right) e in
    let columns_are = and_second (up && down) (left && right) e in
    let a = leb-true rect.first_row i (and_first up down rows_are) in
    let b = leb-true i rect.last_row (and_second up down rows_are) in
    let x = leb-true rect.first_column j (and_first left right columns_are) in
    let y = leb-true j rect.last_column (and_second left right columns_are) in
    record { row_low = omega (arith, a); row_high = omega (arith, b); column_low = omega (arith, x); column_high = omega (arith, y) }

put_in : (rows width r c d i j : ℕ) → i < rows → j < width → c ≤ d → IsIn r c d i j →
    (has_pixels rows width (reach_of rows width r c d) && has_pixel i j (reach_of rows width r c d)) ≡ true
put_in rows width r c d i j inside across rising is = grind (arith, nat_tests, and_from, lt-ltb, le-leb)

-- a column among c to d that reaches a pixel in it
record Nearest (c d j : ℕ) : Type 0 where
  past : ℕ
  within : c + past ≤ d
  low : 8 * (c + past) ≤ j + 21
  high : j ≤ 8 * (c + past) + 29

nearest : (c d j : ℕ) → c ≤ d → 8 * c ≤ j + 21 → j ≤ 8 * d + 29 → Nearest c d j
nearest c d j rising low high = record {
  past = min (j / 8 - c) (d - c);
  within = omega (arith, rising);
  low = omega (arith, rising, low);
  high = omega (arith, rising, high);
}

reaches_by : (b i : ℕ) → 8 * b ≤ i + 21 → i ≤ 8 * b + 29 → reaches b i ≡ true
reaches_by b i low high = and_from (nat_le (8 * b) (i + 21)) (nat_le i (8 * b + 29)) (le-leb (8 * b) (i + 21) low) (le-leb i (8 * b + 29) high)

reaches_low : (b i : ℕ) → reaches b i ≡ true → 8 * b ≤ i + 21
reaches_low b i e = leb-true (8 * b) (i + 21) (and_first (nat_le (8 * b) (i + 21)) (nat_le i (8 * b + 29)) e)

reaches_high : (b i : ℕ) → reaches b i ≡ true → i ≤ 8 * b + 29
reaches_high b i e = leb-true i (8 * b + 29) (and_second (nat_le (8 * b) (i + 21)) (nat_le i (8 * b + 29)) e)

reaches_same : (a b i : ℕ) → a ≡ b → reaches b i ≡ true → reaches a i ≡ true
reaches_same a b i same e = ap (λ n. reaches n i) same ∙ e

module _ (rows width block_rows : ℕ) (lost : ℕ → Bool) (i j : ℕ) (inside : i < rows) (across : j < width) where
  abbrev columns : ℕ
  columns = block_count width

  abbrev rect : ℕ → Rect
  rect block = rect_from rows width lost block

  -- a run begins whose rectangle has the pixel
  abbrev is_chosen : ℕ → Bool
  is_chosen block = begins_run columns lost block && (has_pixels rows width (rect block) && has_pixel i j (rect block))

  abbrev reaches_it : ℕ → Bool
  reaches_it block = lost block && (reaches (block / columns) i && reaches (block % columns) j)

  flat : has_some (rects_of rows width block_rows lost) i j ≡ list_any is_chosen (range_with_len 0 (block_rows * columns))
  unfolding rects_before
  flat = grind (arith, nat_tests, any_filter, any_map)

  some : 0 < columns
  some = omega (arith, across)

  -- a block of a run whose rectangle has the pixel reaches it
  there : Hit is_chosen 0 (block_rows * columns) → list_any reaches_it (range_with_len 0 (block_rows * columns)) ≡ true
  there h =
      let b = h.place in
      let r = b / columns in
      let c = b % columns in
      let m = run_length columns lost b in
      let starts = and_first (begins_run columns lost b) (has_pixels rows width (rect b) && has_pixel i j (rect b)) h.passes in
      let e = and_first (lost b) ((b % columns == 0) || not (lost (b - 1))) starts in
      let pixel = and_second (has_pixels rows width (rect b)) (has_pixel i j (rect b))
      (and_second (begins_run columns lost b) (has_pixels rows width (rect b) && has_pixel i j (rect b)) h.passes) in
      let few : c < columns = mod_below b columns some in
      let one : 1 ≤ m = prefix_least lost b (columns - c) 1 (omega (arith, few)) (λ k low high. let same : k ≡ b =
      omega (arith, low, high) in ap lost same ∙ e) in
      let most : m ≤ columns - c = prefix_most lost b (columns - c) in
      let is = is_in rows width r c (c + m - 1) i j pixel in
      let near = nearest c (c + m - 1) j (omega (arith, one)) is.column_low is.column_high in
      let u = near.past in
      let whole : r * columns + c ≡ b = div-add-mod' b columns in
      let at = in_row columns b (b + u) (c + u) (omega (arith, near.within, most, few, one)) (omega arith) in
      let low : r < block_rows = div_below b columns block_rows some (omega (arith, h.most)) in
      let next : (r + 1) * columns ≤ block_rows * columns = mul-le-mul_right columns (omega (arith, low)) in
      let more : (r + 1) * columns ≡ r * columns + columns = grind arith in
      any_hit reaches_it 0 (block_rows * columns) (b + u) (omega arith) (omega (arith, next, more, whole, near.within, most, few, one))
      (and_from (lost (b + u)) (reaches ((b + u) / columns) i && reaches ((b + u) % columns) j)
      (prefix_all lost b (columns - c) u (omega (arith, near.within, one)))
      (and_from (reaches ((b + u) / columns) i) (reaches ((b + u) % columns) j)
      (reaches_same ((b + u) / columns) r i at.row (reaches_by r i is.row_low is.row_high))
      (reaches_same ((b + u) % columns) (c + u) j at.column_is (reaches_by (c + u) j near.low near.high))))

  -- and if a missing block reaches it, the rectangle of its run has it
  back : Hit reaches_it 0 (block_rows * columns) → list_any is_chosen (range_with_len 0 (block_rows * columns)) ≡ true
  back h =
      let b = h.place in
      let r = b / columns in
      let s = b % columns in
      let e = and_first (lost b) (reaches r i && reaches s j) h.passes in
      let two = and_second (lost b) (reaches r i && reaches s j) h.passes in
      let row = and_first (reaches r i) (reaches s j) two in
      let column = and_second (reaches r i) (reaches s j) two in
      let few : s < columns = mod_below b columns some in
      let run = run_of columns lost s b some refl e in
      let a = run.first in
      let c = s + a - b in
      let at = in_row columns b a c (omega (arith, run.least, run.most, few)) (omega (arith, run.least, run.most)) in
      let m = run_length columns lost a in
      let long : b < a + m = run_long columns lost b some run at in
      let is : IsIn (a / columns) (a % columns) (a % columns + m - 1) i j = record {
        row_low = subst (λ n. 8 * n ≤ i + 21) (sym at.row) (reaches_low r i row);
        row_high = subst (λ n. i ≤ 8 * n + 29) (sym at.row) (reaches_high r i row);
        column_low = omega (arith, at.column_is, reaches_low s j column, run.most);
        column_high = omega (arith, at.column_is, reaches_high s j column, run.most, run.least, long);
      } in
      any_hit is_chosen 0 (block_rows * columns) a (omega arith) (omega (arith, run.most, h.most))
      (and_from (begins_run columns lost a) (has_pixels rows width (rect a) && has_pixel i j (rect a)) run.begins
      (put_in rows width (a / columns) (a % columns) (a % columns + m - 1) i j inside across (omega (arith, long, run.most)) is))

  pub covers : has_some (rects_of rows width block_rows lost) i j ≡ is_reached block_rows columns lost i j
  covers = grind (arith, nat_tests, flat, same_tests, there, any_some, back)

-- ---- and the damaged rows

module _ (g : Geometry) (received : ℕ → Option (List (List ℤ))) (n i j : ℕ) (inside : i < height g n) (across : j < g.width) where
  abbrev width_in : ℕ
  width_in = block_count g.width

  abbrev height_in : ℕ
  height_in = block_rows g n

  abbrev lost_reaches : ℕ → Bool
  lost_reaches block = is_lost g received block && (reaches (block / width_in) i && reaches (block % width_in) j)

  -- a missing block's row is damaged if the block reaches it
  damaged : Hit lost_reaches 0 (height_in * width_in) → is_damaged (height g n) (missing_rows g received n) i ≡ true
  damaged h =
      let b = h.place in
      let t = b / width_in in
      let s = b % width_in in
      let wide : 0 < width_in = omega (arith, across) in
      let e = and_first (is_lost g received b) (reaches t i && reaches s j) h.passes in
      let row = and_first (reaches t i) (reaches s j) (and_second (is_lost g received b) (reaches t i && reaches s j) h.passes) in
      let whole : t * width_in + s ≡ b = div-add-mod' b width_in in
      let low : t < height_in = div_below b width_in height_in wide (omega (arith, h.most)) in
      let missing : is_missing g received t ≡ true = any_hit (λ column. is_lost g received (t * width_in + column)) 0 width_in s (omega arith)
      (omega (arith, mod_below b width_in wide)) (ap (is_lost g received) whole ∙ e) in
      and_from (nat_lt i (height g n)) (list_any (λ r. reaches r i) (missing_rows g received n)) (lt-ltb i (height g n) inside)
      (ap (list_any (λ r. reaches r i)) (missing_below-is g received height_in)
      ∙ any_filter (λ r. reaches r i) (is_missing g received) (range_with_len 0 height_in)
      ∙ any_hit (λ r. is_missing g received r && reaches r i) 0 height_in t (omega arith) (omega (arith, low))
      (and_from (is_missing g received t) (reaches t i) missing row))

  pub undamaged : is_covered (damage g received n) i ≡ false → has_some (rects g received n) i j ≡ false
  undamaged e = covers (height g n) g.width height_in (is_lost g received) i j inside across ∙ by (is_reached height_in width_in (is_lost g received) i j) refl
    where
      none : is_damaged (height g n) (missing_rows g received n) i ≡ false
      none = sym ((whole_damage (height g n) (missing_rows g received n)).0.each i) ∙ e

      by : (b : Bool) → is_reached height_in width_in (is_lost g received) i j ≡ b → b ≡ false
      by false f = refl
      by true f = absurd (false≢true (sym none ∙ damaged (any_some lost_reaches 0 (height_in * width_in) f)))
