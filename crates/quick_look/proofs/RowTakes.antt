-- A row of a look that takes a block.
use Rattle.std.proofs.Common.{◌≡◌, ◌≤◌, ◌<◌, ◌+◌, ◌*◌, ◌/◌, ◌%◌, ℕ, zero, suc, ℤ, pos, List, [], ◌∷◌, ◌++◌, length, take, map, set, get_or, refl, sym, ap}
use Rattle.std.proofs.Common.{subst, ◌∙◌, inl, inr, arith, Option, None, Result, Ok, Err, MatchResult, vec_len, append-nil, get_or-set_other}
use Rattle.std.specs.List.{range_with_len}
use Rattle.std.proofs.lemmas.Bool.{cases_lt}
use Rattle.std.proofs.lemmas.Grind.{get_or-set_at}
use Rattle.std.proofs.lemmas.List.FromFn.{take-map-range_with_len}
use Rattle.std.proofs.lemmas.Nat.{div-add-mod', div-mul-add, mod-mul-add, mod_below}
use Rattle.std.proofs.Math.Seq.{take-append-add}
use Rattle.port_122.specs.Outside.{Outside, NoRead, WritesAll}
use Rattle.port_122.proofs.Stretches.{since_start}
use Rattle.base_122.specs.Sizes.{block_count}
use Rattle.base_122.specs.declared.geometry.Geometry.{Geometry}
use Rattle.wave_defs.proofs.BlockLaws.{table_of}
use Rattle.raster_rows.specs.Pixels.{IsDepth, clamped, pixel_octets}
use Rattle.raster_rows.proofs.RasterLaws.{row_pixels}
use Rattle.raster_rows.proofs.MadeLaws.{raster_octets-more}
use Rattle.strip_decoder.specs.Sinks.{Blocks, Takes, Fails, EndsImage, numbers_in}
use Rattle.quick_look.specs.declared.row.LookRow.{LookRow}
use Rattle.quick_look.specs.Look.{low_with, look_with}
use Rattle.quick_look.specs.LookSinks.{IsValidAt, ShowsLook, first_rows, look_sink, low_of}

-- the value at the next block was set, and the next column is this one
pub record HasSet (value : ℤ) (next : ℕ) (s t : LookRow) : Type 0 where
  pub depth : t.depth ≡ s.depth
  pub signed : t.signed ≡ s.signed
  pub shift : t.shift ≡ s.shift
  pub columns : t.columns ≡ s.columns
  pub column : t.column ≡ next
  pub values : t.values.items ≡ set s.values.items s.column value
  pub wide : vec_len t.values ≡ vec_len s.values

module _ (s t : LookRow) (value : ℤ) (column : ℕ) (block : Option (List ℤ)) (gives : value ≡ low_of s.shift block) (g : Geometry) (n : ℕ)
    (valid : IsValidAt s g n) (is_set : HasSet value column s t) where
  abbrev c : ℕ
  c = block_count g.width

  abbrev r : ℕ
  r = n / c

  abbrev m : ℕ
  m = n % c

  some : 0 < c
  some = let inside = valid.is_open.column in omega (arith, inside, valid.columns)

  small : m < c
  small = mod_below n c some

  at : r * c + m ≡ n
  at = div-add-mod' n c

  valid_next : (k : ℕ) → k < c → column ≡ (n + 1) % c → column ≡ k → IsValidAt t g (n + 1)
  valid_next k few e is = record {
    is_open = record {
      depth = subst IsDepth (sym is_set.depth) valid.is_open.depth;
      shift = let low = valid.is_open.shift in omega (arith, low, is_set.shift);
      column = omega (arith, is_set.column, is_set.columns, valid.columns, is, few);
      wide = is_set.wide ∙ valid.is_open.wide ∙ sym is_set.columns;
    };
    depth = is_set.depth ∙ valid.depth;
    signed = is_set.signed ∙ valid.signed;
    shift = is_set.shift ∙ valid.shift;
    columns = is_set.columns ∙ valid.columns;
    column = is_set.column ∙ e;
  }

  module _ (blocks : Blocks) (before : List ℕ) (shows : ShowsLook s g blocks n before) (is : blocks n ≡ block) where
    abbrev numbers : ℕ → ℕ → ℤ
    numbers = numbers_in blocks

    -- its value is that of the look
    value_is : value ≡ low_with g numbers r m
    unfolding low_with
    value_is = gives ∙ ap (λ k. low_of k block) valid.shift ∙ ap (low_of (get_or g.weights.shifts 9 0)) (sym is)
        ∙ ap (λ n. low_of (get_or g.weights.shifts 9 0) (blocks n)) (sym at)

    -- and those before it are unchanged
    values_are : (j : ℕ) → j < m + 1 → get_or t.values.items j (pos 0) ≡ low_with g numbers r j
    values_are j lt =
        let here : get_or t.values.items j (pos 0) ≡ get_or (set s.values.items s.column value) j (pos 0) = ap (λ xs. get_or xs j (pos 0)) is_set.values in
        here ∙ (elim (cases_lt j m) [
          | inl less ↦ get_or-set_other s.values.items s.column j value (pos 0) (λ e. omega (arith, e, less, valid.column)) ∙ shows.values j less
          | inr last ↦
              let same : j ≡ m = omega (arith, lt, last) in
              let inside = valid.is_open.column in
              let wide = valid.is_open.wide in
              get_or-set_at s.values.items s.column j value (pos 0) (same ∙ sym valid.column) (omega (arith, inside, wide)) ∙ value_is
              ∙ ap (low_with g numbers r) (sym same)
        ])

    -- a whole row
    row_octets : m + 1 ≡ c → pixel_octets t.depth (map (clamped t.depth t.signed) (take t.columns t.values.items)) ≡ pixel_octets g.depth
        (row_pixels c (look_with g numbers r))
    row_octets last =
        let xs : List ℤ = t.values.items in
        let f = low_with g numbers r in
        let long : length xs ≡ c = sym t.values.ok.0 ∙ is_set.wide ∙ valid.is_open.wide ∙ valid.columns in
        let table : xs ≡ map f (range_with_len 0 (length xs)) = table_of xs f (record { at = λ j lt. values_are j (omega (arith, lt, long, last)) }) in
        let first : take c xs ≡ map f (range_with_len 0 c) = ap (take c) table ∙ take-map-range_with_len f 0 (length xs) c (omega (arith, long)) in
        ap (λ d. pixel_octets d (map (clamped d t.signed) (take t.columns xs))) (is_set.depth ∙ valid.depth)
        ∙ ap (λ b. pixel_octets g.depth (map (clamped g.depth b) (take t.columns xs))) (is_set.signed ∙ valid.signed)
        ∙ ap (λ n. pixel_octets g.depth (map (clamped g.depth g.signed) (take n xs))) (is_set.columns ∙ valid.columns)
        ∙ ap (λ ys. pixel_octets g.depth (map (clamped g.depth g.signed) ys)) first
        ∙ ap (pixel_octets g.depth) (both (clamped g.depth g.signed) f (range_with_len 0 c))
      where
        both : (h : ℤ → ℤ) (f : ℕ → ℤ) (xs : List ℕ) → map h (map f xs) ≡ map (λ j. h (f j)) xs
        both h f [] = refl
        both h f (x ∷ xs) = ap (λ ys. h (f x) ∷ ys) (both h f xs)

    -- the look with that row
    rows_then : m + 1 ≡ c → before ++ pixel_octets t.depth (map (clamped t.depth t.signed) (take t.columns t.values.items)) ≡ first_rows g blocks (r + 1)
    rows_then last =
        ap (λ zs. before ++ zs) (row_octets last) ∙ ap (λ zs. zs ++ pixel_octets g.depth (row_pixels c (look_with g numbers r))) shows.gave_is
        ∙ sym (raster_octets-more g.depth r c (look_with g numbers))

  -- ---- the block row isn't whole yet

  next_row : m + 1 < c → (n + 1) / c ≡ r
  next_row few = let e : n + 1 ≡ r * c + (m + 1) = omega (arith, at) in ap (λ n. n / c) e ∙ div-mul-add r c (m + 1) few

  next_column : m + 1 < c → (n + 1) % c ≡ m + 1
  next_column few = let e : n + 1 ≡ r * c + (m + 1) = omega (arith, at) in ap (λ n. n % c) e ∙ mod-mul-add r c (m + 1) few

  pub value_taken : (a : Outside) → column ≡ s.column + 1 → s.column + 1 < s.columns → Takes look_sink g n block a a s t
  value_taken a goes lt =
      let few : m + 1 < c = omega (arith, lt, valid.columns, valid.column) in
      let there : column ≡ m + 1 = omega (arith, goes, valid.column) in
      record {
        gave = [];
        out = since_start a NoRead;
        valid = valid_next (m + 1) few (there ∙ sym (next_column few)) there;
        follows = λ blocks before shows is. record {
          gave_is = append-nil before ∙ shows.gave_is ∙ ap (first_rows g blocks) (sym (next_row few));
          values = λ j inside.
              values_are blocks before shows is j (omega (arith, inside, next_column few)) ∙ ap (λ r. low_with g (numbers_in blocks) r j) (sym (next_row few));
        };
      }

  -- ---- it is whole

  whole_row : m + 1 ≡ c → (n + 1) / c ≡ r + 1
  whole_row last =
      let more : (r + 1) * c ≡ r * c + c = grind arith in
      let e : n + 1 ≡ (r + 1) * c + 0 = omega (arith, at, last, more) in
      ap (λ n. n / c) e ∙ div-mul-add (r + 1) c 0 some

  whole_column : m + 1 ≡ c → (n + 1) % c ≡ 0
  whole_column last =
      let more : (r + 1) * c ≡ r * c + c = grind arith in
      let e : n + 1 ≡ (r + 1) * c + 0 = omega (arith, at, last, more) in
      ap (λ n. n % c) e ∙ mod-mul-add (r + 1) c 0 some

  pub row_taken : {T E : Type 0} (result : Result T E) (a b : Outside) → column ≡ 0 → s.columns ≤ s.column + 1 →
      WritesAll result a b (pixel_octets t.depth (map (clamped t.depth t.signed) (take t.columns t.values.items))) →
      MatchResult result (λ _. Takes look_sink g n block a b s t) (λ _. Fails look_sink g n block a b s)
  row_taken (Ok x) a b none le out =
      let last : m + 1 ≡ c = omega (arith, le, small, valid.columns, valid.column) in
      record {
        gave = _;
        out = out;
        valid = valid_next 0 some (none ∙ sym (whole_column last)) none;
        follows = λ blocks before shows is. record {
          gave_is = rows_then blocks before shows is last ∙ ap (first_rows g blocks) (sym (whole_row last));
          values = λ j inside. absurd (omega (arith, inside, whole_column last));
        };
      }
  row_taken (Err e) a b none le out =
      let last : m + 1 ≡ c = omega (arith, le, small, valid.columns, valid.column) in
      let octets : List ℕ = pixel_octets t.depth (map (clamped t.depth t.signed) (take t.columns t.values.items)) in
      let k = out.1.0 in
      record {
        gave = take k octets;
        out = out.1.2;
        rose = out.0;
        part = λ blocks before shows is. record {
          some = length before + k;
          gave_is = sym (take-append-add before octets k) ∙ ap (take (length before + k)) (rows_then blocks before shows is last ∙ ap (first_rows g blocks)
              (sym (whole_row last)));
        };
      }

-- ---- a missing block

pub none_gives : (shift : ℕ) → shift ≤ 3 → pos 0 ≡ low_of shift None
none_gives zero low = refl
none_gives (suc zero) low = refl
none_gives (suc (suc zero)) low = refl
none_gives (suc (suc (suc zero))) low = refl
none_gives (suc (suc (suc (suc k)))) low = absurd (omega (arith, low))

-- ---- no block was taken

-- ---- the height becomes known

pub row_ends : (s : LookRow) (h : Geometry) → EndsImage look_sink h s s
unfolding low_with
row_ends s h g n valid ends = record {
  valid = subst (λ k. IsValidAt s k n) (sym ends.same)
      (record {
        is_open = valid.is_open;
        depth = valid.depth;
        signed = valid.signed;
        shift = valid.shift;
        columns = valid.columns;
        column =
            valid.column;
      });
  follows = λ blocks gave shows. subst (λ k. ShowsLook s k blocks n gave) (sym ends.same) (record { gave_is = shows.gave_is; values = shows.values });
}
