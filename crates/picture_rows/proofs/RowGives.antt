-- A row of a picture that is made and given.
use Rattle.std.proofs.Common.{◌≡◌, ◌<◌, ◌≤◌, ◌+◌, ◌-◌, ◌*◌, ◌==◌, ℕ, ℤ, Bool, List, [], ◌∷◌, ◌++◌, length, take, map, refl, sym, ap, subst, ◌∙◌, arith}
use Rattle.std.proofs.Common.{⊎_elim, append_assoc, true, false, min, if◌then◌else◌, Result, Ok, Err, IsErr}
use Rattle.std.proofs.lemmas.Bool.{false≢true}
use Rattle.std.proofs.lemmas.Bool.Decides.{nat_tests}
use Rattle.std.specs.List.{range_with_len}
use Rattle.std.proofs.lemmas.List.{append-nil, take-append-le}
use Rattle.std.proofs.Math.Seq.{take-append-add}
use Rattle.std.proofs.lemmas.List.FromFn.{take-map-range_with_len}
use Rattle.port_122.specs.Outside.{Outside, NoRead}
use Rattle.port_122.proofs.Stretches.{since_start, since_out, rose_since}
use Rattle.base_122.specs.Sizes.{block_count}
use Rattle.base_122.specs.declared.geometry.Geometry.{Geometry}
use Rattle.wave_defs.specs.Held.{Agrees, signal}
use Rattle.wave_defs.specs.Pyramid.{Pyramid, rebuilt}
use Rattle.wave_defs.specs.Blocks.{Place}
use Rattle.wave_defs.proofs.BlockLaws.{table_of}
use Rattle.raster_rows.specs.Pixels.{pixel_octets, clamped, raster_octets}
use Rattle.raster_rows.proofs.RasterLaws.{row_pixels, rows_from}
use Rattle.raster_rows.proofs.MadeLaws.{raster_octets-more, rows_from-append}
use Rattle.stream_defs.specs.Picture.{picture_of, whole_with}
use Rattle.stream_defs.specs.Settled.{rows_through}
use Rattle.inverse_strip.specs.declared.strip.StripInverse.{StripInverse}
use Rattle.inverse_strip.specs.Strip.{columns_of, height_of, taken_of, next_of, numbers_of, row_of, FollowStrip}
use Rattle.inverse_strip.specs.Kept.{IsCompletion, HasNext, IsIdle}
use Rattle.picture_rows.specs.Prefixes.{bands_of, rows_of}
use Rattle.picture_rows.specs.Pictures.{PictureState, IsSized, RepresentsTo, Represents}
use Rattle.raster_rows.specs.Gathered.{Adds, GivesPart}
use Rattle.picture_rows.specs.Steps.{RowsContinue, RowsStop, Represented, SameBut, HasGatheredRow, HasNoneLeft, StopsInRow, GivesRow, GivesRows}

-- ---- the first rows as octets

module _ (g : Geometry) (numbers : ℕ → ℕ → ℤ) (n : ℕ) where
  abbrev row_octets : List ℕ
  row_octets = pixel_octets g.depth (row_pixels g.width (whole_with g numbers n))

  -- one row more
  pub prefix-more : n < g.rows → rows_of g numbers (n + 1) ≡ rows_of g numbers n ++ row_octets
  unfolding rows_of
  prefix-more lt =
      let now : min n g.rows ≡ n = omega arith in
      let next : min (n + 1) g.rows ≡ n + 1 = omega arith in
      ap (λ k. raster_octets g.depth k g.width (whole_with g numbers)) next
      ∙ raster_octets-more g.depth n g.width (whole_with g numbers)
      ∙ ap (λ k. raster_octets g.depth k g.width (whole_with g numbers) ++ row_octets) (sym now)

  -- padding rows of the picture aren't given
  pub prefix-same : g.rows ≤ n → rows_of g numbers (n + 1) ≡ rows_of g numbers n
  unfolding rows_of
  prefix-same le =
      let e : min (n + 1) g.rows ≡ min n g.rows = omega arith in
      ap (λ k. raster_octets g.depth k g.width (whole_with g numbers)) e

-- the first rows begin with fewer of them
pub prefix-begins : (g : Geometry) (numbers : ℕ → ℕ → ℤ) (m n : ℕ) → m ≤ n → (more : List ℕ) × (rows_of g numbers n ≡ rows_of g numbers m ++ more)
unfolding rows_of
prefix-begins g numbers m n le =
    let k = min m g.rows in
    let l = min n g.rows - k in
    let image = whole_with g numbers in
    let all : min n g.rows ≡ k + l = omega (arith, le) in
    (rows_from g.depth g.width image (0 + k) l, ap (λ i. raster_octets g.depth i g.width image) all ∙ rows_from-append g.depth g.width image 0 k l)

-- a part of what follows the first rows
pub prefix-part : (g : Geometry) (numbers : ℕ → ℕ → ℤ) (n m all : ℕ) (octets more : List ℕ) → rows_of g numbers all ≡ rows_of g numbers n
    ++ (octets ++ more) → m ≤ length octets →
    (some : ℕ) × (rows_of g numbers n ++ take m octets ≡ take some (rows_of g numbers all))
prefix-part g numbers n m all octets more whole le =
    let before = rows_of g numbers n in (
      length before + m,
      sym (ap (take (length before + m)) whole ∙ take-append-add before (octets ++ more) m ∙ ap (λ zs. before ++ zs)
          (take-append-le m octets more le)),
    )

-- ---- a row's octets

-- the octets of the row that was made are those of the picture
made_octets : (g : Geometry) (numbers : ℕ → ℕ → ℤ) (n columns : ℕ) (row : List ℤ) → columns ≡ block_count g.width → length row ≡ 8 * columns →
    Agrees (8 * columns) (signal row) (rebuilt (bands_of g numbers) (block_count g.rows) columns n) →
    pixel_octets g.depth (map (clamped g.depth g.signed) (take g.width row)) ≡ pixel_octets g.depth (row_pixels g.width (whole_with g numbers n))
unfolding picture_of
made_octets g numbers n columns row wide long made =
    let c = block_count g.width in
    let f = rebuilt (bands_of g numbers) (block_count g.rows) columns n in
    let table : row ≡ map f (range_with_len 0 (length row)) = table_of row f (subst (λ k. Agrees k (signal row) f) (sym long) made) in
    let within : g.width ≤ length row = omega (arith, long, wide) in
    let first : take g.width row ≡ map f (range_with_len 0 g.width) = ap (take g.width) table ∙ take-map-range_with_len f 0 (length row) g.width within in
    ap (λ xs. pixel_octets g.depth (map (clamped g.depth g.signed) xs)) first
    ∙ ap (pixel_octets g.depth) (both (clamped g.depth g.signed) f (range_with_len 0 g.width))
    ∙ ap (λ k. pixel_octets g.depth (map (λ j. clamped g.depth g.signed (rebuilt (bands_of g numbers) (block_count g.rows) k n j))
    (range_with_len 0 g.width))) wide
  where
    both : (h : ℤ → ℤ) (f : ℕ → ℤ) (xs : List ℕ) → map h (map f xs) ≡ map (λ j. h (f j)) xs
    both h f [] = refl
    both h f (x ∷ xs) = ap (λ ys. h (f x) ∷ ys) (both h f xs)

-- ---- steps of the strip

-- one row more was made
pub record RowMade (s t : StripInverse) : Type 0 where
  pub height : height_of t ≡ height_of s
  pub width : columns_of t ≡ columns_of s
  pub taken : taken_of t ≡ taken_of s
  pub next : next_of t ≡ next_of s + 1
  pub could : HasNext (taken_of s) (next_of s) (height_of s)
  pub numbers : (q : Place) → numbers_of t q ≡ numbers_of s q
  pub follows : (p : Pyramid) (r : ℕ) → IsCompletion (taken_of s) (height_of s) r → FollowStrip p r s → FollowStrip p r t
  pub value : (p : Pyramid) (r : ℕ) → IsCompletion (taken_of s) (height_of s) r → FollowStrip p r s →
      Agrees (8 * columns_of s) (signal (row_of t)) (rebuilt p r (columns_of s) (next_of s))

-- none was left to make
pub record NoneMade (s t : StripInverse) : Type 0 where
  pub height : height_of t ≡ height_of s
  pub width : columns_of t ≡ columns_of s
  pub taken : taken_of t ≡ taken_of s
  pub next : next_of t ≡ next_of s
  pub idle : IsIdle (taken_of t) (next_of t) (height_of t)
  pub numbers : (q : Place) → numbers_of t q ≡ numbers_of s q
  pub follows : (p : Pyramid) (r : ℕ) → IsCompletion (taken_of s) (height_of s) r → FollowStrip p r s → FollowStrip p r t

-- the picture with another strip and next row
abbrev pub stepped : PictureState → StripInverse → ℕ → PictureState
stepped p strip next = record p { strip = strip; at = record p.at { next = next } }

completes : (p : PictureState) → IsSized p → IsCompletion (taken_of p.strip) (height_of p.strip) (block_count p.geometry.rows)
completes p sized =
    let rows = sized.rows in
    let taken = sized.taken in
    record { more = omega (arith, rows, taken); whole = λ _. sym sized.height }

-- an image that a strip may have begun, of another strip that took the same block rows
pub completes_before : (s t : StripInverse) (r : ℕ) → taken_of t ≡ taken_of s → height_of t ≡ height_of s → IsCompletion (taken_of t) (height_of t) r →
    IsCompletion (taken_of s) (height_of s) r
completes_before s t r taken height is =
    let more = is.more in
    record { more = omega (arith, more, taken); whole = λ e. is.whole (taken ∙ e ∙ sym height) ∙ height }

sized_on : (p : PictureState) (t : StripInverse) (next : ℕ) → IsSized p → height_of t ≡ height_of p.strip → columns_of t ≡ columns_of p.strip →
    taken_of t ≡ taken_of p.strip → next_of t ≡ next →
    (p.at.row < block_count p.geometry.rows → next ≤ 8 * p.at.row - 21) → IsSized (stepped p t next)
sized_on p t next sized height width taken given most = record {
  range = sized.range;
  columns = width ∙ sized.columns;
  height = height ∙ sized.height;
  taken = taken ∙ sized.taken;
  next = given;
  rows = sized.rows;
  column = sized.column;
  none = sized.none;
  next_most = most;
}

valid_on : (p : PictureState) (t : StripInverse) (next columns : ℕ) (numbers : ℕ → ℕ → ℤ) →
    ((r : ℕ) → IsCompletion (taken_of t) (height_of t) r → FollowStrip (bands_of p.geometry numbers) r t) →
    ((q : Place) → numbers_of t q ≡ numbers_of p.strip q) → RepresentsTo columns numbers p → RepresentsTo columns numbers (stepped p t next)
valid_on p t next columns numbers strip same valid = record {
  strip = strip;
  set = λ column i lt small. same _ ∙ valid.set column i lt small;
  unset = λ column i le lt small. same _ ∙ valid.unset column i le lt small;
}

pub same_but : (p : PictureState) (t : StripInverse) (next : ℕ) → SameBut p (stepped p t next)
same_but p t next = record { geometry = refl; row = refl; column = refl }

module _ (p : PictureState) (t : StripInverse) (sized : IsSized p) (made : RowMade p.strip t) where
  could_next : HasNext p.at.row p.at.next (block_count p.geometry.rows)
  could_next = subst (λ h. HasNext p.at.row p.at.next h) sized.height
      (subst (λ n. HasNext p.at.row n (height_of p.strip)) sized.next (subst (λ k. HasNext k (next_of p.strip) (height_of p.strip)) sized.taken made.could))

  most_next : p.at.row < block_count p.geometry.rows → p.at.next + 1 ≤ 8 * p.at.row - 21
  most_next lt = ⊎_elim (λ (few : _). omega (arith, few)) (λ (whole : _). absurd (omega (arith, whole.0, lt))) could_next.made

  sized_next : IsSized (stepped p t (p.at.next + 1))
  sized_next = sized_on p t (p.at.next + 1) sized made.height made.width made.taken (made.next ∙ ap (λ n. n + 1) sized.next) most_next

  -- it is one of the rows that the block rows so far determine
  next_through : p.at.next < p.geometry.rows → p.at.next + 1 ≤ rows_through p.geometry p.at.row
  next_through lt = by (p.at.row == block_count p.geometry.rows) refl
    where
      by : (b : Bool) → (p.at.row == block_count p.geometry.rows) ≡ b → p.at.next + 1 ≤ (if b then p.geometry.rows else 8 * p.at.row - 21)
      by true e = omega (arith, lt)
      by false e =
          let other : p.at.row ≡ block_count p.geometry.rows → ⊥ = λ all. (let hit : (p.at.row == block_count p.geometry.rows) ≡ true =
          grind (arith, nat_tests) in absurd (let both : true ≡ false = sym hit ∙ e in cc)) in
          let within = sized.rows in
          most_next (omega (arith, other, within))

  follows_next : (numbers : ℕ → ℕ → ℤ) → Represents numbers p → Represents numbers (stepped p t (p.at.next + 1))
  follows_next numbers valid =
      valid_on p t (p.at.next + 1) p.at.column numbers
      (λ r is. let before = completes_before p.strip t r made.taken made.height is in made.follows _ r before (valid.strip r before)) made.numbers valid

  -- the octets of the row
  octets_next : length (row_of t) ≡ 8 * columns_of t → (numbers : ℕ → ℕ → ℤ) → Represents numbers p →
      pixel_octets p.geometry.depth (map (clamped p.geometry.depth p.geometry.signed) (take p.geometry.width (row_of t)))
      ≡ pixel_octets p.geometry.depth (row_pixels p.geometry.width (whole_with p.geometry numbers p.at.next))
  octets_next long numbers valid =
      let value = made.value _ _ (completes p sized) (valid.strip _ (completes p sized)) in
      let at : Agrees (8 * columns_of p.strip) (signal (row_of t)) (rebuilt (bands_of p.geometry numbers) (block_count p.geometry.rows) (columns_of p.strip)
      p.at.next) =
      subst (λ n. Agrees (8 * columns_of p.strip) (signal (row_of t)) (rebuilt (bands_of p.geometry numbers) (block_count p.geometry.rows)
      (columns_of p.strip) n)) sized.next value in
      made_octets p.geometry numbers p.at.next (columns_of p.strip) (row_of t) sized.columns (long ∙ ap (λ n. 8 * n) made.width) at

  -- a row of the picture was added
  pub row_added : length (row_of t) ≡ 8 * columns_of t → (a b : Outside) (before after : List ℕ) → p.at.next < p.geometry.rows →
      Adds a b before after (pixel_octets p.geometry.depth (map (clamped p.geometry.depth p.geometry.signed) (take p.geometry.width (row_of t)))) →
      HasGatheredRow a b before after p (stepped p t (p.at.next + 1))
  row_added long a b before after lt adds = record {
    sized = sized_next;
    same = same_but p t (p.at.next + 1);
    could = could_next;
    next = refl;
    goes = record {
      octets = _;
      adds = adds;
      follows = follows_next;
      given = λ numbers valid. ap (λ zs. rows_of p.geometry numbers p.at.next ++ zs) (octets_next long numbers valid)
          ∙ sym (prefix-more p.geometry numbers p.at.next lt);
    };
  }

  -- a padding row of the picture wasn't
  pub row_made : (a : Outside) (before : List ℕ) → p.geometry.rows ≤ p.at.next → HasGatheredRow a a before before p (stepped p t (p.at.next + 1))
  row_made a before le = record {
    sized = sized_next;
    same = same_but p t (p.at.next + 1);
    could = could_next;
    next = refl;
    goes = record {
      octets = [];
      adds = record { gave = []; out = since_start a NoRead; all = sym (append-nil before) };
      follows = follows_next;
      given = λ numbers valid. append-nil (rows_of p.geometry numbers p.at.next) ∙ sym (prefix-same p.geometry numbers p.at.next le);
    };
  }

  -- a part of what waited and of a row of the picture was given
  pub row_broken : length (row_of t) ≡ 8 * columns_of t → (a b : Outside) (before : List ℕ) → p.at.next < p.geometry.rows →
      GivesPart a b (before ++ pixel_octets p.geometry.depth (map (clamped p.geometry.depth p.geometry.signed) (take p.geometry.width (row_of t)))) →
      StopsInRow (Represented p) p.at.row a b before p
  row_broken long a b before lt gives = record {
    octets = _;
    gives = gives;
    given = λ numbers valid.
        let g = p.geometry in
        let later = prefix-begins g numbers (p.at.next + 1) (rows_through g p.at.row) (next_through lt) in (
          later.0,
          later.1 ∙ ap (λ zs. zs ++ later.0) (prefix-more g numbers p.at.next lt) ∙ append_assoc (rows_of g numbers p.at.next)
              (row_octets g numbers p.at.next) later.0
              ∙ ap (λ zs. rows_of g numbers p.at.next ++ (zs ++ later.0)) (sym (octets_next long numbers valid)),
        );
  }

pub row_failed : {E : Type 0} {a b : Outside} {before : List ℕ} {p : PictureState} (after : List ℕ) (q : PictureState) (r : Result Bool E) → IsErr r →
    StopsInRow (Represented p) p.at.row a b before p → GivesRow r a b before after p q
row_failed after q (Ok x) is broken = absurd (false≢true is)
row_failed after q (Err e) is broken = broken

pub rows_failed : {T E : Type 0} {a b : Outside} {p : PictureState} (q : PictureState) (r : Result T E) → IsErr r →
    RowsStop (Represented p) p.at.row a b p → GivesRows r a b p q
rows_failed q (Ok x) is broken = absurd (false≢true is)
rows_failed q (Err e) is broken = broken

-- none was left
pub row_none : (p : PictureState) (t : StripInverse) → IsSized p → NoneMade p.strip t → HasNoneLeft p (stepped p t p.at.next)
row_none p t sized none = record {
  current = record {
    sized = sized_on p t p.at.next sized none.height none.width none.taken (none.next ∙ sized.next) sized.next_most;
    next_settled = λ lt.
        let waits = none.idle.next_waits (omega (arith, lt, none.taken, none.height, sized.taken, sized.height)) in
        let most = sized.next_most lt in
        omega (arith, waits, most, none.taken, none.next, sized.taken, sized.next);
    all_made = λ e.
        let all = none.idle.all_given (none.taken ∙ sized.taken ∙ e ∙ sym (none.height ∙ sized.height)) in
        omega (arith, all, none.taken, none.next, sized.taken, sized.next);
  };
  same = same_but p t p.at.next;
  next = refl;
  follows = λ numbers valid.
      valid_on p t p.at.next p.at.column numbers
      (λ r is. let before = completes_before p.strip t r none.taken none.height is in none.follows _ r before (valid.strip r before)) none.numbers valid;
}

-- ---- one stretch after another

-- the rows are continued by rows, and then by more of them
pub goes_then : {B C : (ℕ → ℕ → ℤ) → Type 0} {a b c : Outside} {x y z : PictureState} → y.geometry ≡ x.geometry →
    ((numbers : ℕ → ℕ → ℤ) → B numbers → Represents numbers y → C numbers) →
    RowsContinue B a b x y → RowsContinue C b c y z → RowsContinue B a c x z
goes_then {B = B} {C = C} {a = a} {b = b} {c = c} {x = x} {y = y} {z = z} same f u v = record {
  gave = u.gave ++ v.gave;
  out = since_out u.out v.out;
  follows = λ numbers before. v.follows numbers (f numbers before (u.follows numbers before));
  given = λ numbers before.
      let later = v.given numbers (f numbers before (u.follows numbers before)) in
      let there : rows_of x.geometry numbers y.at.next ++ v.gave ≡ rows_of x.geometry numbers z.at.next =
      subst (λ g. rows_of g numbers y.at.next ++ v.gave ≡ rows_of g numbers z.at.next) same later in
      sym (append_assoc (rows_of x.geometry numbers x.at.next) u.gave v.gave) ∙ ap (λ zs. zs ++ v.gave) (u.given numbers before) ∙ there;
}

-- the rows are continued by rows, and then a write fails
pub breaks_then : {B C : (ℕ → ℕ → ℤ) → Type 0} {r : ℕ} {a b c : Outside} {x y : PictureState} → y.geometry ≡ x.geometry →
    ((numbers : ℕ → ℕ → ℤ) → B numbers → Represents numbers y → C numbers) →
    RowsContinue B a b x y → RowsStop C r b c y → RowsStop B r a c x
breaks_then {B = B} {C = C} {r = r} {a = a} {b = b} {c = c} {x = x} {y = y} same f u v = record {
  gave = u.gave ++ v.gave;
  out = since_out u.out v.out;
  rose = rose_since u.out.faults.writes v.rose;
  given = λ numbers before.
      let later = v.given numbers (f numbers before (u.follows numbers before)) in
      let there : rows_of x.geometry numbers y.at.next ++ v.gave ≡ take later.0 (rows_of x.geometry numbers (rows_through x.geometry r)) =
      subst (λ (g : Geometry). rows_of g numbers y.at.next ++ v.gave ≡ take later.0 (rows_of g numbers (rows_through g r))) same later.1 in
      (later.0, sym (append_assoc (rows_of x.geometry numbers x.at.next) u.gave v.gave) ∙ ap (λ zs. zs ++ v.gave) (u.given numbers before) ∙ there);
}

pub same_then : {x y z : PictureState} → SameBut x y → SameBut y z → SameBut x z
same_then a b = record {
  geometry = b.geometry ∙ a.geometry;
  row = b.row ∙ a.row;
  column = b.column ∙ a.column;
}
