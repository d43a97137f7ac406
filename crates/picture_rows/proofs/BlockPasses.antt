-- A block of a picture that is passed.
use Rattle.std.proofs.Common.{◌≡◌, ◌<◌, ◌≤◌, ◌+◌, ◌*◌, ◌/◌, ◌*ℤ◌, ℕ, ℤ, pos, List, [], ◌++◌, take, get_or, refl, sym, ap, subst, ◌∙◌, arith, inl, inr}
use Rattle.std.proofs.Common.{Result, Ok, Err, append-nil}
use Rattle.std.proofs.lemmas.Bool.{cases_lt}
use Rattle.std.proofs.lemmas.Nat.{div-mul-add}
use Rattle.port_122.specs.Outside.{Outside, NoRead}
use Rattle.port_122.proofs.Stretches.{since_start}
use Rattle.base_122.specs.Sizes.{block_count, padded_size}
use Rattle.base_122.specs.declared.geometry.Geometry.{Geometry}
use Rattle.wave_defs.specs.Pyramid.{Pyramid}
use Rattle.wave_defs.specs.Blocks.{Place, place_of, block_side, weight_at}
use Rattle.wave_defs.proofs.BlockLaws.{place_of-is_place}
use Rattle.stream_defs.specs.Settled.{rows_through, block_rows_before}
use Rattle.block_families.specs.Places.{place_in, Scatters}
use Rattle.inverse_strip.specs.declared.strip.StripInverse.{StripInverse}
use Rattle.inverse_strip.specs.Kept.{IsCompletion}
use Rattle.inverse_strip.specs.Strip.{columns_of, height_of, taken_of, next_of, numbers_of, FollowStrip, IsNext, Keeps}
use Rattle.inverse_strip.proofs.NextLemmas.{IsNext-blocks}
use Rattle.picture_rows.specs.declared.picture.PictureAt.{PictureAt}
use Rattle.picture_rows.specs.Prefixes.{bands_of, rows_of}
use Rattle.picture_rows.specs.Pictures.{PictureState, IsSized, IsPictureCurrent, Represents, HasRoom, passed_in}
use Rattle.picture_rows.specs.Steps.{RowsContinue, RowsStop, Represented, HasNone, HasNextSet, HasNextNumbers, HasPutBlock, PassesBlock, GivesRows}
use Rattle.picture_rows.proofs.BandBlocks.{part_is, zero_is}
use Rattle.stream_defs.proofs.BandPlaces.{coefficient_with}
use Rattle.picture_rows.proofs.RowGives.{completes_before, goes_then, breaks_then}

-- ---- past one block

-- the next block is in a block row of the picture
pub row_there : (p : PictureState) → IsSized p → HasRoom p → p.at.row < block_count p.geometry.rows
row_there p sized room = elim (cases_lt p.at.row (block_count p.geometry.rows)) [
  | inl lt ↦ lt
  | inr ge ↦ absurd (
      let all : p.at.row ≡ block_count p.geometry.rows = omega (arith, ge, sized.rows) in
      let none = sized.none all in
      let most : block_count p.geometry.width * block_count p.geometry.rows ≡ p.at.row * block_count p.geometry.width = rw all grind arith in
      omega (arith, most, room, none))
]

-- the picture at another column
abbrev pub at_column : PictureState → ℕ → PictureState
at_column p column = record p { at = record p.at { column = column } }

-- the columns of blocks as the code has them
pub columns_are : (g : Geometry) (n : ℕ) → n ≡ padded_size g.width → {k : ℕ} → k < n / 8 → k < block_count g.width
columns_are g n e lt = omega (arith, e, lt)

pub columns_end : (g : Geometry) (n : ℕ) → n ≡ padded_size g.width → {k : ℕ} → n / 8 ≤ k → block_count g.width ≤ k
columns_end g n e le = omega (arith, e, le)

-- within its block row
pub column_passed : (p : PictureState) (a : Outside) → IsPictureCurrent p → HasRoom p → p.at.column + 1 < block_count p.geometry.width →
    HasPutBlock (HasNextSet p) a a p (at_column p (p.at.column + 1))
column_passed p a current room lt =
    let sized = current.sized in
    let inside = row_there p sized room in
    record {
      current = record {
        sized = record {
          range = sized.range;
          columns = sized.columns;
          height = sized.height;
          taken = sized.taken;
          next = sized.next;
          rows = sized.rows;
          column = lt;
          none = λ e. absurd (omega (arith, e, inside));
          next_most = sized.next_most;
        };
        next_settled = current.next_settled;
        all_made = current.all_made;
      };
      geometry = refl;
      count = omega arith;
      goes = record {
        gave = [];
        out = since_start a NoRead;
        follows = λ numbers set. record { strip = set.strip; set = set.set; unset = set.unset };
        given = λ numbers set. append-nil (rows_of p.geometry numbers p.at.next);
      };
    }

-- ---- a whole block row

-- a strip took the block row whose numbers were set
pub record RowTaken (s t : StripInverse) : Type 0 where
  pub height : height_of t ≡ height_of s
  pub width : columns_of t ≡ columns_of s
  pub taken : taken_of t ≡ taken_of s + 1
  pub next : next_of t ≡ next_of s
  pub zero : (q : Place) → numbers_of t q ≡ pos 0
  pub follows : (p : Pyramid) (r : ℕ) → FollowStrip p r s → IsNext p (taken_of s) s → FollowStrip p r t

-- the picture after its block row
abbrev pub past_row : PictureState → StripInverse → PictureState
past_row p strip = record p { strip = strip; at = record p.at { column = 0; row = p.at.row + 1 } }

module _ (p : PictureState) (t : StripInverse) (current : IsPictureCurrent p) (room : HasRoom p) (last : block_count p.geometry.width ≤ p.at.column + 1)
    (pushed : RowTaken p.strip t) where
  full : p.at.column + 1 ≡ block_count p.geometry.width
  full = let column = current.sized.column in omega (arith, column, last)

  -- an image that may continue from it may continue from the block row before
  completes : (r : ℕ) → IsCompletion (taken_of t) (height_of t) r → IsCompletion (taken_of p.strip) (height_of p.strip) r
  completes r is =
      let sized = current.sized in
      let inside = row_there p sized room in
      let more = is.more in
      record { more = omega (arith, more, pushed.taken); whole = λ e. absurd (omega (arith, e, sized.taken, sized.height, inside)) }

  row_valid : (numbers : ℕ → ℕ → ℤ) → HasNextSet p numbers → Represents numbers (past_row p t)
  row_valid numbers set =
      let sized = current.sized in
      let bands = bands_of p.geometry numbers in
      let next : IsNext bands p.at.row p.strip = IsNext-blocks bands p.at.row p.strip
      (λ column i lt small. set.set column i (omega (arith, lt, p.strip.next_wide, sized.columns, full)) small) in
      record {
        strip = λ r is. pushed.follows bands r (set.strip r (completes r is)) (subst (λ n. IsNext bands n p.strip) (sym sized.taken) next);
        set = λ column i lt small. absurd (omega (arith, lt));
        unset = λ column i le lt small. pushed.zero _;
      }

  row_goes : (a : Outside) → RowsContinue (HasNextSet p) a a p (past_row p t)
  row_goes a = record {
    gave = [];
    out = since_start a NoRead;
    follows = row_valid;
    given = λ numbers set. append-nil (rows_of p.geometry numbers p.at.next);
  }

  -- and the rows were given that its block row determines
  pub row_passed : (a b : Outside) (z : PictureState) → HasNone a b (past_row p t) z → HasPutBlock (HasNextSet p) a b p z
  row_passed a b z rows =
      let same = rows.same in
      let geometry = same.geometry in
      let passed : passed_in z ≡ (p.at.row + 1) * block_count p.geometry.width + 0 =
      ap (λ (g : Geometry). z.at.row * block_count g.width + z.at.column) geometry ∙ ap (λ n. n * block_count p.geometry.width + z.at.column) same.row
      ∙ ap (λ n. (p.at.row + 1) * block_count p.geometry.width + n) same.column in
      let more : (p.at.row + 1) * block_count p.geometry.width ≡ p.at.row * block_count p.geometry.width + block_count p.geometry.width = grind arith in
      record {
        current = rows.current;
        geometry = geometry;
        count = omega (arith, passed, more, full);
        goes = goes_then refl (λ numbers before valid. valid) (row_goes a) rows.goes;
      }

  -- those are the whole block rows after its last block
  rows_whole : p.at.row + 1 ≡ block_rows_before p.geometry (passed_in p + 1)
  rows_whole =
      let c = block_count p.geometry.width in
      let more : (p.at.row + 1) * c ≡ p.at.row * c + c = grind arith in
      let count : (p.at.row + 1) * c + 0 ≡ passed_in p + 1 = omega (arith, more, full) in
      let column = current.sized.column in
      sym (div-mul-add (p.at.row + 1) c 0 (omega (arith, column))) ∙ ap (λ n. n / c) count

  pub row_broke : (a b : Outside) → RowsStop (Represented (past_row p t)) (p.at.row + 1) a b (past_row p t) →
      RowsStop (HasNextSet p) (block_rows_before p.geometry (passed_in p + 1)) a b p
  row_broke a b broken = subst (λ r. RowsStop (HasNextSet p) r a b p) rows_whole (breaks_then refl (λ numbers before valid. valid) (row_goes a) broken)

  pub rows_passed : {T E : Type 0} (r : Result T E) (a b : Outside) (z : PictureState) → GivesRows r a b (past_row p t) z → PassesBlock r (HasNextSet p) a b p z
  rows_passed (Ok x) a b z rows = row_passed a b z rows
  rows_passed (Err e) a b z broken = row_broke a b broken

-- ---- a block whose numbers are known

-- the rows that the block rows after the next block determine
abbrev through : Geometry → PictureAt → ℕ
through g at = rows_through g (block_rows_before g (at.row * block_count g.width + at.column + 1))

-- so they are set
passes_set : {T E : Type 0} {B C : (ℕ → ℕ → ℤ) → Type 0} (r : Result T E) (p q z : PictureState) (a b : Outside) → q.geometry ≡ p.geometry → q.at ≡ p.at →
    ((numbers : ℕ → ℕ → ℤ) → B numbers → C numbers) → PassesBlock r C a b q z → PassesBlock r B a b p z
passes_set {B = B} {C = C} (Ok x) p q z a b same at f passed = record {
  current = passed.current;
  geometry = passed.geometry ∙ same;
  count = passed.count ∙ ap (λ (h : Geometry). q.at.row * block_count h.width + q.at.column + 1) same
      ∙ ap (λ (x : PictureAt). x.row * block_count p.geometry.width + x.column + 1) at;
  goes = record {
    gave = passed.goes.gave;
    out = passed.goes.out;
    follows = λ numbers known. passed.goes.follows numbers (f numbers known);
    given = λ numbers known.
        subst (λ (x : PictureAt). rows_of p.geometry numbers x.next ++ passed.goes.gave ≡ rows_of p.geometry numbers z.at.next) at
        (subst (λ g. rows_of g numbers q.at.next ++ passed.goes.gave ≡ rows_of g numbers z.at.next) same (passed.goes.given numbers (f numbers known)));
  };
}
passes_set {B = B} {C = C} (Err e) p q z a b same at f broken = record {
  gave = broken.gave;
  out = broken.out;
  rose = broken.rose;
  given = λ numbers known.
      let there = broken.given numbers (f numbers known) in (
        there.0,
        subst (λ (x : PictureAt). rows_of p.geometry numbers x.next ++ broken.gave ≡ take there.0 (rows_of p.geometry numbers (through p.geometry x))) at
            (subst (λ (g : Geometry). rows_of g numbers q.at.next ++ broken.gave ≡ take there.0 (rows_of g numbers (through g q.at))) same there.1),
      );
}

-- ---- a lost block

-- a block whose numbers are 0 was set
pub zero_set : (p : PictureState) → IsPictureCurrent p → (numbers : ℕ → ℕ → ℤ) → HasNextNumbers [] p numbers → HasNextSet p numbers
zero_set p current numbers lost =
    let g = p.geometry in
    let valid = lost.valid in
    let column_in = current.sized.column in
    record {
      strip = valid.strip;
      set = λ column i lt small. elim (cases_lt column p.at.column) [
        | inl before ↦ valid.set column i before small
        | inr from ↦
            let here : column ≡ p.at.column = omega (arith, lt, from) in
            let none : numbers (p.at.row * block_count g.width + column) i ≡ pos 0 = ap (λ n. numbers n i) (omega (arith, here)) ∙ lost.next i small in
            valid.unset column i from (omega (arith, here, column_in)) small
            ∙ zero_is g.weights.shifts i (numbers (p.at.row * block_count g.width + column) i) current.sized.range.weights none
            ∙ sym (coefficient_with numbers (block_count g.width) g.weights.shifts p.at.row column i small)
      ];
      unset = λ column i le lt small. valid.unset column i (omega (arith, le)) lt small;
    }

pub block_loses : {T E : Type 0} (r : Result T E) (p z : PictureState) (a b : Outside) → IsPictureCurrent p → PassesBlock r (HasNextSet p) a b p z →
    PassesBlock r (HasNextNumbers [] p) a b p z
block_loses r p z a b current passed = passes_set r p p z a b refl refl (zero_set p current) passed

-- ---- a block that was put

-- two blocks of a block row have no place in common
apart : (c d i j : ℕ) → i < 64 → j < 64 → place_in c i ≡ place_in d j → c ≡ d
apart c d i j hi hj same =
    let p = place_of i in
    let q = place_of j in
    let band : p.band ≡ q.band = ap (λ (x : Place). x.band) same in
    let side : block_side p.band ≡ block_side q.band = ap block_side band in
    let columns : block_side p.band * c + p.column ≡ block_side q.band * d + q.column = ap (λ (x : Place). x.column) same in
    let across : (n k : ℕ) → n * k ≡ k * n = λ n k. grind arith in
    let first : c ≡ (block_side p.band * c + p.column) / block_side p.band =
    sym (ap (λ n. (n + p.column) / block_side p.band) (across (block_side p.band) c) ∙ div-mul-add c (block_side p.band) p.column
    (place_of-is_place i hi).column) in
    let second : (block_side q.band * d + q.column) / block_side q.band ≡ d =
    ap (λ n. (n + q.column) / block_side q.band) (across (block_side q.band) d) ∙ div-mul-add d (block_side q.band) q.column (place_of-is_place j hj).column in
    first ∙ ap (λ n. n / block_side p.band) columns ∙ ap (λ n. (block_side q.band * d + q.column) / n) side ∙ second

-- the picture with another strip
abbrev pub with_strip : PictureState → StripInverse → PictureState
with_strip p strip = record p { strip = strip }

module _ (p : PictureState) (t : StripInverse) (xs : List ℤ) (current : IsPictureCurrent p) (room : HasRoom p) (keeps : Keeps p.strip t)
    (scattered : Scatters (numbers_of p.strip) (numbers_of t) p.geometry.weights.shifts p.at.column xs) where
  -- another block has the numbers that it had
  stays : (column i : ℕ) → i < 64 → (column ≡ p.at.column → ⊥) → numbers_of t (place_in column i) ≡ numbers_of p.strip (place_in column i)
  stays column i small other = scattered.others (place_in column i) (λ j lt same. other (apart column p.at.column i j small lt same))

  pub block_set : (numbers : ℕ → ℕ → ℤ) → HasNextNumbers xs p numbers → HasNextSet (with_strip p t) numbers
  block_set numbers held =
      let g = p.geometry in
      let valid = held.valid in
      record {
        strip = λ r is. keeps.follows _ _ (valid.strip r (completes_before p.strip t r keeps.taken keeps.height is));
        set = λ column i lt small. elim (cases_lt column p.at.column) [
          | inl before ↦ stays column i small (λ e. absurd (omega (arith, e, before))) ∙ valid.set column i before small
          | inr from ↦
              let here : column ≡ p.at.column = omega (arith, lt, from) in
              let at : p.at.row * block_count g.width + column ≡ passed_in p = omega (arith, here) in
              let value : numbers (p.at.row * block_count g.width + column) i ≡ get_or xs i (pos 0) =
              ap (λ n. numbers n i) at ∙ held.next i small in
              let whole : numbers_of t (place_in column i) *ℤ weight_at g.weights.shifts i ≡ numbers (p.at.row * block_count g.width + column) i =
              ap (λ n. numbers_of t (place_in n i) *ℤ weight_at g.weights.shifts i) here ∙ scattered.block i small ∙ sym value in
              part_is g.weights.shifts i (numbers_of t (place_in column i)) (numbers (p.at.row * block_count g.width + column) i)
              current.sized.range.weights whole
              ∙ sym (coefficient_with numbers (block_count g.width) g.weights.shifts p.at.row column i small)
        ];
        unset = λ column i le lt small. stays column i small (λ e. absurd (omega (arith, e, le))) ∙ valid.unset column i (omega (arith, le)) lt small;
      }

  pub block_puts : {T E : Type 0} (r : Result T E) (a b : Outside) (z : PictureState) → PassesBlock r (HasNextSet (with_strip p t)) a b (with_strip p t) z →
      PassesBlock r (HasNextNumbers xs p) a b p z
  block_puts r a b z passed = passes_set r p (with_strip p t) z a b refl refl block_set passed
