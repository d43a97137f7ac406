-- The effect of the steps of a picture. This project's own.
use Rattle.std.specs.Prelude.{◌≡◌, ◌<◌, ◌+◌, ℕ, ℤ, pos, List, ◌++◌, [], Bool, true, false, Result, Ok, Err, MatchResult, slice_index_or, take}
use Rattle.port_122.specs.Outside.{Outside, Exchange, NoRead, Rose}
use Rattle.base_122.specs.Sizes.{block_count}
use Rattle.base_122.specs.declared.geometry.Geometry.{Geometry}
use Rattle.raster_rows.specs.Gathered.{depth_of, is_signed, width_of, Adds, GivesPart}
use Rattle.raster_rows.specs.declared.gathered.GatheredRows.{GatheredRows}
use Rattle.stream_defs.specs.Settled.{rows_through, block_rows_before}
use Rattle.inverse_strip.specs.Kept.{HasNext}
use Rattle.picture_rows.specs.Prefixes.{rows_of}
use Rattle.picture_rows.specs.Pictures.{PictureState, IsSized, IsPictureCurrent, RepresentsTo, Represents, passed_in}

-- ---- rows

-- Some rows were given: for all blocks such that this was so before, the picture represents them, and what was given continues the first
-- rows of their picture to more of them.
pub record RowsContinue (Before : (ℕ → ℕ → ℤ) → Type 0) (p q : Outside) (old new : PictureState) : Type 0 where
  pub gave : List ℕ
  pub out : Exchange p q [] gave [] NoRead
  pub follows : (numbers : ℕ → ℕ → ℤ) → Before numbers → Represents numbers new
  pub given : (numbers : ℕ → ℕ → ℤ) → Before numbers → rows_of old.geometry numbers old.at.next ++ gave ≡ rows_of old.geometry numbers new.at.next

-- a write failed meanwhile, and a prefix is given of the rows of the picture that r whole block rows determine
pub record RowsStop (Before : (ℕ → ℕ → ℤ) → Type 0) (r : ℕ) (p q : Outside) (old : PictureState) : Type 0 where
  pub gave : List ℕ
  pub out : Exchange p q [] gave [] NoRead
  pub rose : Rose p.write_faults q.write_faults
  pub given : (numbers : ℕ → ℕ → ℤ) → Before numbers →
      (some : ℕ) × (rows_of old.geometry numbers old.at.next ++ gave ≡ take some (rows_of old.geometry numbers (rows_through old.geometry r)))

abbrev pub Represented : PictureState → (ℕ → ℕ → ℤ) → Type 0
Represented p numbers = Represents numbers p

-- all except the strip and the next row is unchanged
pub record SameBut (old new : PictureState) : Type 0 where
  pub geometry : new.geometry ≡ old.geometry
  pub row : new.at.row ≡ old.at.row
  pub column : new.at.column ≡ old.at.column

-- Some rows were made, and their octets were added to those that waited: for all blocks such that this was so before, the picture
-- represents them, and the octets continue the first rows of their picture to more of them.
pub record GathersRows (Before : (ℕ → ℕ → ℤ) → Type 0) (p q : Outside) (before after : List ℕ) (old new : PictureState) : Type 0 where
  pub octets : List ℕ
  pub adds : Adds p q before after octets
  pub follows : (numbers : ℕ → ℕ → ℤ) → Before numbers → Represents numbers new
  pub given : (numbers : ℕ → ℕ → ℤ) → Before numbers → rows_of old.geometry numbers old.at.next ++ octets ≡ rows_of old.geometry numbers new.at.next

-- the rows that wait have the form of the picture's
pub record IsFor (g : Geometry) (rows : GatheredRows) : Type 0 where
  pub depth : depth_of rows ≡ g.depth
  pub signed : is_signed rows ≡ g.signed
  pub width : width_of rows ≡ g.width

-- the next row was made
pub record HasGatheredRow (p q : Outside) (before after : List ℕ) (old new : PictureState) : Type 0 where
  pub sized : IsSized new
  pub same : SameBut old new
  pub could : HasNext old.at.row old.at.next (block_count old.geometry.rows)
  pub next : new.at.next ≡ old.at.next + 1
  pub goes : GathersRows (Represented old) p q before after old new

-- none is left to make before the next block row
pub record HasNoneLeft (old new : PictureState) : Type 0 where
  pub current : IsPictureCurrent new
  pub same : SameBut old new
  pub next : new.at.next ≡ old.at.next
  pub follows : (numbers : ℕ → ℕ → ℤ) → Represents numbers old → Represents numbers new

-- A write failed, and a prefix is given of what waited and of the octets of the next row, which is one of those that r block rows determine.
pub record StopsInRow (Before : (ℕ → ℕ → ℤ) → Type 0) (r : ℕ) (p q : Outside) (before : List ℕ) (old : PictureState) : Type 0 where
  pub octets : List ℕ
  pub gives : GivesPart p q (before ++ octets)
  pub given : (numbers : ℕ → ℕ → ℤ) → Before numbers →
      (more : List ℕ) × (rows_of old.geometry numbers (rows_through old.geometry r) ≡ rows_of old.geometry numbers old.at.next ++ (octets ++ more))

abbrev pub GivesRow : {E : Type 0} → Result Bool E → (p q : Outside) (before after : List ℕ) (old new : PictureState) → Type 0
GivesRow (Ok true) p q before after old new = HasGatheredRow p q before after old new
GivesRow (Ok false) p q before after old new = (q ≡ p) × (after ≡ before) × HasNoneLeft old new
GivesRow (Err e) p q before after old new = StopsInRow (Represented old) old.at.row p q before old

-- some were made
pub record HasGatheredSome (p q : Outside) (waiting : List ℕ) (old new : PictureState) : Type 0 where
  pub sized : IsSized new
  pub same : SameBut old new
  pub goes : GathersRows (Represented old) p q [] waiting old new

-- all rows were given that can be made before the next block row
pub record HasNone (p q : Outside) (old new : PictureState) : Type 0 where
  pub current : IsPictureCurrent new
  pub same : SameBut old new
  pub goes : RowsContinue (Represented old) p q old new

abbrev pub GivesRows : {T E : Type 0} → Result T E → (p q : Outside) (old new : PictureState) → Type 0
GivesRows result p q old new = MatchResult result (λ _. HasNone p q old new) (λ _. RowsStop (Represented old) old.at.row p q old)

-- ---- blocks

-- the next block of the block row that is set next is set
abbrev pub HasNextSet : PictureState → (ℕ → ℕ → ℤ) → Type 0
HasNextSet p numbers = RepresentsTo (p.at.column + 1) numbers p

-- the next block has these numbers, and zeros after them
pub record HasNextNumbers (xs : List ℤ) (p : PictureState) (numbers : ℕ → ℕ → ℤ) : Type 0 where
  pub valid : Represents numbers p
  pub next : (i : ℕ) → i < 64 → numbers (passed_in p) i ≡ slice_index_or xs i (pos 0)

-- the next block was passed, and the rows that it completes were given
pub record HasPutBlock (Before : (ℕ → ℕ → ℤ) → Type 0) (p q : Outside) (old new : PictureState) : Type 0 where
  pub current : IsPictureCurrent new
  pub geometry : new.geometry ≡ old.geometry
  pub count : passed_in new ≡ passed_in old + 1
  pub goes : RowsContinue Before p q old new

abbrev pub PassesBlock : {T E : Type 0} → Result T E → ((ℕ → ℕ → ℤ) → Type 0) → (p q : Outside) (old new : PictureState) → Type 0
PassesBlock result Before p q old new = MatchResult result (λ _. HasPutBlock Before p q old new)
    (λ _. RowsStop Before (block_rows_before old.geometry (passed_in old + 1)) p q old)

-- ---- the height

-- The image has this number of rows now, and all else is unchanged: the rows that were given are the first ones of the image of either
-- height.
pub record HasHeight (rows : ℕ) (old new : PictureState) : Type 0 where
  pub current : IsPictureCurrent new
  pub geometry : new.geometry ≡ record old.geometry { rows = rows }
  pub at : new.at ≡ old.at
  pub follows : (numbers : ℕ → ℕ → ℤ) → Represents numbers old → Represents numbers new
  pub given : (numbers : ℕ → ℕ → ℤ) → rows_of new.geometry numbers new.at.next ≡ rows_of old.geometry numbers old.at.next
