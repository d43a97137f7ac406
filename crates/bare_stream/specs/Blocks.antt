-- The effect of a call that gives the blocks of a segment to a picture. (This project's own.)
use Rattle.std.specs.Prelude.{◌≡◌, ◌<◌, ◌+◌, ℕ, ℤ, pos, List, slice_index_or, Result, MatchResult}
use Rattle.port_122.specs.Outside.{Outside}
use Rattle.wave_defs.specs.Held.{block_at}
use Rattle.block_families.specs.Places.{AreWeighted}
use Rattle.stream_defs.specs.Settled.{block_rows_before}
use Rattle.picture_rows.specs.Pictures.{PictureState, IsPictureCurrent, Represents, passed_in}
use Rattle.picture_rows.specs.Steps.{RowsContinue, RowsStop}

-- the next n blocks have these numbers, 64 each
pub record HasNextBlocks (cells : List ℤ) (n : ℕ) (p : PictureState) (numbers : ℕ → ℕ → ℤ) : Type 0 where
  pub valid : Represents numbers p
  pub next : (k i : ℕ) → k < n → i < 64 → numbers (passed_in p + k) i ≡ slice_index_or (block_at cells k) i (pos 0)

-- the numbers of the first n blocks are multiples of their weights
pub record AreParts (cells : List ℤ) (n : ℕ) (weights : List ℕ) : Type 0 where
  pub at : (k : ℕ) → k < n → AreWeighted (block_at cells k) weights

-- the next n blocks were passed, and the rows that they complete are given
pub record HasPutBlocks (cells : List ℤ) (n : ℕ) (p q : Outside) (old new : PictureState) : Type 0 where
  pub current : IsPictureCurrent new
  pub geometry : new.geometry ≡ old.geometry
  pub count : passed_in new ≡ passed_in old + n
  pub goes : RowsContinue (HasNextBlocks cells n old) p q old new

abbrev pub PutsBlocks : {T E : Type 0} → Result T E → (cells : List ℤ) → (n : ℕ) → (p q : Outside) (old new : PictureState) → Type 0
PutsBlocks result cells n p q old new = MatchResult result
    (λ _. HasPutBlocks cells n p q old new)
    (λ _. RowsStop (HasNextBlocks cells n old) (block_rows_before old.geometry (passed_in old + n)) p q old)
