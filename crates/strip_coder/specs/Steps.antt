-- The effect of the steps of the encoder.
use Rattle.std.specs.Prelude.{◌≡◌, ◌<◌, ◌≤◌, ◌+◌, ◌-◌, ◌*◌, ◌^◌, ℕ, ℤ, List, [], ◌++◌, length, take, Result, Ok, Err, MatchResult, slice_index_or, Bool}
use Rattle.std.specs.Prelude.{true, false}
use Rattle.port_122.specs.Outside.{Outside, Exchange, NoRead, Rose}
use Rattle.base_122.specs.Sizes.{block_count, padded_size, total_blocks, first_block, segment_blocks}
use Rattle.base_122.specs.Ranges.{IsWithin, rows_range}
use Rattle.base_122.specs.Setting.{sized}
use Rattle.base_122.specs.declared.setting.Setting.{Setting}
use Rattle.strip_coder.specs.Plans.{Job, plan_of, whole, tallest}
use Rattle.wave_defs.specs.Held.{block_at, signal, Agrees}
use Rattle.wave_defs.specs.Pyramid.{padded}
use Rattle.wave_defs.specs.Within.{AllWithin}
use Rattle.wave_strip.specs.Strip.{rows_of, answered_of}
use Rattle.wave_strip.specs.Counts.{settled}
use Rattle.raster_rows.specs.Pixels.{IsPixel}
use Rattle.stream_defs.specs.Output.{image_blocks, segments_of}
use Rattle.strip_coder.specs.declared.work.Work.{Work}
use Rattle.strip_coder.specs.Works.{IsMadeFor, HasGathered, IsRunning, HasTaken, HoldsBlocks, StripFollows, FollowsImage, FollowsRows, gathered_in}
use Rattle.strip_coder.specs.declared.encode.EncodeDone.{EncodeDone}
use Rattle.strip_coder.specs.Answers.{DoneFor}

-- one block was added at a place, and those before it are unchanged
pub record PutsBlock (place : ℕ) (old new numbers : List ℤ) : Type 0 where
  pub before : (i : ℕ) → i < place → block_at new i ≡ block_at old i
  pub here : block_at new place ≡ numbers
  pub long : length new ≡ 64 * (place + 1)

-- n blocks were added from a place on, and those before it are unchanged
pub record PutsBlocks (place n : ℕ) (old new : List ℤ) (numbers : ℕ → List ℤ) : Type 0 where
  pub before : (i : ℕ) → i < place → block_at new i ≡ block_at old i
  pub here : (k : ℕ) → k < n → block_at new (place + k) ≡ numbers k
  pub long : length new ≡ 64 * (place + n)

-- the strip, the row and the rows taken are as before
pub record Stays (old new : Work) : Type 0 where
  pub strip : new.strip ≡ old.strip
  pub row : new.row ≡ old.row
  pub rows : new.at.rows ≡ old.at.rows

-- an image has room for this number of further blocks
abbrev pub HasRoom : Job → ℕ → Work → Type 0
HasRoom s n w = gathered_in s w.at + n ≤ total_blocks s.setting.width s.rows

-- the octets of the first n segments of an image with these blocks
abbrev pub octets_at : Job → List (List ℤ) → (n : ℕ) → List ℕ
octets_at s all n = s.form.octets s.setting s.rows all n

-- The segments of these blocks are given, after those before the first index, up to those before the second.
pub record Continues (s : Job) (all : List (List ℤ)) (from to : ℕ) (p q : Outside) : Type 0 where
  pub gave : List ℕ
  pub out : Exchange p q [] gave [] NoRead
  pub then_are : octets_at s all from ++ gave ≡ octets_at s all to

-- A write failed in one segment, with the segments before an index given: a prefix of their octets is written. This number of blocks of the
-- image were gathered, those of that segment among them.
pub record StopsEarly (s : Job) (all : List (List ℤ)) (from gathered : ℕ) (p q : Outside) : Type 0 where
  pub gave : List ℕ
  pub out : Exchange p q [] gave [] NoRead
  pub index : ℕ
  pub inside : index < segments_of (whole s)
  pub there : first_block s.setting.segment index + segment_blocks (total_blocks s.setting.width s.rows) s.setting.segment index ≤ gathered
  pub some : ℕ
  pub prefix : octets_at s all from ++ gave ≡ take some (octets_at s all (index + 1))

-- these blocks are those of an image, and the next n of them after those gathered are these
pub record NextAre (s : Job) (w : Work) (n : ℕ) (numbers : ℕ → List ℤ) (all : List (List ℤ)) : Type 0 where
  pub whole : length all ≡ total_blocks s.setting.width s.rows
  pub next : (i : ℕ) → i < n → slice_index_or all (gathered_in s w.at + i) [] ≡ numbers i

-- n blocks were gathered, and each segment that became full was written
pub record HasGone (s : Job) (numbers : ℕ → List ℤ) (n : ℕ) (p q : Outside) (old new : Work) : Type 0 where
  pub stays : Stays old new
  pub gathered : HasGathered s new
  pub count : gathered_in s new.at ≡ gathered_in s old.at + n
  pub faults : p.write_faults ≤ q.write_faults
  pub holds : (all : List (List ℤ)) → NextAre s old n numbers all → HoldsBlocks s all old → HoldsBlocks s all new
  pub goes : (all : List (List ℤ)) → NextAre s old n numbers all → HoldsBlocks s all old → Continues s all old.at.index new.at.index p q

-- a write failed meanwhile
pub record HasBroken (s : Job) (numbers : ℕ → List ℤ) (n : ℕ) (p q : Outside) (old new : Work) : Type 0 where
  pub made : IsMadeFor s.setting new
  pub rose : Rose p.write_faults q.write_faults
  pub breaks : (all : List (List ℤ)) → NextAre s old n numbers all → HoldsBlocks s all old → StopsEarly s all old.at.index (gathered_in s old.at + n) p q

abbrev pub Gathers : {T E : Type 0} → Result T E → Job → (ℕ → List ℤ) → ℕ → Outside → Outside → Work → Work → Type 0
Gathers result s numbers n p q old new = MatchResult result
    (λ _. HasGone s numbers n p q old new)
    (λ _. HasBroken s numbers n p q old new)

-- some of the next blocks were gathered, at least one and at most this number
abbrev pub GathersSome : {E : Type 0} → Result ℕ E → Job → (ℕ → List ℤ) → ℕ → Outside → Outside → Work → Work → Type 0
GathersSome result s numbers most p q old new = MatchResult result
    (λ n. (1 ≤ n) × (n ≤ most) × HasGone s numbers n p q old new)
    (λ _. HasBroken s numbers most p q old new)

-- the present segment was written, and none of the next is there yet
pub record PresentOut (s : Job) (p q : Outside) (old new : Work) : Type 0 where
  pub stays : Stays old new
  pub gathered : HasGathered s new
  pub index : new.at.index ≡ old.at.index + 1
  pub filled : new.at.filled ≡ 0
  pub faults : p.write_faults ≤ q.write_faults
  pub holds : (all : List (List ℤ)) → length all ≡ total_blocks s.setting.width s.rows → HoldsBlocks s all old → HoldsBlocks s all new
  pub goes : (all : List (List ℤ)) → length all ≡ total_blocks s.setting.width s.rows → HoldsBlocks s all old → Continues s all old.at.index new.at.index p q

pub record PresentCut (s : Job) (p q : Outside) (old new : Work) : Type 0 where
  pub made : IsMadeFor s.setting new
  pub rose : Rose p.write_faults q.write_faults
  pub breaks : (all : List (List ℤ)) → length all ≡ total_blocks s.setting.width s.rows → HoldsBlocks s all old →
      StopsEarly s all old.at.index (gathered_in s old.at) p q

abbrev pub WritesPresent : {T E : Type 0} → Result T E → Job → Outside → Outside → Work → Work → Type 0
WritesPresent result s p q old new = MatchResult result (λ _. PresentOut s p q old new) (λ _. PresentCut s p q old new)

-- ---- rows

-- each number of the row is at most 2 ^ 16 in magnitude
abbrev pub IsRowSmall : Job → Work → Type 0
IsRowSmall s w = AllWithin (2 ^ 16) (padded_size s.setting.width) (signal w.row.items)

-- the row is the next one that the strip takes of this image
abbrev pub NextRowIs : Job → (ℕ → ℕ → ℤ) → Work → Type 0
NextRowIs s x w = Agrees (padded_size s.setting.width) (signal w.row.items) (padded x s.rows s.setting.width (rows_of w.strip))

-- the row was pushed, and the block row that it completes was gathered
pub record HasPushed (s : Job) (p q : Outside) (old new : Work) : Type 0 where
  pub running : IsRunning s new
  pub strip_rows : rows_of new.strip ≡ rows_of old.strip + 1
  pub row : new.row ≡ old.row
  pub rows : new.at.rows ≡ old.at.rows
  pub faults : p.write_faults ≤ q.write_faults
  pub follows : (x : ℕ → ℕ → ℤ) → FollowsImage s x old → NextRowIs s x old → FollowsImage s x new
  pub strip : (x : ℕ → ℕ → ℤ) (rows : ℕ) → IsWithin rows_range rows → rows_of old.strip < rows → StripFollows (plan_of s.setting rows) x old →
      NextRowIs (plan_of s.setting rows) x old →
      StripFollows (plan_of s.setting rows) x new
  pub goes : (x : ℕ → ℕ → ℤ) → FollowsImage s x old → NextRowIs s x old → Continues s (image_blocks (whole s) x) old.at.index new.at.index p q

-- a write failed meanwhile
pub record HasNotPushed (s : Job) (p q : Outside) (old new : Work) : Type 0 where
  pub made : IsMadeFor s.setting new
  pub rose : Rose p.write_faults q.write_faults
  pub breaks : (x : ℕ → ℕ → ℤ) → FollowsImage s x old → NextRowIs s x old →
      StopsEarly s (image_blocks (whole s) x) old.at.index (block_count s.setting.width * settled (rows_of old.strip + 1)) p q

abbrev pub Pushes : {T E : Type 0} → Result T E → Job → Outside → Outside → Work → Work → Type 0
Pushes result s p q old new = MatchResult result (λ _. HasPushed s p q old new) (λ _. HasNotPushed s p q old new)

-- ---- the engine

-- the first places of the row are pixels in range
pub record IsRowInRange (s : Setting) (row : List ℤ) : Type 0 where
  pub each : (column : ℕ) → column < s.width → IsPixel s.depth s.signed (signal row column)

-- the row is this one of an image
abbrev pub RowIs : Setting → (ℕ → ℕ → ℤ) → ℕ → Work → Type 0
RowIs s x k w = Agrees s.width (signal w.row.items) (x k)

-- the blocks of the tallest image
abbrev pub tall_blocks : Setting → (ℕ → ℕ → ℤ) → List (List ℤ)
tall_blocks s x = image_blocks (sized s (tallest s)) x

-- one more row was taken
pub record TakesRow (s : Setting) (k : ℕ) (p q : Outside) (old new : Work) : Type 0 where
  pub taken : HasTaken (plan_of s (tallest s)) (k + 1) new
  pub row : Agrees s.width (signal new.row.items) (signal old.row.items)
  pub faults : p.write_faults ≤ q.write_faults
  pub follows : (x : ℕ → ℕ → ℤ) → FollowsRows s x old → RowIs s x k old → FollowsRows s x new
  pub goes : (x : ℕ → ℕ → ℤ) → FollowsRows s x old → RowIs s x k old → Continues (plan_of s (tallest s)) (tall_blocks s x) old.at.index new.at.index p q

-- a write failed meanwhile
pub record BreaksAt (s : Setting) (k : ℕ) (p q : Outside) (old new : Work) : Type 0 where
  pub made : IsMadeFor s new
  pub rose : Rose p.write_faults q.write_faults
  pub breaks : (x : ℕ → ℕ → ℤ) → FollowsRows s x old → RowIs s x k old → StopsEarly (plan_of s (tallest s)) (tall_blocks s x) old.at.index
      (block_count s.width * settled (k + 1)) p q

-- all packets of an image with this number of rows are written
pub record EndsImage (s : Setting) (rows : ℕ) (p q : Outside) (old new : Work) (result : EncodeDone) : Type 0 where
  pub made : IsMadeFor s new
  pub faults : p.write_faults ≤ q.write_faults
  pub goes : (x : ℕ → ℕ → ℤ) → FollowsRows s x old → RowIs s x (rows - 1) old →
      Continues (plan_of s rows) (image_blocks (sized s rows) x) old.at.index (segments_of (sized s rows)) p q
  pub done : (x : ℕ → ℕ → ℤ) → FollowsRows s x old → RowIs s x (rows - 1) old → DoneFor s rows x result

-- a write failed meanwhile
pub record EndBreaks (s : Setting) (rows : ℕ) (p q : Outside) (old new : Work) : Type 0 where
  pub made : IsMadeFor s new
  pub rose : Rose p.write_faults q.write_faults
  pub breaks : (x : ℕ → ℕ → ℤ) → FollowsRows s x old → RowIs s x (rows - 1) old →
      StopsEarly (plan_of s rows) (image_blocks (sized s rows) x) old.at.index (total_blocks s.width rows) p q

-- ---- the end of an image

-- the row is the last one of this image
abbrev pub LastRowIs : Job → (ℕ → ℕ → ℤ) → Work → Type 0
LastRowIs s x w = Agrees (padded_size s.setting.width) (signal w.row.items) (padded x s.rows s.setting.width (s.rows - 1))

-- the last row was pushed n times more
pub record HasPushedOn (s : Job) (n : ℕ) (p q : Outside) (old new : Work) : Type 0 where
  pub running : IsRunning s new
  pub strip_rows : rows_of new.strip ≡ rows_of old.strip + n
  pub row : new.row ≡ old.row
  pub faults : p.write_faults ≤ q.write_faults
  pub follows : (x : ℕ → ℕ → ℤ) → FollowsImage s x old → LastRowIs s x old → FollowsImage s x new
  pub goes : (x : ℕ → ℕ → ℤ) → FollowsImage s x old → LastRowIs s x old → Continues s (image_blocks (whole s) x) old.at.index new.at.index p q

-- a write failed meanwhile
pub record HasNotPushedOn (s : Job) (p q : Outside) (old new : Work) : Type 0 where
  pub made : IsMadeFor s.setting new
  pub rose : Rose p.write_faults q.write_faults
  pub breaks : (x : ℕ → ℕ → ℤ) → FollowsImage s x old → LastRowIs s x old →
      StopsEarly s (image_blocks (whole s) x) old.at.index (total_blocks s.setting.width s.rows) p q

-- all segments are given of an image of which all rows were pushed
pub record HasEnded (s : Job) (p q : Outside) (old new : Work) : Type 0 where
  pub made : IsMadeFor s.setting new
  pub faults : p.write_faults ≤ q.write_faults
  pub given : (x : ℕ → ℕ → ℤ) → FollowsImage s x old → LastRowIs s x old →
      s.form.holds s.setting s.rows (image_blocks (whole s) x) new.packets (segments_of (whole s)) new.at.used
  pub goes : (x : ℕ → ℕ → ℤ) → FollowsImage s x old → LastRowIs s x old → Continues s (image_blocks (whole s) x) old.at.index (segments_of (whole s)) p q

abbrev pub PushesOn : {T E : Type 0} → Result T E → Job → ℕ → Outside → Outside → Work → Work → Type 0
PushesOn result s n p q old new = MatchResult result (λ _. HasPushedOn s n p q old new) (λ _. HasNotPushedOn s p q old new)

-- all rows of the padded image were pushed, and the first block rows of it were gathered
pub record IsEnding (s : Job) (w : Work) : Type 0 where
  pub gathered : HasGathered s w
  pub count : gathered_in s w.at ≡ block_count s.setting.width * answered_of w.strip
  pub rows : rows_of w.strip ≡ padded_size s.rows
  pub most : answered_of w.strip ≤ block_count s.rows

-- the next of these was gathered
pub record HasFinished (s : Job) (p q : Outside) (old new : Work) : Type 0 where
  pub ending : IsEnding s new
  pub answered : answered_of new.strip ≡ answered_of old.strip + 1
  pub faults : p.write_faults ≤ q.write_faults
  pub follows : (x : ℕ → ℕ → ℤ) → FollowsImage s x old → FollowsImage s x new
  pub goes : (x : ℕ → ℕ → ℤ) → FollowsImage s x old → Continues s (image_blocks (whole s) x) old.at.index new.at.index p q

-- there is none
pub record HasNoMore (s : Job) (p q : Outside) (old new : Work) : Type 0 where
  pub all : answered_of old.strip ≡ block_count s.rows
  pub still : q ≡ p
  pub at : new.at ≡ old.at
  pub packets : new.packets ≡ old.packets
  pub made : IsMadeFor s.setting new

-- a write failed meanwhile
pub record HasNotFinished (s : Job) (p q : Outside) (old new : Work) : Type 0 where
  pub made : IsMadeFor s.setting new
  pub rose : Rose p.write_faults q.write_faults
  pub breaks : (x : ℕ → ℕ → ℤ) → FollowsImage s x old → StopsEarly s (image_blocks (whole s) x) old.at.index (total_blocks s.setting.width s.rows) p q

abbrev pub Finishes : {E : Type 0} → Result Bool E → Job → Outside → Outside → Work → Work → Type 0
Finishes (Ok true) s p q old new = HasFinished s p q old new
Finishes (Ok false) s p q old new = HasNoMore s p q old new
Finishes (Err e) s p q old new = HasNotFinished s p q old new

-- some of these were gathered
pub record HasFinishedOn (s : Job) (p q : Outside) (old new : Work) : Type 0 where
  pub ending : IsEnding s new
  pub faults : p.write_faults ≤ q.write_faults
  pub follows : (x : ℕ → ℕ → ℤ) → FollowsImage s x old → FollowsImage s x new
  pub goes : (x : ℕ → ℕ → ℤ) → FollowsImage s x old → Continues s (image_blocks (whole s) x) old.at.index new.at.index p q

-- all of them were, and all segments are given
pub record AllOut (s : Job) (p q : Outside) (old new : Work) : Type 0 where
  pub made : IsMadeFor s.setting new
  pub faults : p.write_faults ≤ q.write_faults
  pub valid : (x : ℕ → ℕ → ℤ) → FollowsImage s x old →
      s.form.holds s.setting s.rows (image_blocks (whole s) x) new.packets (segments_of (whole s)) new.at.used
  pub goes : (x : ℕ → ℕ → ℤ) → FollowsImage s x old → Continues s (image_blocks (whole s) x) old.at.index (segments_of (whole s)) p q
