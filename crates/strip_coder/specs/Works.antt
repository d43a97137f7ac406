-- What a work holds, and which images it follows.
use Rattle.std.specs.Prelude.{◌≡◌, ◌≢◌, ◌<◌, ◌≤◌, ◌+◌, ◌-◌, ◌*◌, ◌==◌, if◌then◌else◌, ℕ, ℤ, min, List, [], false, length, vec_len, slice_index_or}
use Rattle.base_122.specs.Sizes.{block_count, padded_size, total_blocks, first_block, segment_blocks, sample_need}
use Rattle.base_122.specs.declared.setting.Setting.{Setting}
use Rattle.wave_defs.specs.Pyramid.{padded}
use Rattle.wave_defs.specs.Held.{SameWithin, block_at}
use Rattle.space_packets.specs.Progress.{fresh}
use Rattle.wave_strip.specs.Strip.{rows_of, answered_of, columns_of, has_ended, Follows, IsAtStart}
use Rattle.wave_strip.specs.Counts.{settled}
use Rattle.wave_strip.specs.Samples.{samples_of as strip_samples}
use Rattle.segment_code.specs.HeldBlocks.{samples_for}
use Rattle.stream_defs.specs.Output.{image_blocks, segments_of, used_before, reports_last}
use Rattle.stream_defs.specs.Settled.{settled as settled_segments}
use Rattle.strip_coder.specs.declared.work.Work.{Work}
use Rattle.strip_coder.specs.declared.work.ImageAt.{ImageAt}
use Rattle.base_122.specs.Setting.{IsHeight}
use Rattle.strip_coder.specs.Plans.{Job, MoreMayArrive, plan_of, tallest, whole}

-- the blocks that a segment has at most
abbrev pub most_blocks : Setting → ℕ
most_blocks s = if s.rows == 0 then s.segment else segment_blocks (total_blocks s.width s.rows) s.segment 0

-- the samples of all its lists
abbrev pub samples_of : Work → ℕ
samples_of w = strip_samples w.strip + vec_len w.row + samples_for w.blocks.most

-- a work was made for this setting: it has room for its segments, and writes them with its code book
pub record IsMadeFor (s : Setting) (w : Work) : Type 0 where
  pub row : vec_len w.row ≡ padded_size s.width
  pub blocks : most_blocks s ≤ w.blocks.most
  pub strip : columns_of w.strip ≡ block_count s.width
  pub packet : w.packets.packet ≡ s.packet
  pub writer : w.writer.tables.book ≡ s.book
  pub room : w.room ≡ sample_need s.width s.segment

-- what the coded segments so far leave of a bound on all: at least 36 octets for each of those that follow
pub record KeepsShare (s : Setting) (at : ImageAt) : Type 0 where
  pub left : s.total ≢ 0 → at.used + 36 * (segments_of s - at.index) ≤ s.total

-- nothing was taken, gathered or given
pub record IsFresh (s : Setting) (w : Work) : Type 0 where
  pub strip : IsAtStart w.strip
  pub packets : w.packets ≡ fresh s.packet
  pub none : w.blocks.numbers ≡ []
  pub at : w.at ≡ record { rows = 0; filled = 0; index = 0; used = 0 }

-- ---- the progress of the work

-- the blocks gathered so far, which are the first ones
abbrev pub gathered_in : Job → ImageAt → ℕ
gathered_in s at = min (first_block s.setting.segment at.index) (total_blocks s.setting.width s.rows) + at.filled

-- Some blocks of an image were gathered: the present segment isn't full, and no text is begun.
pub record HasGathered (s : Job) (w : Work) : Type 0 where
  pub made : IsMadeFor s.setting w
  pub share : KeepsShare (whole s) w.at
  pub index : w.at.index ≤ segments_of (whole s)
  pub present : w.at.index < segments_of (whole s) → w.at.filled < segment_blocks (total_blocks s.setting.width s.rows) s.setting.segment w.at.index
  pub none : w.at.index ≡ segments_of (whole s) → w.at.filled ≡ 0
  pub held : length w.blocks.numbers ≡ 64 * w.at.filled
  pub ready : s.form.ready s.setting w.packets w.at.index w.at.used

-- The present segment is full, and no text is begun.
pub record IsFull (s : Job) (w : Work) : Type 0 where
  pub made : IsMadeFor s.setting w
  pub share : KeepsShare (whole s) w.at
  pub index : w.at.index < segments_of (whole s)
  pub full : w.at.filled ≡ segment_blocks (total_blocks s.setting.width s.rows) s.setting.segment w.at.index
  pub held : length w.blocks.numbers ≡ 64 * w.at.filled
  pub ready : s.form.ready s.setting w.packets w.at.index w.at.used

-- The block rows that the rows pushed so far complete were gathered, and the strip takes more.
pub record IsRunning (s : Job) (w : Work) : Type 0 where
  pub gathered : HasGathered s w
  pub count : gathered_in s w.at ≡ block_count s.setting.width * settled (rows_of w.strip)
  pub answered : answered_of w.strip ≡ settled (rows_of w.strip)
  pub running : has_ended w.strip ≡ false

-- This number of rows was taken. While more may follow, the segments before the present one are exactly those that these rows settle.
pub record HasTaken (s : Job) (k : ℕ) (w : Work) : Type 0 where
  pub running : IsRunning s w
  pub rows : w.at.rows ≡ k
  pub strip_rows : rows_of w.strip ≡ k
  pub index : MoreMayArrive s k → w.at.index ≡ settled_segments (reports_last s.setting) (whole s) k

-- ---- and for which images

-- The present segment has its first blocks of these, and all segments before it were given, and nothing else. If there is a bound on all
-- coded segments, the octets of these are counted.
pub record HoldsBlocks (s : Job) (all : List (List ℤ)) (w : Work) : Type 0 where
  pub blocks : (i : ℕ) → i < w.at.filled → block_at w.blocks.numbers i ≡ slice_index_or all (first_block s.setting.segment w.at.index + i) []
  pub given : s.form.holds s.setting s.rows all w.packets w.at.index w.at.used
  pub used : s.setting.total ≢ 0 → w.at.used ≡ used_before (whole s) all w.at.index

-- the strip is as after the first rows of this image
abbrev pub StripFollows : Job → (ℕ → ℕ → ℤ) → Work → Type 0
StripFollows s x w = Follows (padded x s.rows s.setting.width) (block_count s.rows) w.strip

-- a work follows an image, part by part
pub record FollowsImage (s : Job) (x : ℕ → ℕ → ℤ) (w : Work) : Type 0 where
  pub strip : StripFollows s x w
  pub holds : HoldsBlocks s (image_blocks (whole s) x) w

-- A work follows an image of which more rows may follow: while it has the plan of the tallest one, its strip is as after the first rows of
-- the image of any height that it may still have.
pub record FollowsRows (s : Setting) (x : ℕ → ℕ → ℤ) (w : Work) : Type 0 where
  pub tall : FollowsImage (plan_of s (tallest s)) x w
  pub any : (rows : ℕ) → IsHeight s rows → rows_of w.strip ≤ rows → StripFollows (plan_of s rows) x w

-- A work represents the first k rows of an image: it follows each image that has these.
pub record Represents (s : Setting) (k : ℕ) (x : ℕ → ℕ → ℤ) (w : Work) : Type 0 where
  pub taken : HasTaken (plan_of s (tallest s)) k w
  pub follows : (y : ℕ → ℕ → ℤ) → SameWithin k s.width x y → FollowsRows s y w

-- it represents no rows, so it follows each image
pub record RepresentsNone (s : Setting) (w : Work) : Type 0 where
  pub taken : HasTaken (plan_of s (tallest s)) 0 w
  pub follows : (x : ℕ → ℕ → ℤ) → FollowsRows s x w
