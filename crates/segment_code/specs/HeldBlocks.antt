-- The blocks of a segment that is written, and their states. (This project's own.)
use Rattle.std.specs.Prelude.{◌≡◌, ◌≤◌, ℕ, ◌+◌, ◌*◌, ◌/◌, ◌^◌, ℤ, length, Vec, vec_len, vec_capacity}
use Rattle.wave_defs.specs.Held.{blocks_in}
use Rattle.plane_defs.specs.Marks.{depths_of}
use Rattle.block_masks.specs.SegmentNumbers.{SegmentNumbers, step_for}
use Rattle.plane_coder.specs.declared.room.GaggleRoom.{GaggleRoom}
use Rattle.segment_defs.specs.Depths.{block_depths}
use Rattle.segment_code.specs.Numbers.{AreBounded}

-- the samples of 32 bits of the room for a number of blocks: 29 masks and two for bits of words, the DC and the state of each block
abbrev pub samples_for : ℕ → ℕ
samples_for most = 58 * step_for most + 64 * (most / 16) + 2 * most

-- the states have the depths of the blocks, and there is room for all states, and for the words of all whole gaggles
pub record AreHeld {A : Type 0} (segment : SegmentNumbers) (marks : Vec ℤ A) (room : GaggleRoom) : Type 0 where
  pub few : segment.most ≤ 2 ^ 20
  pub whole : length segment.numbers ≡ 64 * vec_len marks
  pub marks_fit : vec_capacity marks ≡ segment.most
  pub kept : vec_len room.kept ≡ 32 * (segment.most / 16)
  pub bounded : AreBounded segment.numbers
  pub depths : depths_of marks.items ≡ block_depths (blocks_in segment.numbers)
