-- The values that a text of a segment with this head may have (this project's own).
use Rattle.std.specs.Prelude.{◌≡◌, ◌≤◌, ◌<◌, ℕ, ◌^◌, ℤ, true, List, [], length}
use lib.ListN.{get_or}
use Rattle.number_defs.specs.Gaggles.{is_option, gaggle_count}
use Rattle.number_defs.specs.DcPart.{dc_bits}
use Rattle.number_defs.specs.Depths.{depth_bits}
use Rattle.number_defs.specs.Laws.{AreFew, DcsFit}
use Rattle.plane_defs.specs.Sets.{magnitude}
use Rattle.plane_defs.specs.Codes.{is_book_sound}
use Rattle.plane_defs.specs.Laws.{IsMultiple}
use Rattle.plane_defs.specs.Spelled.{option_of}
use Rattle.segment_defs.specs.declared.head.SegmentHead.{SegmentHead}
use Rattle.segment_defs.specs.Depths.{dcs_of}
use Rattle.segment_defs.specs.SegmentItems.{Options, dc_shift}

abbrev pub block_of : List (List ℤ) → ℕ → List ℤ
block_of blocks r = get_or blocks r []

-- Blocks of 64 numbers and a depth for each. A depth only has the bits of section "Block depths": one above that of the
-- head is refused if it is given, and no reading gives it.
pub record IsSpellable (head : SegmentHead) (blocks : List (List ℤ)) (depths : List ℕ) : Type 0 where
  pub blocks_all : length blocks ≡ head.blocks
  pub depths_all : length depths ≡ head.blocks
  pub whole : (r : ℕ) → r < length blocks → length (block_of blocks r) ≡ 64
  -- each DC over 2 ^ q, rounded down, is in its range
  pub dcs_fit : DcsFit head.depth_dc head.depth_ac (dc_shift head) (dcs_of blocks)
  -- each number is a multiple of 2 ^ shift
  pub multiples : (r : ℕ) → IsMultiple (block_of blocks r) head.image.weights.shifts
  -- each AC magnitude is below two to its block's depth
  pub below : (r p : ℕ) → 1 ≤ p → magnitude (block_of blocks r) p < 2 ^ get_or depths r 0
  pub depths_few : AreFew (depth_bits head.depth_ac) depths

-- the options of words are some of their lengths, and their codes those of a sound book; the options of numbers are checked
-- by the forms of their identifiers
pub record AreWordOptions (options : Options) : Type 0 where
  pub sound : is_book_sound options.book ≡ true
  pub at : (b g n : ℕ) → 2 ≤ n → n ≤ 4 → option_of (options.words b g) n < n

-- the options of numbers that their identifiers represent
pub record AreNumberOptions (head : SegmentHead) (options : Options) : Type 0 where
  pub dcs : 2 ≤ dc_bits head.depth_dc head.depth_ac (dc_shift head) → (g : ℕ) → g < gaggle_count head.blocks →
      is_option (dc_bits head.depth_dc head.depth_ac (dc_shift head)) (options.dcs g) ≡ true
  pub depths : 2 ≤ head.depth_ac → (g : ℕ) → g < gaggle_count head.blocks → is_option (depth_bits head.depth_ac) (options.depths g) ≡ true
