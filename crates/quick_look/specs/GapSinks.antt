-- The meaning of the gaps, by the blocks that were passed. This project's own.
use Rattle.std.specs.Prelude.{◌≡◌, ◌≤◌, ◌<◌, ℕ, Bool, not, true, false, List, [], Option, None, Some, is_some, refl}
use Rattle.base_122.specs.Ranges.{IsGeometryInRange, IsWithin, rows_range}
use Rattle.base_122.specs.declared.geometry.Geometry.{Geometry}
use Rattle.stream_defs.specs.Agreement.{blocks_of}
use Rattle.quick_look.specs.declared.gap.Gap.{Gap}
use Rattle.quick_look.specs.Gaps.{AreAll, AreGaps}
use Rattle.strip_decoder.specs.Sinks.{Blocks, SinkOf}
use Rattle.quick_look.specs.declared.gaps.Gaps.{Gaps}

-- a block is missing
abbrev pub lost_in : Blocks → (block : ℕ) → Bool
lost_in blocks block = not (is_some (blocks block))

-- these are the gaps of the first n blocks: those that have ended, and the one from this block on that the last block is in
abbrev pub AreGapsOf : (lost : ℕ → Bool) → List Gap → (open_from : Option ℕ) → (n : ℕ) → Type 0
AreGapsOf lost ended None n = AreGaps lost 0 ended n
AreGapsOf lost ended (Some first) n = AreGaps lost 0 ended first × (first < n) × AreAll lost true first n

-- it has kept the gaps of the first n blocks, or memory was refused
abbrev pub HasKept : Gaps → (lost : ℕ → Bool) → (n : ℕ) → Type 0
HasKept s lost n = s.refused ≡ false → AreGapsOf lost s.ended.items s.open_from n

-- a gap that isn't ended has a block
abbrev pub HasOpen : Gaps → Type 0
HasOpen s = s.refused ≡ false → (first : ℕ) → s.open_from ≡ Some first → first < s.passed

-- it has taken the first n blocks of an image, and kept the gaps of some blocks
pub record IsValidAt (s : Gaps) (g : Geometry) (n : ℕ) : Type 0 where
  pub range : IsGeometryInRange g
  pub height : IsWithin rows_range g.rows
  pub passed : s.passed ≡ n
  pub few : n ≤ blocks_of g
  pub lost : ℕ → Bool
  pub kept : HasKept s lost n

-- it has kept the gaps of these blocks, and gives nothing
pub record KeepsGaps (s : Gaps) (blocks : Blocks) (n : ℕ) (gave : List ℕ) : Type 0 where
  pub kept : HasKept s (lost_in blocks) n
  pub silent : gave ≡ []

abbrev pub gap_sink : SinkOf Gaps
gap_sink = record {
  IsValid = IsValidAt;
  Follows = λ s g blocks n gave. KeepsGaps s blocks n gave;
  Given = λ g blocks n gave. gave ≡ [];
  Part = λ g blocks n gave. gave ≡ [];
  given_of = λ s g blocks n gave valid keeps. keeps.silent;
  part_of = λ g blocks n gave none. none;
  part_none = λ g blocks. refl;
  given_ended = λ g h blocks n gave ends none. none;
  part_ended = λ g h blocks n gave ends none. none;
}
