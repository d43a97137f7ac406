-- The room for the numbers of a segment. This project's own.
use Rattle.std.specs.Prelude.{◌≡◌, ◌≤◌, ◌+◌, ◌*◌, ℕ}
use Rattle.base_122.specs.Sizes.{segment_blocks}
use Rattle.base_122.specs.declared.geometry.Geometry.{Geometry}
use Rattle.stream_defs.specs.Agreement.{blocks_of}

-- There is room for the coefficients and the state of each block of a segment of this image, and for no more than a segment has.
pub record IsRoom (g : Geometry) (cells room : ℕ) : Type 0 where
  pub marks : segment_blocks (blocks_of g) g.segment 0 ≤ room
  pub blocks : cells ≡ 64 * room
  pub most : cells + room ≤ 65 * g.segment
