-- The laws that the definitions keep.
use Rattle.std.specs.Prelude.{◌≡◌, ◌<◌, ◌≤◌, ◌^◌, ℕ, ℤ, true, List, ◌++◌, drop, unsigned_abs, All}
use Rattle.item_defs.specs.Items.{text}
use Rattle.number_defs.specs.Ranges.{IsInRange}
use Rattle.base_122.specs.declared.book.Book.{Book}
use Rattle.segment_defs.specs.declared.head.SegmentHead.{SegmentHead}
use Rattle.segment_defs.specs.Head.{head_bits}
use Rattle.segment_defs.specs.Coded.{coded_bits, dc_part}
use Rattle.segment_defs.specs.Size.{size_of}
use Rattle.segment_defs.specs.Depths.{dc_of, block_depth, depth_dc_of, depth_ac_of}

-- a number is below two to its size, and no lesser power of two is above it
pub record SizeIsLeast : Type 0 where
  pub holds : (n : ℕ) → n < 2 ^ size_of n
  pub least : (n d : ℕ) → n < 2 ^ d → size_of n ≤ d

-- The depths hold the numbers of their blocks, and no lesser depths do: that of the DC numbers by their two's
-- complement form, from 1 on; a block's and the segment's by the magnitudes of the AC numbers.
pub record DepthsAreLeast : Type 0 where
  pub dc_holds : (blocks : List (List ℤ)) → All (λ block. IsInRange true (depth_dc_of blocks) (dc_of block)) blocks
  pub dc_least : (blocks : List (List ℤ)) (d : ℕ) → 1 ≤ d → All (λ block. IsInRange true d (dc_of block)) blocks → depth_dc_of blocks ≤ d
  pub block_holds : (block : List ℤ) → All (λ z. unsigned_abs z < 2 ^ block_depth block) (drop 1 block)
  pub block_least : (block : List ℤ) (d : ℕ) → All (λ z. unsigned_abs z < 2 ^ d) (drop 1 block) → block_depth block ≤ d
  pub ac_holds : (blocks : List (List ℤ)) → All (λ block. All (λ z. unsigned_abs z < 2 ^ depth_ac_of blocks) (drop 1 block)) blocks
  pub ac_least : (blocks : List (List ℤ)) (d : ℕ) → All (λ block. All (λ z. unsigned_abs z < 2 ^ d) (drop 1 block)) blocks → depth_ac_of blocks ≤ d

-- a text that stops at the DC numbers has only the DC part after its head
pub record StopsAtDc : Type 0 where
  pub bits : (book : Book) (head : SegmentHead) (blocks : List (List ℤ)) → head.stop.dc ≡ true →
      coded_bits book head blocks ≡ head_bits head ++ text (dc_part book head blocks)
