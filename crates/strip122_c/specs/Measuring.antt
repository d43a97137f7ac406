-- The size of an image, from the headers of its packets. This project's own.
use Rattle.std.specs.Prelude.{◌≡◌, ◌⊎◌, ◌≤◌, ◌<◌, ◌+◌, ◌*◌, ◌/◌, ◌++◌, ℕ, false, List, length, Option, Some, None, Result, Ok, Err, ⊤}
use Rattle.port_122.specs.Outside.{Outside}
use Rattle.base_122.specs.Ranges.{IsGeometryInRange}
use Rattle.base_122.specs.Sizes.{block_count}
use Rattle.base_122.specs.declared.geometry.Geometry.{Geometry}
use Rattle.base_122.specs.declared.wish.DecodeWish.{DecodeWish}
use Rattle.bit_pipe.specs.declared.fault.InFault.TheVariants as in_faults
use Rattle.packet_defs.specs.Streams.{has_bad_version, left_over}
use Rattle.packet_assembly.specs.declared.note.SegmentStart.{SegmentStart}
use Rattle.packet_assembly.specs.Assembling.{Assembling}
use Rattle.packet_assembly.specs.Segments.{FindsSegment}
use Rattle.stream_defs.specs.Begun.{HasFewPixels, begun_in, rows_reached}
use Rattle.strip122_c.specs.declared.decode.DecodeRefusal.{DecodeRefusal}
use Rattle.strip122_c.specs.declared.decode.DecodeRefusal.TheVariants.{NoSegment, SmallRoom, TooManyPixels, LongInput, Memory}
use Rattle.strip122_c.specs.declared.measure.Measured.{Measured}
use Rattle.strip122_c.specs.declared.product.Product.{Product}
use Rattle.strip122_c.specs.declared.product.Product.TheVariants.{Rects}
use Rattle.strip122_c.specs.Products.{product_length}
use Rattle.strip122_c.specs.WholeDecoding.{HasGeometry, HasNoSegment, HasTooMany, IsAllRead, ReportsFirst}

-- ---- a step

-- the first block after the segment that begins so
abbrev pub end_after : SegmentStart → ℕ
end_after start = start.ancillary.first + start.head.blocks

-- the next segment was found, and its header reports this, not more than the most pixels
pub record FoundHead (most : ℕ) (old new : Outside) (a b : Assembling) (m : Measured) : Type 0 where
  pub start : SegmentStart
  pub finds : FindsSegment old new a b (Ok (Some start))
  pub geometry : b.state.geometry ≡ Some m.geometry
  pub range : IsGeometryInRange m.geometry
  pub ended : m.ended ≡ end_after start
  pub few : m.geometry.width * rows_reached m.geometry m.ended ≤ most

-- it reports this number of pixels, which is more
pub record FoundMany (most : ℕ) (old new : Outside) (a b : Assembling) (pixels : ℕ) : Type 0 where
  pub start : SegmentStart
  pub finds : FindsSegment old new a b (Ok (Some start))
  pub image : Geometry
  pub geometry : b.state.geometry ≡ Some image
  pub reached : pixels ≡ image.width * rows_reached image (end_after start)
  pub many : most < pixels

-- it was found, and there is no geometry
pub record FoundNothing (old new : Outside) (a b : Assembling) : Type 0 where
  pub start : SegmentStart
  pub finds : FindsSegment old new a b (Ok (Some start))
  pub none : b.state.geometry ≡ None

abbrev pub FindsHead : (most : ℕ) → (old new : Outside) (a b : Assembling) → Result (Option Measured) DecodeRefusal → Type 0
FindsHead most old new a b (Ok (Some m)) = FoundHead most old new a b m
FindsHead most old new a b (Ok None) = FindsSegment old new a b (Ok None)
FindsHead most old new a b (Err NoSegment) = FoundNothing old new a b
FindsHead most old new a b (Err (TooManyPixels pixels)) = FoundMany most old new a b pixels
FindsHead most old new a b (Err LongInput) = FindsSegment old new a b (Err in_faults.LongInput)
FindsHead most old new a b (Err Memory) = ⊥
FindsHead most old new a b (Err (SmallRoom g rows octets)) = ⊥

-- ---- all headers

-- a size of an image, of which whole block rows can be counted
pub record IsMeasurable (m : Measured) : Type 0 where
  pub range : IsGeometryInRange m.geometry
  pub few : m.ended / block_count m.geometry.width ≤ 32768

-- The packets report this, up to a place where they are read and don't report too many pixels: the first header reports the height, or all
-- packets are read.
pub record HasSize (wish : DecodeWish) (packets : List ℕ) (m : Measured) : Type 0 where
  pub took : List ℕ
  pub rest : List ℕ
  pub are : packets ≡ took ++ rest
  pub within : length took ≤ wish.octets
  pub few : HasFewPixels wish.pixels wish.apid took
  pub known : ReportsFirst wish.apid took m.geometry ⊎ IsAllRead wish packets
  pub reports : HasGeometry wish.apid packets m.geometry
  pub begun : m.geometry.rows ≡ 0 → m.ended / block_count m.geometry.width ≡ begun_in wish.apid packets
  pub measurable : IsMeasurable m

-- There are at least as many octets as are read. Up to there they can be read on, don't report too many pixels, and the first header
-- doesn't report the height.
pub record HasLong (wish : DecodeWish) (packets : List ℕ) : Type 0 where
  pub took : List ℕ
  pub rest : List ℕ
  pub are : packets ≡ took ++ rest
  pub long : length took ≡ wish.octets
  pub readable : has_bad_version (left_over took) ≡ false
  pub few : HasFewPixels wish.pixels wish.apid took
  pub open_first : (g : Geometry) → ReportsFirst wish.apid took g → ⊥

-- the size, or the cause of a refusal that doesn't depend on it
abbrev pub IsMeasured : DecodeWish → (packets : List ℕ) → Result Measured DecodeRefusal → Type 0
IsMeasured wish packets (Ok m) = HasSize wish packets m
IsMeasured wish packets (Err NoSegment) = HasNoSegment wish packets
IsMeasured wish packets (Err (TooManyPixels pixels)) = HasTooMany wish packets pixels
IsMeasured wish packets (Err LongInput) = HasLong wish packets
IsMeasured wish packets (Err Memory) = ⊤
IsMeasured wish packets (Err (SmallRoom g rows octets)) = ⊥

-- the same for the packets that a port has
abbrev pub FindsSize : DecodeWish → Outside → Result Measured DecodeRefusal → Type 0
FindsSize wish old result = (packets : List ℕ) → old.rest ≡ Some packets → IsMeasured wish packets result

-- ---- the octets that are kept beside the room

-- none for lists, whose length is not known before, and otherwise the whole raster of the size that the headers report
abbrev pub IsKept : Product → DecodeWish → (packets : List ℕ) → (kept : Option ℕ) → Type 0
IsKept Rects wish packets kept = kept ≡ None
IsKept product wish packets kept =
    (m : Measured) × HasSize wish packets m × (kept ≡ Some (product_length product m.geometry (m.ended / block_count m.geometry.width)))
