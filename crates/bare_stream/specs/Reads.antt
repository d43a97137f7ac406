-- How far a decoder has read a bare stream. (This project's own.)
use Rattle.std.specs.Prelude.{◌≡◌, ◌⊎◌, ◌≤◌, ◌+◌, ◌<◌, ℕ, ℤ, Bool, true, List, [], ◌∷◌, ◌++◌, length, take, Option, None, Some}
use Rattle.std.specs.List.{concat}
use Rattle.port_122.specs.Outside.{Outside, Exchange, Rose}
use Rattle.base_122.specs.Sizes.{first_block}
use Rattle.base_122.specs.declared.geometry.Geometry.{Geometry}
use Rattle.base_122.specs.declared.wish.DecodeWish.{DecodeWish}
use Rattle.segment_defs.specs.TextWish.{text_wish}
use Rattle.plane_defs.specs.Codes.{is_book_sound}
use Rattle.segment_defs.specs.declared.head.SegmentHead.{SegmentHead}
use Rattle.segment_code.specs.Laws.{TextsEndThere}
use Rattle.stream_defs.specs.Picture.{number_at}
use Rattle.picture_rows.specs.Prefixes.{rows_of}
use Rattle.picture_rows.specs.Pictures.{PictureState, IsPictureCurrent, Represents, passed_in}
use Rattle.bare_text.specs.declared.parts.PartsInForce.{PartsInForce}
use Rattle.bare_text.specs.Laws.{BareHeadsEndThere}
use Rattle.bare_stream.specs.declared.input.PortIn.{PortIn}
use Rattle.bare_stream.specs.Input.{IsLast, waiting}
use Rattle.bare_stream.specs.Pictures.{open_geometry, segments_in, rows_with}
use Rattle.bare_stream.specs.StreamRead.{Segments, read_on}
use Rattle.bare_stream.specs.Decoded.{IfKnown, IsOpen, TakesNone, read_by}

-- the laws by which a stream is read with the book of a wish
pub record HasLaws (wish : DecodeWish) : Type 0 where
  pub heads : BareHeadsEndThere
  pub texts : TextsEndThere
  pub sound : is_book_sound wish.book ≡ true

-- ---- the segments that were read

-- the head of the first, and the octets and the blocks of each; if the last segment is among them, there is a geometry
pub record SegmentsRead : Type 0 where
  pub first : SegmentHead
  pub texts : List (List ℕ)
  pub blocks : List (List (List ℤ))
  pub ended : Option Geometry

abbrev pub rows_read : SegmentsRead → List ℕ
rows_read r = rows_with r.first r.ended r.blocks

-- the first head, if a segment was read
abbrev pub first_of : SegmentHead → (texts : List (List ℕ)) → Option SegmentHead
first_of first [] = None
first_of first (t ∷ texts) = Some first

-- how many octets they have
abbrev pub size_of : SegmentsRead → ℕ
size_of r = length (concat r.texts)

-- these segments, with these parts in force after them
abbrev pub segments_of : SegmentsRead → PartsInForce → Segments
segments_of r before = record { first = first_of r.first r.texts; before = before; blocks = r.blocks; ended = r.ended; octets = size_of r }

-- whatever follows these octets, they are read as these segments, and the reading continues after them
abbrev pub Reaches : DecodeWish → SegmentsRead → PartsInForce → Type 0
Reaches wish r before = (more : List ℕ) → read_by wish (concat r.texts ++ more) ≡ read_on (text_wish wish) wish.pixels (segments_of r before) more

-- it is so, if the port reports what is left
abbrev pub InForceAfter : DecodeWish → (start : Outside) → SegmentsRead → PartsInForce → Type 0
InForceAfter wish start r parts = IfKnown start (λ input. Reaches wish r parts)

-- ---- the octets

-- a read call for octets of the segments before, or the last one
abbrev pub AskedBefore : DecodeWish → (took gave : List ℕ) → (failed : Bool) → (left : Option (List ℕ)) → ℕ → ℕ → Type 0
AskedBefore wish took gave failed left i j = IsOpen wish (take i took) (take j gave) ⊎ (IsLast took failed left i × TakesNone wish took gave i j)

-- a read call after these segments, with this part of the next one given since: an octet of it was given after the call, or it was the last one
abbrev pub AskedNow : SegmentsRead → (part took gave : List ℕ) → (failed : Bool) → (left : Option (List ℕ)) → ℕ → ℕ → Type 0
AskedNow r part took gave failed left i j = (j ≡ length gave) × (size_of r ≤ i) × ((i < size_of r + length part) ⊎ IsLast took failed left i)

abbrev pub AsksIn : DecodeWish → (start : Outside) → SegmentsRead → (part took gave : List ℕ) → (failed : Bool) → (left : Option (List ℕ)) → ℕ → ℕ → Type 0
AsksIn wish start r part took gave failed left i j =
    (i < wish.octets) × (j ≤ length gave) × IfKnown start (λ input. AskedBefore wish took gave failed left i j ⊎ AskedNow r part took gave failed left i j)

-- Since a start the octets of these segments and this part of the next one were given by an input, and others wait. The rows are given that
-- the segments determine.
pub record HasRead {X : Type 0} (outside : X → Outside) (wish : DecodeWish) (start : Outside) (r : SegmentsRead) (part : List ℕ) (input : PortIn X) : Type 0
  where
    pub some : r.texts ≡ [] → r.ended ≡ None
    pub same : length r.texts ≡ length r.blocks
    pub took : List ℕ
    pub gave : List ℕ
    pub since : Exchange start (outside input.port.now) took gave [] (AsksIn wish start r part took gave input.failed (outside input.port.now).rest)
    pub gave_is : gave ≡ rows_read r
    pub octets : took ≡ concat r.texts ++ (part ++ waiting input)
    pub left : length took + input.left ≡ wish.octets
    pub rises : input.failed ≡ true → Rose start.read_faults (outside input.port.now).read_faults

-- ---- the picture

-- blocks, counted in raster order, whose first ones have the numbers of these segments
pub record AreNumbersOf (r : SegmentsRead) (numbers : ℕ → ℕ → ℤ) : Type 0 where
  pub at : (block i : ℕ) → block < first_block r.first.blocks (length r.blocks) → i < 64 →
      numbers block i ≡ number_at (open_geometry r.first) (segments_in r.blocks) block i

-- a picture of this geometry has passed the blocks of these segments, and these octets are given
pub record ShowsRead (g : Geometry) (r : SegmentsRead) (gave : List ℕ) (p : PictureState) : Type 0 where
  pub current : IsPictureCurrent p
  pub geometry : p.geometry ≡ g
  pub passed : passed_in p ≡ first_block r.first.blocks (length r.blocks)
  pub valid : (numbers : ℕ → ℕ → ℤ) → AreNumbersOf r numbers → Represents numbers p
  pub given : (numbers : ℕ → ℕ → ℤ) → AreNumbersOf r numbers → gave ≡ rows_of p.geometry numbers p.at.next
