-- The effect of the steps of a decoder that advance from segment to segment of a bare stream. (This project's own.)
use Rattle.std.specs.Prelude.{◌≡◌, ◌≤◌, ◌<◌, ◌*◌, ℕ, List, [], ◌++◌, length, take, vec_len, None, Some, Ok}
use Rattle.port_122.specs.Outside.{Outside}
use Rattle.base_122.specs.Sizes.{first_block, total_blocks}
use Rattle.base_122.specs.declared.geometry.Geometry.{Geometry}
use Rattle.base_122.specs.declared.wish.DecodeWish.{DecodeWish}
use Rattle.segment_defs.specs.TextWish.{TextWish, text_wish}
use Rattle.segment_defs.specs.Head.{IsHead}
use Rattle.segment_code.specs.Readers.{wish_of}
use Rattle.bare_text.specs.declared.parts.PartsInForce.{PartsInForce}
use Rattle.bare_text.specs.declared.read.BareHead.{BareHead}
use Rattle.bare_text.specs.InForce.{parts_after}
use Rattle.bare_text.specs.Taken.{DecidesHead}
use Rattle.wave_defs.specs.Held.{blocks_in}
use Rattle.picture_rows.specs.Pictures.{picture_state, IsPictureCurrent, passed_in}
use Rattle.bare_stream.specs.declared.input.PortIn.{PortIn}
use Rattle.bare_stream.specs.declared.walk.Walk.{Walk}
use Rattle.bare_stream.specs.Pictures.{geometry_at, shape_with, pixels_at}
use Rattle.bare_stream.specs.StreamRead.{text, next_in}
use Rattle.bare_stream.specs.Decoded.{IfKnown}
use Rattle.bare_stream.specs.Heads.{AgreesWith, IsRoom}
use Rattle.bare_stream.specs.Reads.{HasLaws, SegmentsRead, Reaches, HasRead, ShowsRead, segments_of}

-- how a walk reads texts
abbrev pub wish_in : Walk → TextWish
wish_in w = wish_of w.room.reader.reader

-- what a walk holds has the sizes of its stream: the next segment is in the tallest image
pub record IsSound (w : Walk) : Type 0 where
  pub first : IsHead w.first
  pub ten : length w.first.image.weights.shifts ≡ 10
  pub room : IsRoom w.first.blocks (vec_len w.room.blocks) (vec_len w.room.marks)
  pub current : IsPictureCurrent (picture_state w.picture)
  pub geometry : w.picture.geometry ≡ shape_with w.first 262144
  pub passed : passed_in (picture_state w.picture) ≡ first_block w.first.blocks w.index
  pub left : first_block w.first.blocks w.index < total_blocks w.first.image.width 262144

-- the head of the next segment agrees with the first one, and reports no more pixels than are wished
pub record IsNext (w : Walk) (read : BareHead) : Type 0 where
  pub fits : IsHead read.head
  pub size : read.size ≤ 20
  pub agrees : AgreesWith w.first w.index read.head
  pub few : pixels_at w.first w.index read.head ≤ w.pixels

-- ---- which segments

-- a walk has passed these segments, none of which is the last, and this part of the next one was given
pub record IsAt {X : Type 0} (outside : X → Outside) (wish : DecodeWish) (start : Outside) (r : SegmentsRead) (part : List ℕ) (input : PortIn X)
    (w : Walk) : Type 0 where
  pub laws : HasLaws wish
  pub read : HasRead outside wish start r part input
  pub going : r.ended ≡ None
  pub first : r.first ≡ w.first
  pub index : w.index ≡ length r.texts
  pub pixels : w.pixels ≡ wish.pixels
  pub wished : wish_in w ≡ text_wish wish
  pub shows : ShowsRead (shape_with r.first 262144) r read.gave (picture_state w.picture)

-- the next head was read from these octets: if it is the first one, it is the first head
pub record IsHeadOf (wish : DecodeWish) (r : SegmentsRead) (before after : PartsInForce) (prefix : List ℕ) (read : BareHead) : Type 0 where
  pub reaches : Reaches wish r before
  pub head : DecidesHead before (Ok read.head) prefix
  pub size : read.size ≡ length prefix
  pub force : after ≡ parts_after before prefix
  pub starts : r.texts ≡ [] → read.head ≡ r.first

-- a walk has read some segments, and the head of the next one
pub record IsReading {X : Type 0} (outside : X → Outside) (wish : DecodeWish) (start : Outside) (input : PortIn X) (w : Walk) (read : BareHead) : Type 0 where
  pub r : SegmentsRead
  pub prefix : List ℕ
  pub before : PartsInForce
  pub at : IsAt outside wish start r prefix input w
  pub head : IfKnown start (λ all. IsHeadOf wish r before w.parts prefix read)

-- the octets are the text of the next segment with this head, whose blocks the walk holds
pub record IsNextText (wish : DecodeWish) (r : SegmentsRead) (before : PartsInForce) (w : Walk) (octets : List ℕ) (read : BareHead) : Type 0 where
  pub next : next_in (text_wish wish) wish.pixels (segments_of r before) octets ≡ text read.head (length octets)
      (blocks_in (take (64 * read.head.blocks) w.room.blocks.items))
  pub force : (more : List ℕ) → parts_after before (octets ++ more) ≡ w.parts

-- all segments were read, and all rows of the picture are given
pub record HasEnded {X : Type 0} (outside : X → Outside) (wish : DecodeWish) (start : Outside) (input : PortIn X) (w : Walk) : Type 0 where
  pub laws : HasLaws wish
  pub r : SegmentsRead
  pub g : Geometry
  pub before : PartsInForce
  pub ended : r.ended ≡ Some g
  pub g_is : g ≡ record (geometry_at w.first 0 w.first) { rows = w.picture.geometry.rows }
  pub index : w.index ≡ length r.blocks
  pub read : HasRead outside wish start r [] input
  pub reaches : IfKnown start (λ all. Reaches wish r before)
