-- The result if all packets are read at once. This project's own.
use Rattle.std.specs.Prelude.{◌≡◌, ◌≢◌, ◌⊎◌, ◌≤◌, ◌<◌, ◌*◌, ◌++◌, ◌∷◌, ℕ, ℤ, true, false, List, [], length, take, drop, Some, None, Result, Ok, Err, ⊤}
use Rattle.base_122.specs.Ranges.{IsGeometryInRange, rows_range}
use Rattle.base_122.specs.Setting.{image_geometry}
use Rattle.base_122.specs.declared.geometry.Geometry.{Geometry}
use Rattle.base_122.specs.declared.setting.Setting.{Setting}
use Rattle.base_122.specs.declared.wish.DecodeWish.{DecodeWish}
use Rattle.packet_defs.specs.Streams.{framing, has_bad_version, left_over, whole_packets}
use Rattle.raster_rows.specs.Pixels.{pixel_size}
use Rattle.stream_defs.specs.Begun.{HasFewPixels, begun_in, height}
use Rattle.stream_defs.specs.Fates.{fresh, after_all, geometry_in}
use Rattle.stream_defs.specs.Output.{output}
use Rattle.stream_defs.specs.Received.{ReceivedIn}
use Rattle.strip_decoder.specs.declared.ending.DecodeDone.{DecodeDone}
use Rattle.strip_decoder.specs.Images.{IsImageFor}
use Rattle.strip_decoder.specs.Runs.{Numbers, ReportsMany, holds_after}
use Rattle.strip_decoder.specs.Walks.{IsDamageOf}
use Rattle.strip_decoder.specs.RoundTrip.{GivesBack}
use Rattle.strip122_c.specs.Products.{product_octets, product_length, product_texts}
use Rattle.strip122_c.specs.declared.decode.DecodeRefusal.{DecodeRefusal}
use Rattle.strip122_c.specs.declared.decode.DecodeRefusal.TheVariants.{NoSegment, SmallRoom, TooManyPixels, LongInput, Memory}
use Rattle.strip122_c.specs.declared.decode.Made.{Made}
use Rattle.strip122_c.specs.declared.product.Product.{Product}
use Rattle.strip122_c.specs.declared.product.Product.TheVariants.{Rects}

-- the geometry in these packets, whose rows are 0 if no header reports the height
pub record HasGeometry (apid : ℕ) (packets : List ℕ) (g : Geometry) : Type 0 where
  pub geometry : geometry_in apid packets ≡ Some g
  pub range : IsGeometryInRange g

-- Packets are read to their end, or to what can't be read on, before the number of octets at which reading ends.
pub record IsReadToEnd (cap : ℕ) (packets : List ℕ) : Type 0 where
  pub took : List ℕ
  pub rest : List ℕ
  pub are : packets ≡ took ++ rest
  pub within : length took ≤ cap
  pub out : (has_bad_version (left_over took) ≡ true) ⊎ ((rest ≡ []) × (length took < cap))

-- ---- what is made

-- The octets that are made of the segments that are received in the packets, up to the packets' end or what can't be read on, and the damage
-- of the picture. Segments are read with the wish's code book, and restored if it says so. The picture has all rows of the image, or if no
-- header reports the height those that the block rows determine which the kept headers reach.
pub record IsMade (product : Product) (wish : DecodeWish) (packets octets : List ℕ) (done : DecodeDone) : Type 0 where
  pub reports : HasGeometry wish.apid packets done.geometry
  pub few : HasFewPixels wish.pixels wish.apid packets
  pub to_end : IsReadToEnd wish.octets packets
  pub framing_is : done.framing ≡ framing packets
  pub written : done.written ≡ height done.geometry (begun_in wish.apid packets)
  pub most : done.written ≤ rows_range.most
  pub rows : done.damage.rows ≡ done.written
  pub received : Numbers
  pub received_are : ReceivedIn (holds_after (product_texts product wish)) wish.apid packets received
  pub octets_are : octets ≡ product_octets product done.geometry received (begun_in wish.apid packets)
  pub damage : IsDamageOf done.geometry received (begun_in wish.apid packets) done.damage

-- the room begins with them, and the rest of the room is unchanged
pub record HasMade (product : Product) (wish : DecodeWish) (packets old new : List ℕ) (made : Made) : Type 0 where
  pub octets : List ℕ
  pub are : IsMade product wish packets octets made.done
  pub count : made.octets ≡ length octets
  pub fits : length octets ≤ length old
  pub room : new ≡ octets ++ drop (length octets) old

-- ---- refusals

-- the first header that is kept reports this geometry
pub record IsFirstHead (apid : ℕ) (packets : List (List ℕ)) (g : Geometry) : Type 0 where
  pub before : List (List ℕ)
  pub packet : List ℕ
  pub later : List (List ℕ)
  pub packets_are : packets ≡ (before ++ packet ∷ []) ++ later
  pub none : (after_all apid fresh before).geometry ≡ None
  pub geometry : (after_all apid fresh (before ++ packet ∷ [])).geometry ≡ Some g

-- and the height with it
abbrev pub ReportsFirst : (apid : ℕ) → List ℕ → Geometry → Type 0
ReportsFirst apid octets g = IsFirstHead apid (whole_packets octets) g × (g.rows ≢ 0)

-- all packets are read, and they don't report too many pixels
pub record IsAllRead (wish : DecodeWish) (packets : List ℕ) : Type 0 where
  pub to_end : IsReadToEnd wish.octets packets
  pub few : HasFewPixels wish.pixels wish.apid packets

-- The size of what is made is known: it is a raster, and the first header reports the height, or all packets are read.
abbrev pub IsKnownBy : Product → DecodeWish → (took packets : List ℕ) → Geometry → Type 0
IsKnownBy product wish took packets g = ((product ≢ Rects) × ReportsFirst wish.apid took g) ⊎ IsAllRead wish packets

-- The room has fewer octets than are made, which have this number, of a picture of this geometry and this number of rows. The packets are
-- read up to where the number is known, and don't report too many pixels there.
pub record HasSmallRoom (product : Product) (wish : DecodeWish) (packets : List ℕ) (room : ℕ) (g : Geometry) (rows octets : ℕ) : Type 0 where
  pub took : List ℕ
  pub rest : List ℕ
  pub are : packets ≡ took ++ rest
  pub within : length took ≤ wish.octets
  pub few : HasFewPixels wish.pixels wish.apid took
  pub known : IsKnownBy product wish took packets g
  pub reports : HasGeometry wish.apid packets g
  pub written : rows ≡ height g (begun_in wish.apid packets)
  pub most : rows ≤ rows_range.most
  pub received : Numbers
  pub received_are : ReceivedIn (holds_after (product_texts product wish)) wish.apid packets received
  pub octets_are : octets ≡ length (product_octets product g received (begun_in wish.apid packets))
  pub small : room < octets

-- no packet that is kept begins a segment
pub record HasNoSegment (wish : DecodeWish) (packets : List ℕ) : Type 0 where
  pub none : geometry_in wish.apid packets ≡ None
  pub to_end : IsReadToEnd wish.octets packets

-- some of the packets, up to a place that is read, report this number of pixels, and it is more than the wish allows
pub record HasTooMany (wish : DecodeWish) (packets : List ℕ) (pixels : ℕ) : Type 0 where
  pub took : List ℕ
  pub rest : List ℕ
  pub are : packets ≡ took ++ rest
  pub within : length took ≤ wish.octets
  pub many : ReportsMany wish.pixels wish.apid pixels took

-- the first header of these octets doesn't report a raster that doesn't fit the room
abbrev pub FitsRoom : Product → DecodeWish → List ℕ → (room : ℕ) → Type 0
FitsRoom product wish octets room = (g : Geometry) → product ≢ Rects → ReportsFirst wish.apid octets g → product_length product g 0 ≤ room

-- There are at least as many octets as are read. Up to there they can be read on, don't report too many pixels, and don't begin with a
-- raster that doesn't fit the room.
pub record HasLongInput (product : Product) (wish : DecodeWish) (packets : List ℕ) (room : ℕ) : Type 0 where
  pub took : List ℕ
  pub rest : List ℕ
  pub are : packets ≡ took ++ rest
  pub long : length took ≡ wish.octets
  pub readable : has_bad_version (left_over took) ≡ false
  pub few : HasFewPixels wish.pixels wish.apid took
  pub fits : FitsRoom product wish took room

-- the cause of a refusal, by the number of octets of the room
abbrev pub IsRefused : Product → DecodeWish → (packets : List ℕ) → (room : ℕ) → DecodeRefusal → Type 0
IsRefused product wish packets room NoSegment = HasNoSegment wish packets
IsRefused product wish packets room (SmallRoom g rows octets) = HasSmallRoom product wish packets room g rows octets
IsRefused product wish packets room (TooManyPixels pixels) = HasTooMany wish packets pixels
IsRefused product wish packets room LongInput = HasLongInput product wish packets room
IsRefused product wish packets room Memory = ⊤

-- The result and its cause. A refusal leaves the room unchanged.
abbrev pub Makes : Product → DecodeWish → (packets old new : List ℕ) → Result Made DecodeRefusal → Type 0
Makes product wish packets old new (Ok made) = HasMade product wish packets old new made
Makes product wish packets old new (Err refusal) = (new ≡ old) × IsRefused product wish packets (length old) refusal

-- ---- the round trip

-- The result for all packets of an image: all of its rows are there, none is missing, and if nothing was omitted, each pixel is the same.
-- Otherwise the room is too small, the image has more pixels or its packets have more octets than the wish allows, or there is no memory.
abbrev pub BringsImage : DecodeWish → Setting → (rows : ℕ) → (ℕ → ℕ → ℤ) → (new : List ℕ) → Result Made DecodeRefusal → Type 0
BringsImage wish s rows x new (Ok made) = (made.octets ≡ rows * (s.width * pixel_size s.depth)) × GivesBack s rows x (take made.octets new) made.done
BringsImage wish s rows x new (Err (SmallRoom g needed octets)) = (g ≡ image_geometry s rows) × (needed ≡ rows)
BringsImage wish s rows x new (Err (TooManyPixels pixels)) = (wish.pixels < pixels) × (pixels ≤ s.width * rows)
BringsImage wish s rows x new (Err LongInput) = wish.octets ≤ length (output s rows x)
BringsImage wish s rows x new (Err Memory) = ⊤
BringsImage wish s rows x new (Err NoSegment) = ⊥

-- the same for each image that was written with the wish's code book
abbrev pub BringsBack : DecodeWish → (packets new : List ℕ) → Result Made DecodeRefusal → Type 0
BringsBack wish packets new result =
    (s : Setting) (rows : ℕ) (x : ℕ → ℕ → ℤ) → wish.apid ≡ s.apid → wish.book ≡ s.book → packets ≡ output s rows x → IsImageFor s rows x →
    BringsImage wish s rows x new result
