-- The report on what is made of packets. This project's own.
use Rattle.std.specs.Prelude.{◌≡◌, ◌≢◌, ℕ, ◌==◌, ◌&&◌, not, if◌then◌else◌, List, [], ◌∷◌, length, Option, None, Some, is_none, IsTrue, Result, Ok, Err}
use Rattle.base_122.specs.declared.geometry.Geometry.{Geometry}
use Rattle.base_122.specs.declared.wish.DecodeWish.{DecodeWish}
use Rattle.packet_defs.specs.declared.packet.Framing.{Framing}
use Rattle.packet_defs.specs.declared.packet.Framing.TheVariants.{BadVersion, CutPacket}
use Rattle.plane_defs.specs.Codes.{is_book_sound}
use Rattle.strip122_c.specs.declared.decode.Made.{Made}
use Rattle.strip122_c.specs.declared.decode.DecodeRefusal.{DecodeRefusal}
use Rattle.strip122_c.specs.declared.decode.DecodeRefusal.TheVariants.{NoSegment, SmallRoom, TooManyPixels, LongInput, Memory}
use Rattle.strip122_c.specs.declared.product.Product.{Product}
use Rattle.strip122_c.specs.declared.product.Product.TheVariants.{Picture}
use Rattle.strip122_c.specs.WholeDecoding.{Makes, BringsBack}
use Rattle.strip122_c.specs.declared.decoded.Strip122Decoded.{Strip122Decoded}
use Rattle.strip122_c.specs.declared.ranges.Strip122Range.{Strip122Range}
use Rattle.strip122_c.specs.declared.setting.SettingRefusal.{SettingRefusal}
use Rattle.strip122_c.specs.declared.wish.Strip122Wish.{Strip122Wish}
use Rattle.strip122_c.specs.Settings.{refusal_answer}
use Rattle.strip122_c.specs.Wishes.{wish_in}
use Rattle.strip122_c.specs.Ranges.{ranges_of, put_over}

-- the size of a report
abbrev pub decoded_size : ℕ
decoded_size = 72

abbrev pub nothing : Strip122Decoded
nothing = record {
  size = decoded_size;
  width = 0;
  octets = 0;
  ranges = 0;
  fault_octets = 0;
  pixels = 0;
  rows = 0;
  written = 0;
  segment = 0;
  image = 0;
  depth = 0;
  is_signed = 0;
  word = 0;
  fault = 0;
  weights = 0 ∷ 0 ∷ 0 ∷ 0 ∷ 0 ∷ 0 ∷ 0 ∷ 0 ∷ 0 ∷ 0 ∷ [];
}

-- the report on a geometry, whose rows are 0 if no header reports the height, on a picture with this number of rows, and on the octets that
-- are made
abbrev pub geometry_report : Geometry → (written octets : ℕ) → Strip122Decoded
geometry_report g written octets = record {
  size = decoded_size;
  width = g.width;
  octets = octets;
  ranges = 0;
  fault_octets = 0;
  pixels = 0;
  rows = g.rows;
  written = written;
  segment = g.segment;
  image = g.image;
  depth = g.depth;
  is_signed = if g.signed then 1 else 0;
  word = g.word;
  fault = 0;
  weights = g.weights.shifts;
}

-- the same, with the reason why the packets can't be read on
abbrev pub framing_report : Strip122Decoded → Option Framing → Strip122Decoded
framing_report report None = report
framing_report report (Some (BadVersion octet)) = record report { fault = 1; fault_octets = octet }
framing_report report (Some (CutPacket missing)) = record report { fault = 2; fault_octets = missing }

-- the report on a reading that ended so, with this number of ranges of damaged rows
abbrev pub report_with : Result Made DecodeRefusal → (ranges : ℕ) → Strip122Decoded
report_with (Ok made) ranges = record (framing_report (geometry_report made.done.geometry made.done.written made.octets) made.done.framing) { ranges = ranges }
report_with (Err NoSegment) ranges = nothing
report_with (Err (SmallRoom g rows octets)) ranges = geometry_report g rows octets
report_with (Err (TooManyPixels pixels)) ranges = record nothing { pixels = pixels }
report_with (Err LongInput) ranges = nothing
report_with (Err Memory) ranges = nothing

-- the answer to it: 0 if no row is damaged, the packets were read to their end and a header reports the height
abbrev pub answer_with : Result Made DecodeRefusal → (ranges : ℕ) → ℕ
answer_with (Ok made) ranges = if ((ranges == 0) && is_none made.done.framing) && not (made.done.geometry.rows == 0) then 0 else 1
answer_with (Err NoSegment) ranges = 6
answer_with (Err (SmallRoom g rows octets)) ranges = 7
answer_with (Err Memory) ranges = 8
answer_with (Err (TooManyPixels pixels)) ranges = 14
answer_with (Err LongInput) ranges = 15

-- The answer and the report say how a reading ended, and `ranges` begins with the ranges of damaged rows, as far as there are places.
pub record Reports (ended : Result Made DecodeRefusal) (places ranges : List Strip122Range) (report : Strip122Decoded) (answer : ℕ) : Type 0 where
  pub answer_is : answer ≡ answer_with ended (length (ranges_of ended))
  pub report_is : report ≡ report_with ended (length (ranges_of ended))
  pub ranges_are : ranges ≡ put_over (ranges_of ended) places

-- Packets were read with a wish into a room that was `old`, or refused, and it is reported how that ended. If the product is the picture,
-- the packets of an image give the image.
pub record ReportsDecoding (product : Product) (wish : DecodeWish) (packets old new : List ℕ) (places ranges : List Strip122Range)
    (report : Strip122Decoded) (answer : ℕ) : Type 0 where
  pub ended : Result Made DecodeRefusal
  pub makes : Makes product wish packets old new ended
  pub back : product ≡ Picture → BringsBack wish packets new ended
  pub reports : Reports ended places ranges report answer

-- Packets were read with the wish that a structure gives. A structure that gives none leaves the room and the places unchanged.
abbrev pub DecodesFor : Product → Result DecodeWish SettingRefusal → (packets old new : List ℕ) → (places ranges : List Strip122Range) → Strip122Decoded →
    (answer : ℕ) → Type 0
DecodesFor product (Ok wish) packets old new places ranges report answer = ReportsDecoding product wish packets old new places ranges report answer
DecodesFor product (Err refusal) packets old new places ranges report answer =
    (new ≡ old) × (ranges ≡ places) × (report ≡ nothing) × (answer ≡ refusal_answer refusal)

-- If the report's first field is not its size, the room, the places and the report are as they were.
pub record DecodesInto (product : Product) (c : Strip122Wish) (packets old new : List ℕ) (places ranges : List Strip122Range)
    (before report : Strip122Decoded) (answer : ℕ) : Type 0 where
  pub wrong : before.size ≢ decoded_size → (new ≡ old) × (ranges ≡ places) × (report ≡ before) × (answer ≡ 13)
  pub done : before.size ≡ decoded_size → DecodesFor product (wish_in c) packets old new places ranges report answer

-- ---- a wish that is refused

-- the report and the answer to a wish
abbrev pub RefusesWish : Result DecodeWish SettingRefusal → Strip122Decoded → (answer : ℕ) → Type 0
RefusesWish (Ok wish) report answer = ⊥
RefusesWish (Err refusal) report answer = (report ≡ nothing) × (answer ≡ refusal_answer refusal)

-- a structure gives a wish with a sound book, or this answer
abbrev pub GivesWish : Strip122Wish → (before report : Strip122Decoded) → Result DecodeWish ℕ → Type 0
GivesWish c before report (Ok wish) = (before.size ≡ decoded_size) × (wish_in c ≡ Ok wish) × IsTrue (is_book_sound wish.book)
GivesWish c before report (Err answer) =
    (before.size ≢ decoded_size → (report ≡ before) × (answer ≡ 13)) × (before.size ≡ decoded_size → RefusesWish (wish_in c) report answer)
