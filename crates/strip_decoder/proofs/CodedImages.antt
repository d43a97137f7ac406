-- The texts of an image's segments begin with their heads.
use Rattle.std.proofs.Common.{◌≡◌, ◌≤◌, ◌<◌, ◌+◌, ◌-◌, ◌*◌, ◌%◌, ◌^◌, ℕ, ℤ, Bool, true, false, List, ◌++◌, length, take, drop, min, sym, ap, ◌∙◌, inl, inr}
use Rattle.std.proofs.Common.{arith, append_assoc, length-append, length-drop, ◌==◌, if◌then◌else◌, Ok, IsTrue, take_all, take_at, take-append-drop}
use Rattle.std.proofs.Common.{take-take, length-take, length-take-le}
use Rattle.std.proofs.lemmas.Bool.{cases_lt}
use Rattle.std.proofs.lemmas.Bool.Decides.{nat_tests}
use Rattle.std.proofs.Math.Seq.{take-append-add}
use Rattle.base_122.specs.Ranges.{IsInRange, IsWithin, rows_range}
use Rattle.base_122.specs.declared.setting.Setting.{Setting}
use Rattle.item_defs.specs.Bits.{copies, octets_of}
use Rattle.item_defs.specs.Items.{text}
use Rattle.item_defs.specs.Padding.{padding, padded}
use Rattle.item_defs.proofs.BitLists.{length-copies}
use Rattle.item_defs.proofs.OctetBits.{length-octets_of}
use Rattle.item_defs.proofs.Rounding.{rounded_bounds}
use Rattle.base_122.specs.declared.book.Book.{Book}
use Rattle.segment_defs.specs.declared.head.SegmentHead.{SegmentHead}
use Rattle.segment_defs.specs.Coded.{chosen_options, coded, coded_bits}
use Rattle.segment_defs.specs.Depths.{block_depths}
use Rattle.segment_defs.specs.Head.{IsHead, head_bits, head_length}
use Rattle.segment_defs.specs.Reading.{head_read}
use Rattle.segment_defs.specs.SegmentItems.{segment_items}
use Rattle.segment_defs.proofs.WrittenFields.{octets_of-append}
use Rattle.segment_head.proofs.WrittenHeads.{head_undoes, length-head_bits}
use Rattle.segment_code.specs.ShortTexts.{TextsAreShort}
use Rattle.plane_defs.specs.Codes.{is_book_sound}
use Rattle.segment_code.proofs.TextBits.{head_short}
use Rattle.segment_code.proofs.CodedChoices.{words_are, numbers_are}
use Rattle.packet_assembly.proofs.HeadLengths.{head_within}
use Rattle.packet_defs.specs.Packets.{part_of, part_size}
use Rattle.stream_defs.specs.Output.{head_for, image_blocks, segment_of, segment_text, segments_of}
use Rattle.stream_defs.specs.Places.{AreCoded}
use Rattle.strip_decoder.specs.Images.{ArePixels}
use Rattle.strip_decoder.proofs.SpelledImages.{length-segment, head_fits, spells}
use Rattle.segment_defs.proofs.Equations.{coded-is, text_octets-is}

-- the first octets are those of the first bits
first_octets : (n : ℕ) (bits : List Bool) → take n (octets_of bits) ≡ octets_of (take (8 * n) bits)
first_octets n bits = grind (arith, nat_tests, cases_lt, length, take_all, length-octets_of, whole)
  where
    whole : 8 * n ≤ length bits → take n (octets_of bits) ≡ octets_of (take (8 * n) bits)
    whole room =
        let prefix = take (8 * n) bits in
        let long : length prefix ≡ 8 * n = length-take-le (8 * n) bits room in
        ap (λ r. take n (octets_of r)) (sym (take-append-drop (8 * n) bits))
        ∙ ap (take n) (octets_of-append n prefix (drop (8 * n) bits) long)
        ∙ take_at (octets_of prefix) (octets_of (drop (8 * n) bits)) n (length-octets_of prefix ∙ omega (arith, long))

head_least : (last : Bool) → 19 ≤ (if last then 20 else 19)
head_least last = grind (arith, nat_tests)

-- a prefix of a prefix is a prefix
take_less : (m n : ℕ) (xs : List ℕ) → take m (take n xs) ≡ take (min m n) xs
take_less m n xs = grind (arith, nat_tests, take_all, length-take, take-take)

module _ (book : Book) (h : SegmentHead) (blocks : List (List ℤ)) (ok : IsHead h) (ten : length h.image.weights.shifts ≡ 10) (small : h.count < 256) where
  abbrev bits : List Bool
  bits = coded_bits book h blocks

  abbrev zeros : List Bool
  zeros = copies (padding h.image.word h.limit h.fill (length bits)) false

  abbrev after : List Bool
  after = text (segment_items h blocks (block_depths blocks) (chosen_options book h blocks)) ++ zeros

  abbrev all : List ℕ
  all = octets_of (padded h.image.word h.limit h.fill bits)

  -- its first octets determine the head, if there are at least 20
  if_known : (m : ℕ) → 20 ≤ m → head_read (take m all) ≡ Ok h
  if_known m some =
      let n = head_length h in
      let hb = head_bits h in
      let bits_long = length-head_bits h ten in
      let octets_long : length (octets_of hb) ≡ n = length-octets_of hb ∙ omega (arith, bits_long) in
      let k : ℕ = m - n in
      let most = head_short h.last in
      let whole : m ≡ length (octets_of hb) + k = omega (arith, octets_long, some, most) in
      let parts : all ≡ octets_of hb ++ octets_of after =
      ap octets_of (append_assoc hb (text (segment_items h blocks (block_depths blocks) (chosen_options book h blocks))) zeros)
      ∙ octets_of-append n hb after bits_long in
      ap (λ o. head_read (take m o)) parts
      ∙ ap (λ j. head_read (take j (octets_of hb ++ octets_of after))) whole
      ∙ ap head_read (take-append-add (octets_of hb) (octets_of after) k)
      ∙ ap (λ o. head_read (octets_of hb ++ o)) (first_octets k after)
      ∙ ap head_read (sym (octets_of-append n hb (take (8 * k) after) bits_long))
      ∙ head_undoes h (take (8 * k) after) ok small ten

  -- and so do those of the text, which the limit may cut
  text_reports : (m : ℕ) → 20 ≤ m → head_read (take m (coded book h blocks)) ≡ Ok h
  text_reports m some = rw (coded-is, text_octets-is) (grind (arith, nat_tests, if_known, take_less))

  -- it isn't too long
  text_short : length (head_bits h ++ text (segment_items h blocks (block_depths blocks) (chosen_options book h blocks))) < 2 ^ 34 →
      length (coded book h blocks) < 2 ^ 32
  text_short few = rw (coded-is, text_octets-is) (by (h.limit == 0))
    where
      limit_few : h.limit < 2 ^ 27
      limit_few = elim ok.limit [ inl none ↦ omega (arith, none) | inr given ↦ omega (arith, given.1) ]

      all_few : length all < 2 ^ 32
      all_few = grind (arith, nat_tests, rounded_bounds, length, length-append, length-copies, filled, length-octets_of, limit_few)
        where
          filled : (fill : Bool) (limit : ℕ) → (if fill then 8 * limit else 0) ≤ 8 * limit
          filled true limit = omega arith
          filled false limit = omega arith

      by : (b : Bool) → length (if b then all else take h.limit all) < 2 ^ 32
      by true = all_few
      by false = omega (arith, all_few, length-take h.limit all)

pub images_coded : TextsAreShort → (s : Setting) (x : ℕ → ℕ → ℤ) → IsInRange s → IsTrue (is_book_sound s.book) → IsWithin rows_range s.rows →
    length s.weights.shifts ≡ 10 → ArePixels s s.rows x → AreCoded s (image_blocks s x)
images_coded short s x range sound height ten pixels = record {
  setting = range;
  rows = height;
  heads = heads;
  some = λ index lt.
      let within = head_within _ _ (heads index lt) in
      let least = head_least (head_for s (image_blocks s x) index).last in
      let packet = range.packet in
      omega (
        arith,
        within,
        least,
        length-take (part_size s.packet) (drop (0 * part_size s.packet) (segment_text s (image_blocks s x) index)),
        length-drop (0 * part_size s.packet) (segment_text s (image_blocks s x) index),
      );
  long = λ index lt.
      let blocks = segment_of s (image_blocks s x) index in
      let h = head_for s (image_blocks s x) index in
      let ok = head_fits s x range height pixels index lt in
      text_short s.book h blocks ok ten (count_small index) (short h blocks (block_depths blocks) (chosen_options s.book h blocks) ok ten
      (spells s x range height pixels index lt) (words_are s.book sound h blocks) (numbers_are s.book h blocks ok));
  blocks = λ index lt. length-segment s x range height pixels index;
}
  where
    count_small : (index : ℕ) → index % 256 < 256
    count_small index = omega arith

    heads : (index : ℕ) → index < segments_of s → head_read (part_of (part_size s.packet) 0 (segment_text s (image_blocks s x) index))
        ≡ Ok (head_for s (image_blocks s x) index)
    heads index lt = grind (arith, nat_tests, text_reports, head_fits, count_small)
