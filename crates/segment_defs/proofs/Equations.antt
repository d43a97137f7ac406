-- What the definitions of segments compute to: outside this crate these equations are cited, and nothing is unfolded.
use Rattle.std.proofs.Common.{◌≡◌, ℕ, List, ◌++◌, Bool, cond, refl, ℤ, take, drop, flat_map}
use Rattle.item_defs.specs.Bits.{value_of, bits_of_octets, octets_of}
use Rattle.item_defs.specs.Padding.{padded}
use Rattle.base_122.specs.declared.book.Book.{Book}
use Rattle.segment_defs.specs.declared.head.SegmentHead.{SegmentHead}
use Rattle.segment_defs.specs.Head.{part_1a, part_1b, part_2, part_3, part_4, head_fields, field_bits, head_bits}
use Rattle.segment_defs.specs.Fields.{number_in}
use Rattle.segment_defs.specs.Reading.{answer, first_refusal, head_tests, head_in, head_read}
use Rattle.segment_defs.specs.SegmentItems.{Options, dc_part_items, items_after_dc, segment_items}
use Rattle.segment_defs.specs.Text.{cut, text_octets}
use Rattle.segment_defs.specs.Coded.{coded_bits, coded}

pub number_in-is : (octets : List ℕ) (start width : ℕ) → number_in octets start width ≡ value_of (take width (drop start (bits_of_octets octets)))
unfolding number_in
number_in-is octets start width = refl

pub head_bits-is : (h : SegmentHead) → head_bits h ≡ flat_map field_bits (part_1a h ++ part_1b h ++ part_2 h ++ part_3 h ++ part_4 h.image)
unfolding head_bits head_fields
head_bits-is h = refl

pub head_read-is : (octets : List ℕ) → head_read octets ≡ answer (first_refusal (head_tests octets)) (head_in octets)
unfolding head_read
head_read-is octets = refl

pub segment_items-is : (head : SegmentHead) (blocks : List (List ℤ)) (depths : List ℕ) (options : Options) →
    segment_items head blocks depths options ≡ cond head.stop.dc (dc_part_items head blocks options)
    (dc_part_items head blocks options ++ items_after_dc head blocks depths options)
unfolding segment_items
segment_items-is head blocks depths options = refl

pub text_octets-is : (word limit : ℕ) (fill : Bool) (bits : List Bool) → text_octets word limit fill bits ≡ cut limit (octets_of (padded word limit fill bits))
unfolding text_octets
text_octets-is word limit fill bits = refl

pub coded-is : (book : Book) (head : SegmentHead) (blocks : List (List ℤ)) → coded book head blocks ≡ text_octets head.image.word head.limit head.fill
    (coded_bits book head blocks)
unfolding coded
coded-is book head blocks = refl
