-- The text of one segment of an image.
use Rattle.std.proofs.Common.{◌≡◌, ◌≢◌, ℕ, ◌+◌, ◌-◌, ◌/◌, ◌<◌, ◌≤◌, ◌==◌, ℤ, Bool, false, if◌then◌else◌, List, length, refl, sym, ap, subst, arith, inl}
use Rattle.std.proofs.Common.{inr, length-append, length-take, le-div_iff_mul-le, mul-le-mul_right}
use Rattle.std.proofs.lemmas.Bool.{cases_lt}
use Rattle.std.proofs.lemmas.Bool.Decides.{nat_tests}
use Rattle.std.proofs.lemmas.List.FromFn.{length-map-range_with_len}
use Rattle.base_122.specs.Sizes.{padded_size}
use Rattle.base_122.proofs.GeometryRanges.{in_range-sized}
use Rattle.base_122.specs.declared.book.Book.{Book}
use Rattle.strip_coder.specs.Plans.{Job, IsPlan, whole}
use Rattle.item_defs.proofs.BitLists.{length-copies}
use Rattle.item_defs.proofs.OctetBits.{length-octets_of}
use Rattle.segment_defs.specs.declared.head.SegmentHead.{SegmentHead}
use Rattle.wave_defs.specs.Held.{block_at, blocks_in}
use Rattle.segment_defs.specs.Depths.{depth_dc_of, depth_ac_of}
use Rattle.segment_defs.specs.Head.{head_bits, head_fields, IsHead}
use Rattle.segment_defs.specs.Text.{cut}
use Rattle.segment_defs.specs.Coded.{coded}
use Rattle.stream_defs.specs.Output.{head_with, segments_of, share}
use Rattle.stream_defs.specs.Shares.{CanBeSaid}
use Rattle.stream_defs.proofs.ShareLaws.{said_by, share_none}
use Rattle.strip_coder.specs.declared.work.ImageAt.{ImageAt}
use Rattle.strip_coder.specs.Works.{KeepsShare}
use Rattle.strip_coder.specs.SegmentsOut.{text_for}
use Rattle.wave_defs.proofs.Equations.{blocks_in-is}
use Rattle.segment_defs.proofs.Equations.{head_bits-is, coded-is, text_octets-is}
use Rattle.item_defs.proofs.Equations.{bits_of-none, bits_of-more}

pub length-blocks_in : (cells : List ℤ) → length (blocks_in cells) ≡ length cells / 64
length-blocks_in cells = rw blocks_in-is (length-map-range_with_len (block_at cells) 0 (length cells / 64))

-- a head of a setting in range can be written
pub head_is : (s : Job) (index limit count depth_dc depth_ac : ℕ) → IsPlan s → CanBeSaid (whole s) limit → 1 ≤ count → count ≤ 1048575 →
    1 ≤ depth_dc → depth_dc ≤ 28 → depth_ac ≤ 27 → IsHead (head_with (whole s) index limit count depth_dc depth_ac)
head_is s index limit count depth_dc depth_ac range said some most least_dc most_dc most_ac = record {
  depth_dc = (least_dc, most_dc);
  depth_ac = most_ac;
  pad_rows = pads (index + 1 == segments_of (whole s)) s.rows;
  pads_last = none (index + 1 == segments_of (whole s)) s.rows;
  limit = said.limit;
  plane = plane_least s.setting.stop.dc s.setting.stop.plane (omega (arith, range.in_range.plane));
  stage = stage_least s.setting.stop.dc s.setting.stop.stage (omega (arith, range.in_range.stage));
  stops_at_dc = λ dc. (ap (λ b. if b then 0 else s.setting.stop.plane) dc, ap (λ b. if b then 3 else s.setting.stop.stage) dc);
  fill = said.fill;
  blocks = (some, omega arith);
  image = record {
    depth = range.in_range.depth;
    width = (range.in_range.width.0, omega (arith, range.in_range.width));
    word = range.in_range.word;
    weights = range.in_range.weights;
  };
}
  where
    plane_least : (dc : Bool) (plane : ℕ) → plane < 32 → (if dc then 0 else plane) < 32
    plane_least dc plane h = grind (arith, nat_tests)

    stage_least : (dc : Bool) (stage : ℕ) → stage < 4 → (if dc then 3 else stage) < 4
    stage_least dc stage h = grind (arith, nat_tests)

    pads : (last : Bool) (rows : ℕ) → (if last then padded_size rows - rows else 0) < 8
    pads last rows = grind (arith, nat_tests)

    none : (last : Bool) (rows : ℕ) → last ≡ false → (if last then padded_size rows - rows else 0) ≡ 0
    none last rows e = grind (arith, nat_tests)

-- a head isn't empty
head_some : (h : SegmentHead) → 1 ≤ length (head_bits h)
unfolding head_fields
head_some h = grind (arith, nat_tests, head_bits-is, bits_of-none, bits_of-more)

-- nor is what a limit leaves of octets
cut_some : (limit : ℕ) (octets : List ℕ) → 0 < length octets → 0 < length (cut limit octets)
cut_some limit octets some = grind (arith, nat_tests, length-take)

-- nor is a text that has one
pub coded_some : (book : Book) (h : SegmentHead) (blocks : List (List ℤ)) → 1 ≤ h.image.word → 0 < length (coded book h blocks)
coded_some book h blocks word = rw (coded-is, text_octets-is)
    (grind (arith, nat_tests, head_some, length-append, mul-le-mul_right, length-copies, cut_some, length-octets_of, le-div_iff_mul-le))

-- the head is the segment's own if its depths are those of the blocks
pub text_same : (s : Job) (index used count depth_dc depth_ac : ℕ) (segment : List (List ℤ)) → count ≡ length segment →
    depth_dc ≡ depth_dc_of segment → depth_ac ≡ depth_ac_of segment →
    coded s.setting.book (head_with (whole s) index (share (whole s) index used) count depth_dc depth_ac) segment ≡ text_for s index used segment
text_same s index used count depth_dc depth_ac segment e f g = rw (e, f, g) refl

-- a head can have the share of what is left as its limit
pub share_said : (s : Job) (at : ImageAt) → IsPlan s → KeepsShare (whole s) at → at.index < segments_of (whole s) →
    CanBeSaid (whole s) (share (whole s) at.index at.used)
share_said s at range keeps lt = elim (cases_lt 0 s.setting.total) [
  | inl some ↦
      let bound : s.setting.total ≢ 0 = λ none. omega (arith, none, some) in
      said_by (whole s) (in_range-sized s.setting s.rows range.in_range range.height) bound at.index at.used lt (keeps.left bound)
  | inr le ↦
      let none : s.setting.total ≡ 0 = omega (arith, le) in
      subst (CanBeSaid (whole s)) (sym (share_none (whole s) at.index at.used none)) (record {
        limit = elim range.in_range.limit [ inl unset ↦ inl unset | inr given ↦ inr (given.0.0, omega (arith, given.0), given.1) ];
        fill = λ set. elim (range.in_range.fill set) [ inl some ↦ some | inr other ↦ absurd (other none) ];
      })
]
