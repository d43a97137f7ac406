-- The fields of a packet of an image, by its place.
use Rattle.std.proofs.Common.{◌≡◌, ◌≤◌, ◌<◌, ◌+◌, ◌*◌, ◌^◌, ℕ, ℤ, List, length, drop, ap, ◌∙◌, arith, length-take, Bool, ◌==◌, if◌then◌else◌}
use Rattle.std.proofs.Common.{div-mul-le_self, mul-le-mul_left, mul-le-mul_right}
use Rattle.std.proofs.lemmas.Bool.Decides.{nat_tests}
use Rattle.base_122.specs.Ranges.{IsWithin, rows_range}
use Rattle.base_122.specs.Sizes.{total_blocks}
use Rattle.base_122.specs.declared.setting.Setting.{Setting}
use Rattle.base_122.proofs.SizeBounds.{first_block-lt, total_blocks-most}
use Rattle.packet_defs.specs.declared.ancillary.Ancillary.{Ancillary}
use Rattle.packet_defs.specs.Packets.{sequence_flags, part_count, part_of, part_size}
use Rattle.packet_defs.specs.Reading.{flags_in}
use Rattle.packet_defs.specs.Written.{IsAncillary}
use Rattle.packet_defs.specs.Laws.{ReadsBack}
use Rattle.packet_defs.proofs.ReadBack.{reads_back}
use Rattle.stream_defs.specs.Output.{ancillary_of, packets_before, segment_text, segments_of}
use Rattle.stream_defs.specs.Places.{parts_of, packet_at, AreCoded}
use Rattle.stream_defs.specs.Fates.{begins, closes}

-- what is written in the packet of a part
abbrev pub written_at : (reported_last : Bool) → Setting → (index part : ℕ) → Ancillary
written_at reported_last s index part = record (ancillary_of reported_last s index) { part = part }

flags_say : (first last : Bool) → begins ((if first then 1 else 0) + (if last then 2 else 0)) ≡ first
flags_say first last = grind (arith, nat_tests)

flags_close : (first last : Bool) → closes ((if first then 1 else 0) + (if last then 2 else 0)) ≡ last
flags_close first last = grind (arith, nat_tests)

pub flags_few : (first last : Bool) → (if first then 1 else 0) + (if last then 2 else 0) < 4
flags_few first last = grind (arith, nat_tests)

-- there are no more parts than octets
few_parts : (size octets : ℕ) → 0 < size → part_count size octets ≤ octets
few_parts size octets some = grind (arith, nat_tests, div-mul-le_self, mul-le-mul_right, mul-le-mul_left)

module _ (s : Setting) (all : List (List ℤ)) (coded : AreCoded s all) where
  pub some_blocks : 0 < s.segment
  some_blocks = let range = coded.setting.segment in omega (arith, range)

  pub block_before : (index : ℕ) → index < segments_of s → index * s.segment < total_blocks s.width s.rows
  block_before index lt = first_block-lt (total_blocks s.width s.rows) s.segment index some_blocks lt

module _ (reported_last : Bool) (s : Setting) (all : List (List ℤ)) (coded : AreCoded s all) where
  rows_fit : (if_known : Bool) → IsWithin rows_range s.rows → (if if_known then 0 else s.rows) < 2 ^ 32
  rows_fit if_known rows = grind (arith, nat_tests)

  fits : (index part : ℕ) → index < segments_of s → part < parts_of s all index → IsAncillary (written_at reported_last s index part)
  fits index part lt few =
      let r = coded.setting in
      let image = r.image in
      let rows = coded.rows in
      let segment = r.segment in
      let packet = r.packet in
      let before = block_before s all coded index lt in
      let most = total_blocks-most s.width s.rows r.width rows in
      let long = coded.long index lt in
      let parts = few_parts (part_size s.packet) (length (segment_text s all index)) (omega (arith, packet)) in
      record {
        image = omega (arith, image);
        rows = rows_fit reported_last rows;
        segment = omega (arith, segment);
        index = omega (arith, mul-le-mul_left {m = 1} {n = s.segment} index (omega (arith, segment)), before, most);
        first = omega (arith, before, most);
        part = omega (arith, few, parts, long);
      }

  -- the packet of a part is read as it was written
  pub part_reads : (index part : ℕ) → index < segments_of s → part < parts_of s all index →
      ReadsBack s.apid (sequence_flags part (parts_of s all index)) (written_at reported_last s index part)
      (part_of (part_size s.packet) part (segment_text s all index)) (packet_at reported_last s all index part)
  part_reads index part lt few =
      reads_back s.apid (sequence_flags part (parts_of s all index)) (packets_before s all index + part) (written_at reported_last s index part)
      (part_of (part_size s.packet) part (segment_text s all index)) record {
        own = omega (arith, coded.setting.apid);
        few_flags = flags_few (part == 0) (part + 1 == parts_of s all index);
        ancillary = fits index part lt few;
        room = omega (arith, coded.setting.packet, length-take (part_size s.packet) (drop (part * part_size s.packet) (segment_text s all index)));
      }

  -- its flags say whether it is the first and whether it is the last
  pub part_begins : (index part : ℕ) → index < segments_of s → part < parts_of s all index → begins (flags_in (packet_at reported_last s all index part))
      ≡ (part == 0)
  part_begins index part lt few = ap begins (part_reads index part lt few).flags_are ∙ flags_say (part == 0) (part + 1 == parts_of s all index)

  pub part_closes : (index part : ℕ) → index < segments_of s → part < parts_of s all index → closes (flags_in (packet_at reported_last s all index part))
      ≡ (part + 1 == parts_of s all index)
  part_closes index part lt few = ap closes (part_reads index part lt few).flags_are ∙ flags_close (part == 0) (part + 1 == parts_of s all index)
