-- How many octets the packets of texts have.
use Rattle.std.proofs.Common.{◌≡◌, ◌≤◌, ◌<◌, ℕ, zero, suc, ◌+◌, ◌-◌, ◌*◌, ℤ, Bool, List, [], ◌∷◌, ◌++◌, length, map, min, drop, ap, ◌∙◌, subst, add-one}
use Rattle.std.proofs.Common.{arith, append-nil, length-append, length-drop, length-take}
use Rattle.std.specs.List.{range_with_len}
use Rattle.std.proofs.lemmas.List.FromFn.{map-range_with_len_more}
use Rattle.base_122.specs.declared.setting.Setting.{Setting}
use Rattle.packet_defs.specs.declared.ancillary.Ancillary.{Ancillary}
use Rattle.packet_defs.specs.Packets.{ancillary_octets, identification, joined, packet_with, part_count, part_of, part_packet, part_size, sequence_control}
use Rattle.packet_defs.specs.Packets.{sequence_flags, text_packets}
use Rattle.packet_defs.proofs.Equations.{text_packets-is}
use Rattle.packet_defs.proofs.Joins.{joined-append}
use Rattle.byteorder.specs.Endian.{big_bytes}
use Rattle.stream_defs.specs.Output.{ancillary_of, packets_before, packets_of, segment_packets, segment_text}
use Rattle.stream_defs.proofs.Outputs.{packets_of-more}
use Rattle.stream_defs.proofs.SettledLaws.{rows_rise}
use Rattle.encoder_rows.specs.Room.{packet_octets}

-- ---- one text

length-part_of : (size part : ℕ) (text : List ℕ) → length (part_of size part text) ≡ min size (length text - part * size)
length-part_of size part text = omega (arith, length-take size (drop (part * size) text), length-drop (part * size) text)

length-packet_with : (apid flags number : ℕ) (field : List ℕ) → length (packet_with apid flags number field) ≡ 6 + length field
length-packet_with apid flags number field =
    length-append (big_bytes 2 (identification apid) ++ big_bytes 2 (sequence_control flags number) ++ big_bytes 2 (length field - 1)) field

length-part_packet : (apid : ℕ) (a : Ancillary) (packet before n part : ℕ) (text : List ℕ) →
    length (part_packet apid a packet before n part text) ≡ 30 + min (part_size packet) (length text - part * part_size packet)
length-part_packet apid a packet before n part text =
    let field = ancillary_octets (record a { part = part }) ++ part_of (part_size packet) part text in
    let long : length field ≡ 24 + length (part_of (part_size packet) part text) =
    length-append (ancillary_octets (record a { part = part })) (part_of (part_size packet) part text) in
    omega (arith, long, length-packet_with apid (sequence_flags part n) (before + part) field, length-part_of (part_size packet) part text)

one_more : (n size total : ℕ) → min (n * size) total + min size (total - n * size) ≡ min ((n + 1) * size) total
one_more n size total = let e : (n + 1) * size ≡ n * size + size = grind arith in omega (arith, e)

length-parts : (f : ℕ → List ℕ) (size total : ℕ) → ((i : ℕ) → length (f i) ≡ 30 + min size (total - i * size)) → (n : ℕ) →
    length (joined (map f (range_with_len 0 n))) ≡ 30 * n + min (n * size) total
length-parts f size total each zero = let e : 0 * size ≡ 0 = omega arith in omega (arith, e)
length-parts f size total each (suc n) =
    let more : map f (range_with_len 0 (n + 1)) ≡ map f (range_with_len 0 n) ++ f n ∷ [] = map-range_with_len_more f 0 n n (omega arith) in
    let parts : joined (map f (range_with_len 0 (n + 1))) ≡ joined (map f (range_with_len 0 n)) ++ (f n ++ []) =
    ap joined more ∙ joined-append (map f (range_with_len 0 n)) (f n ∷ []) in
    let long = ap length parts ∙ length-append (joined (map f (range_with_len 0 n))) (f n ++ []) in
    let last = ap length (append-nil (f n)) in
    let now : length (joined (map f (range_with_len 0 (n + 1)))) ≡ 30 * (n + 1) + min ((n + 1) * size) total =
    omega (arith, long, last, length-parts f size total each n, each n, one_more n size total) in
    subst (λ k. length (joined (map f (range_with_len 0 k))) ≡ 30 * k + min (k * size) total) (add-one n) now

pub length-text_packets : (apid : ℕ) (a : Ancillary) (packet before : ℕ) (text : List ℕ) →
    length (joined (text_packets apid a packet before text)) ≤ packet_octets packet (length text)
length-text_packets apid a packet before text =
    let size = part_size packet in
    let n = part_count size (length text) in
    let all = length-parts (λ part. part_packet apid a packet before n part text) size (length text) (λ i. length-part_packet apid a packet before n i text)
    n in
    omega (arith, ap (λ ps. length (joined ps)) (text_packets-is apid a packet before text), all)

-- a shorter text has no more
pub packet_octets-rises : (packet m n : ℕ) → 64 ≤ packet → m ≤ n → packet_octets packet m ≤ packet_octets packet n
packet_octets-rises packet m n some le =
    let size = part_size packet in
    let more : part_count size m ≤ part_count size n = rows_rise (m + size - 1) (n + size - 1) size (omega (arith, some)) (omega (arith, le)) in
    omega (arith, le, more)

-- ---- the texts of some segments

-- more segments have no fewer octets
pub packets_of-rises : (reported_last : Bool) (s : Setting) (all : List (List ℤ)) (n more : ℕ) →
    length (joined (packets_of reported_last s all n)) ≤ length (joined (packets_of reported_last s all (n + more)))
packets_of-rises reported_last s all n zero = let e : n + 0 ≡ n = omega arith in let same =
    ap (λ k. length (joined (packets_of reported_last s all k))) e in omega (arith, same)
packets_of-rises reported_last s all n (suc more) =
    let before = packets_of-rises reported_last s all n more in
    let next : (n + more) + 1 ≡ n + suc more = omega arith in
    let same = ap (λ k. length (joined (packets_of reported_last s all k))) next in
    let parts = ap (λ ps. length (joined ps)) (packets_of-more reported_last s all (n + more))
    ∙ ap length (joined-append (packets_of reported_last s all (n + more)) (segment_packets reported_last s all (n + more))) in
    omega (
      arith,
      before,
      same,
      parts,
      length-append (joined (packets_of reported_last s all (n + more)))
          (joined (segment_packets reported_last s all (n + more))),
    )

module _ (reported_last : Bool) (s : Setting) (some : 64 ≤ s.packet) (all : List (List ℤ)) (most : ℕ) where
  length-segment_packets : (index : ℕ) → length (segment_text s all index) ≤ most → length (joined (segment_packets reported_last s all index)) ≤ packet_octets
      s.packet most
  length-segment_packets index few =
      let text = segment_text s all index in
      let here = length-text_packets s.apid (ancillary_of reported_last s index) s.packet (packets_before s all index) text in
      omega (arith, here, packet_octets-rises s.packet (length text) most some few)

  -- n more segments
  pub length-packets_of : (from n : ℕ) → ((index : ℕ) → from ≤ index → index < from + n → length (segment_text s all index) ≤ most) →
      length (joined (packets_of reported_last s all (from + n))) ≤ length (joined (packets_of reported_last s all from)) + n * packet_octets s.packet most
  length-packets_of from zero few = let e : from + 0 ≡ from = omega arith in rw e (omega arith)
  length-packets_of from (suc n) few =
      let before = length-packets_of from n (λ index low high. few index low (omega (arith, high))) in
      let here = length-segment_packets (from + n) (few (from + n) (omega arith) (omega arith)) in
      let parts = ap (λ ps. length (joined ps)) (packets_of-more reported_last s all (from + n))
      ∙ ap length (joined-append (packets_of reported_last s all (from + n)) (segment_packets reported_last s all (from + n))) in
      let next : (from + n) + 1 ≡ from + suc n = omega arith in
      let more : suc n * packet_octets s.packet most ≡ n * packet_octets s.packet most + packet_octets s.packet most = grind arith in
      let now : length (joined (packets_of reported_last s all ((from + n) + 1))) ≤ length (joined (packets_of reported_last s all from))
      + suc n * packet_octets s.packet most =
      omega (
        arith,
        before,
        here,
        parts,
        more,
        length-append (joined (packets_of reported_last s all (from + n)))
            (joined (segment_packets reported_last s all (from + n))),
      ) in
      subst (λ k. length (joined (packets_of reported_last s all k)) ≤ length (joined (packets_of reported_last s all from)) + suc n * packet_octets
      s.packet most)
      next now
