-- A whole text: the packets that are written are those of the text.
use Rattle.std.proofs.Common.{◌≡◌, ◌≤◌, ◌<◌, ◌+◌, ◌*◌, ℕ, List, [], ◌∷◌, ◌++◌, length, drop, map, ◌∙◌, ap, arith, length-drop, Bool, true, false, ◌==◌}
use Rattle.std.proofs.Common.{append-nil, take_all}
use Rattle.std.specs.List.{range_with_len}
use Rattle.std.proofs.Math.Nat.{add-mul-div_right}
use Rattle.std.proofs.lemmas.Bool.Decides.{nat_tests}
use Rattle.std.proofs.lemmas.List.FromFn.{map-range_with_len_more}
use Rattle.packet_defs.specs.Packets.{part_count, part_of, part_packet, part_size, text_packets, joined}
use Rattle.packet_defs.proofs.Joins.{joined-append}
use Rattle.space_packets.specs.declared.stage.Text.{Text}
use Rattle.space_packets.specs.Parts.{full_parts, text_at, packet_of}
use Rattle.space_packets.specs.Progress.{Progress, begun, full_count, full_packet, first_packets, written, after, last_packet}
use Rattle.space_packets.specs.PartLists.{map_same}
use Rattle.space_packets.specs.FullParts.{full_parts_left}
use Rattle.packet_defs.proofs.Equations.{text_packets-is}

-- all parts except one are full and not the last
pub parts_and_last : (size octets : ℕ) → 0 < size → 0 < octets → part_count size octets ≡ full_parts size octets + 1
parts_and_last size octets some more = grind (arith, nat_tests, add-mul-div_right)

not_last : (part n : ℕ) → part < n → (part + 1 == n + 1) ≡ false
not_last part n few = grind (arith, nat_tests)

is_last : (n : ℕ) → (n + 1 == n + 1) ≡ true
is_last n = grind (arith, nat_tests)

-- the packet of a part, by its number in the text
packet_is : (t : Text) (packet before n part : ℕ) (last : Bool) (text : List ℕ) → t.ancillary.part ≡ 0 → (part + 1 == n) ≡ last →
    part_packet t.apid t.ancillary packet before n part text ≡ packet_of (text_at t part) (before + part) last (part_of (part_size packet) part text)
unfolding packet_of
packet_is t packet before n part last text first e = grind (arith, nat_tests)

pub whole_text : (v : Progress) (t : Text) (text : List ℕ) → 64 ≤ v.packet → t.ancillary.part ≡ 0 → 0 < length text →
    joined (text_packets t.apid t.ancillary v.packet v.packets text)
    ≡ written t (begun v t) text ++ last_packet (text_at t (full_count (begun v t) text)) (after t (begun v t) text)
unfolding first_packets
whole_text v t text least first some =
    simp text_packets-is (
    let size = part_size v.packet in
    let n = full_parts size (length text) in
    let count : part_count size (length text) ≡ n + 1 = parts_and_last size (length text) (omega arith) some in
    let f = λ (part : ℕ). part_packet t.apid t.ancillary v.packet v.packets (part_count size (length text)) part text in
    let g = full_packet t (begun v t) text in
    let prefix : map f (range_with_len 0 n) ≡ map g (range_with_len 0 n) =
    map_same f g 0 n (λ i low few. packet_is t v.packet v.packets (part_count size (length text)) i false text first
    (ap (λ k. i + 1 == k) count ∙ not_last i n (omega (arith, few)))) in
    let left : part_of size n text ≡ drop (n * size) text =
    take_all size (drop (n * size) text) (omega (arith, length-drop (n * size) text, full_parts_left size (length text) (omega arith))) in
    let last : f n ≡ packet_of (text_at t n) (v.packets + n) true (drop (n * size) text) =
    packet_is t v.packet v.packets (part_count size (length text)) n true text first (ap (λ k. n + 1 == k) count ∙ is_last n)
    ∙ ap (packet_of (text_at t n) (v.packets + n) true) left in
    ap (λ k. joined (map f (range_with_len 0 k))) count
    ∙ ap joined (map-range_with_len_more f 0 n n (omega arith))
    ∙ joined-append (map f (range_with_len 0 n)) (f n ∷ [])
    ∙ ap (λ xs. joined xs ++ joined (f n ∷ [])) prefix
    ∙ ap (λ xs. joined (map g (range_with_len 0 n)) ++ xs) (append-nil (f n) ∙ last))
