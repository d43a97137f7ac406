-- A text is continued by octets, and then by more.
use Rattle.std.proofs.Common.{◌≡◌, ◌≤◌, ◌<◌, ◌+◌, ◌-◌, ◌*◌, ℕ, zero, suc, List, [], ◌++◌, length, take, drop, map, refl, sym, ◌∙◌, ap, arith, add-zero}
use Rattle.std.proofs.Common.{add_assoc, append_assoc, length-append, length-drop}
use Rattle.std.specs.Prelude.{false}
use Rattle.std.specs.List.{range_with_len}
use Rattle.std.proofs.Math.Nat.{zero-mul, mul-le-mul_right}
use Rattle.std.proofs.lemmas.List.{append-nil, drop-append-le, take-append-le, drop-drop}
use Rattle.std.proofs.lemmas.Grind.{flat_map-append}
use Rattle.packet_defs.specs.Packets.{part_of, part_size, joined}
use Rattle.space_packets.specs.declared.stage.PacketiserState.TheVariants.{Begun}
use Rattle.space_packets.specs.declared.stage.Text.{Text}
use Rattle.space_packets.specs.Parts.{full_parts, text_at, packet_of}
use Rattle.space_packets.specs.Progress.{Progress, IsOpen, full_count, full_packet, first_packets, first_octets, written, after, broken}
use Rattle.space_packets.specs.PartLists.{map_both}
use Rattle.space_packets.specs.FullParts.{full_parts_below, full_parts_within, full_parts_left, full_parts_is, full_parts_none}

-- two states are the same if their parts are
pub same_progress : {v w : Progress} → v.packet ≡ w.packet → v.stage ≡ w.stage → v.texts ≡ w.texts → v.packets ≡ w.packets → v.octets ≡ w.octets →
    v.pending ≡ w.pending → v ≡ w
same_progress p s t k o q = λ i. record { packet = p i; stage = s i; texts = t i; packets = k i; octets = o i; pending = q i }

-- ---- by nothing

pub count_none : {t : Text} {v : Progress} → IsOpen t v → full_count v [] ≡ 0
count_none {t = t} {v = v} going =
    full_parts_none (part_size v.packet) (length (v.pending ++ [])) (omega (arith, length-append v.pending [], going.pending)) (omega (arith, going.packet))

pub text_here : (t : Text) → text_at t 0 ≡ t
text_here t = rw (add-zero t.ancillary.part)

pub written_none : {t : Text} {v : Progress} → IsOpen t v → written t v [] ≡ []
unfolding first_packets
written_none {t = t} {v = v} going = ap (λ n. first_octets t v [] n) (count_none going)

pub after_none : {t : Text} {v : Progress} → IsOpen t v → after t v [] ≡ v
unfolding first_packets
after_none {t = t} {v = v} going =
    let none : full_count v [] ≡ 0 = count_none going in
    same_progress refl (ap (λ n. Begun (text_at t n)) none ∙ ap Begun (text_here t) ∙ sym going.stage) refl
    (ap (λ n. v.packets + n) none ∙ add-zero v.packets)
    (ap (λ xs. v.octets + length xs) (written_none going) ∙ add-zero v.octets)
    (ap (λ n. drop (n * part_size v.packet) (v.pending ++ [])) none ∙ ap (λ n. drop n (v.pending ++ [])) (zero-mul (part_size v.packet)) ∙ append-nil v.pending)

-- ---- by more

-- octets counted from a later part
later_drop : (size m i : ℕ) (xs ys : List ℕ) → m * size ≤ length xs → drop ((m + i) * size) (xs ++ ys) ≡ drop (i * size) (drop (m * size) xs ++ ys)
later_drop size m i xs ys within =
    let sum : (m + i) * size ≡ m * size + i * size = omega arith in
    ap (λ n. drop n (xs ++ ys)) sum ∙ sym (drop-drop (i * size) (m * size) (xs ++ ys)) ∙ ap (drop (i * size)) (drop-append-le (m * size) xs ys within)

-- the count of full parts, after a number of them
full_parts_past : (size m octets rest : ℕ) → 0 < size → octets ≡ m * size + rest → 0 < rest → full_parts size octets ≡ m + full_parts size rest
full_parts_past size m octets rest some e more =
    let below : full_parts size rest * size < rest = full_parts_below size rest more in
    let left : rest ≤ full_parts size rest * size + size = full_parts_left size rest some in
    let sum : octets ≡ (m + full_parts size rest) * size + (rest - full_parts size rest * size) = omega arith in
    full_parts_is size octets (m + full_parts size rest) (rest - full_parts size rest * size) sum (omega arith) (omega arith)

-- none of no octets
full_parts_empty : (size : ℕ) → 0 < size → full_parts size 0 ≡ 0
full_parts_empty size some = full_parts_none size 0 (omega arith) some

-- something is always left of some octets
left_of_none : (size octets : ℕ) → octets ≤ full_parts size octets * size → octets ≡ 0
left_of_none size zero none = refl
left_of_none size (suc octets) none = absurd (let below : full_parts size (suc octets) * size < suc octets =
    full_parts_below size (suc octets) (omega arith) in omega arith)

-- counts of full parts add up
parts_both : (size octets more all rest : ℕ) → 0 < size → all ≡ octets + more → rest ≡ octets - full_parts size octets * size + more →
    full_parts size all ≡ full_parts size octets + full_parts size rest
parts_both size octets more all zero some e r =
    let none : octets ≡ 0 = left_of_none size octets (omega arith) in
    let whole : all ≡ 0 = omega arith in
    let empty : full_parts size 0 ≡ 0 = full_parts_empty size some in
    ap (full_parts size) whole ∙ sym (add-zero (full_parts size 0)) ∙ ap (λ n. full_parts size 0 + n) (sym empty)
    ∙ ap (λ n. full_parts size n + full_parts size 0) (sym none)
parts_both size octets more all (suc rest) some e r =
    let least : full_parts size octets * size ≤ octets = full_parts_within size octets in
    full_parts_past size (full_parts size octets) all (suc rest) some (omega arith) (omega arith)

-- ---- the same of a text

-- the octets of full parts are there
full_within : (v : Progress) (octets : List ℕ) → full_count v octets * part_size v.packet ≤ length (v.pending ++ octets)
full_within v octets = full_parts_within (part_size v.packet) (length (v.pending ++ octets))

-- the text is open afterwards
pub after_open : {t : Text} {v : Progress} → IsOpen t v → (octets : List ℕ) → IsOpen (text_at t (full_count v octets)) (after t v octets)
after_open {t = t} {v = v} going octets =
    let all = v.pending ++ octets in
    let count = full_count v octets in
    let size = part_size v.packet in
    let left : length all ≤ count * size + size = full_parts_left size (length all) (omega (arith, going.packet)) in
    record { stage = refl; packet = going.packet; pending = omega (arith, length-drop (count * size) all, left) }

pub count_both : {t : Text} {v : Progress} → IsOpen t v → (xs ys : List ℕ) →
    full_count v (xs ++ ys) ≡ full_count v xs + full_count (after t v xs) ys
count_both {t = t} {v = v} going xs ys =
    let size = part_size v.packet in
    let all = v.pending ++ xs in
    let kept = drop (full_count v xs * size) all in
    let total : length (v.pending ++ (xs ++ ys)) ≡ length all + length ys = ap length (sym (append_assoc v.pending xs ys)) ∙ length-append all ys in
    let rest : length (kept ++ ys) ≡ length all - full_count v xs * size + length ys =
    length-append kept ys ∙ ap (λ n. n + length ys) (length-drop (full_count v xs * size) all) in
    parts_both size (length all) (length ys) (length (v.pending ++ (xs ++ ys))) (length (kept ++ ys)) (omega (arith, going.packet)) total rest

-- a part among the first octets
part_before : (size part : ℕ) (xs ys : List ℕ) → (part + 1) * size ≤ length xs → part_of size part (xs ++ ys) ≡ part_of size part xs
part_before size part xs ys within =
    let start : part * size ≤ length xs = omega arith in
    let room : size ≤ length (drop (part * size) xs) = omega (arith, length-drop (part * size) xs) in
    rw (drop-append-le (part * size) xs ys start, take-append-le size (drop (part * size) xs) ys room)

-- the packet of a part among the first octets
packet_before : (t : Text) (v : Progress) (xs ys : List ℕ) (part : ℕ) → part < full_count v xs → full_packet t v (xs ++ ys) part ≡ full_packet t v xs part
packet_before t v xs ys part few =
    let size = part_size v.packet in
    let all = v.pending ++ xs in
    let within : (part + 1) * size ≤ length all = omega (arith, full_within v xs, mul-le-mul_right {m = part + 1} {n = full_count v xs} size (omega arith)) in
    ap (λ octets. packet_of (text_at t part) (v.packets + part) false octets)
    (ap (part_of size part) (sym (append_assoc v.pending xs ys)) ∙ part_before size part all ys within)

text_on : (t : Text) (m n : ℕ) → text_at t (m + n) ≡ text_at (text_at t m) n
text_on t m n = rw (add_assoc t.ancillary.part m n)

-- the packet of a part after them
pub packet_past : (t : Text) (v : Progress) (xs ys : List ℕ) (part : ℕ) →
    full_packet t v (xs ++ ys) (full_count v xs + part) ≡ full_packet (text_at t (full_count v xs)) (after t v xs) ys part
packet_past t v xs ys part =
    let size = part_size v.packet in
    let all = v.pending ++ xs in
    let m = full_count v xs in
    let octets : part_of size (m + part) (v.pending ++ (xs ++ ys)) ≡ part_of size part (drop (m * size) all ++ ys) =
    ap (part_of size (m + part)) (sym (append_assoc v.pending xs ys)) ∙ ap (take size) (later_drop size m part all ys (full_within v xs)) in
    let number : v.packets + (m + part) ≡ v.packets + m + part = sym (add_assoc v.packets m part) in
    ap (λ u. packet_of u (v.packets + (m + part)) false (part_of size (m + part) (v.pending ++ (xs ++ ys)))) (text_on t m part)
    ∙ ap (λ n. packet_of (text_at (text_at t m) part) n false (part_of size (m + part) (v.pending ++ (xs ++ ys)))) number
    ∙ ap (packet_of (text_at (text_at t m) part) (v.packets + m + part) false) octets

pub first_both : (t : Text) (v : Progress) (xs ys : List ℕ) (n : ℕ) →
    first_octets t v (xs ++ ys) (full_count v xs + n) ≡ written t v xs ++ first_octets (text_at t (full_count v xs)) (after t v xs) ys n
unfolding first_packets
first_both t v xs ys n =
    let m = full_count v xs in
    let f = full_packet t v (xs ++ ys) in
    let g = full_packet t v xs in
    let h = full_packet (text_at t m) (after t v xs) ys in
    let lists : map f (range_with_len 0 (m + n)) ≡ map g (range_with_len 0 m) ++ map h (range_with_len 0 n) =
    map_both f g h m n (packet_before t v xs ys) (packet_past t v xs ys) in
    ap joined lists ∙ flat_map-append _ (map g (range_with_len 0 m)) (map h (range_with_len 0 n))

pub written_both : {t : Text} {v : Progress} → IsOpen t v → (xs ys : List ℕ) →
    written t v (xs ++ ys) ≡ written t v xs ++ written (text_at t (full_count v xs)) (after t v xs) ys
written_both {t = t} {v = v} going xs ys =
    ap (first_octets t v (xs ++ ys)) (count_both going xs ys) ∙ first_both t v xs ys (full_count (after t v xs) ys)

-- counts of octets add up
pub octets_both : (before : ℕ) (all xs ys : List ℕ) → all ≡ xs ++ ys → before + length all ≡ before + length xs + length ys
octets_both before all xs ys e = omega (arith, ap length e, length-append xs ys)

pub after_both : {t : Text} {v : Progress} → IsOpen t v → (xs ys : List ℕ) →
    after t v (xs ++ ys) ≡ after (text_at t (full_count v xs)) (after t v xs) ys
after_both {t = t} {v = v} going xs ys =
    let size = part_size v.packet in
    let all = v.pending ++ xs in
    let m = full_count v xs in
    let n = full_count (after t v xs) ys in
    let count : full_count v (xs ++ ys) ≡ m + n = count_both going xs ys in
    let kept : drop ((m + n) * size) (v.pending ++ (xs ++ ys)) ≡ drop (n * size) (drop (m * size) all ++ ys) =
    ap (drop ((m + n) * size)) (sym (append_assoc v.pending xs ys)) ∙ later_drop size m n all ys (full_within v xs) in
    same_progress refl (ap (λ k. Begun (text_at t k)) count ∙ ap Begun (text_on t m n)) refl
    (ap (λ k. v.packets + k) count ∙ sym (add_assoc v.packets m n))
    (octets_both v.octets (written t v (xs ++ ys)) (written t v xs) (written (text_at t m) (after t v xs) ys) (written_both going xs ys))
    (ap (λ k. drop (k * size) (v.pending ++ (xs ++ ys))) count ∙ kept)

pub broken_both : (t : Text) (v : Progress) (xs ys : List ℕ) (n : ℕ) →
    broken t v (xs ++ ys) (full_count v xs + n) ≡ broken (text_at t (full_count v xs)) (after t v xs) ys n
broken_both t v xs ys n =
    let m = full_count v xs in
    same_progress refl refl refl (sym (add_assoc v.packets m n))
    (octets_both v.octets (first_octets t v (xs ++ ys) (m + n)) (written t v xs) (first_octets (text_at t m) (after t v xs) ys n) (first_both t v xs ys n))
    refl
