-- A whole text by its calls: begin, octets, and close, or a failure among them.
use Rattle.std.proofs.Common.{◌≡◌, ◌≤◌, ◌<◌, ◌+◌, ◌-◌, ℕ, suc, List, [], ◌++◌, length, take, drop, map, refl, sym, ◌∙◌, ap, subst, arith, append_assoc}
use Rattle.std.proofs.Common.{length-append, length-drop, zero-add, Result, Ok, Err, MatchResult, take-append-drop}
use Rattle.std.specs.List.{range_with_len}
use Rattle.std.proofs.Math.Seq.{take-append_seam}
use Rattle.std.proofs.lemmas.Bool.Decides.{nat_tests}
use Rattle.port_122.specs.Outside.{Outside, Exchange, NoRead, Rose}
use Rattle.port_122.proofs.Stretches.{since_out, rose_since}
use Rattle.packet_defs.specs.Packets.{part_size, part_count, text_packets, joined}
use Rattle.packet_defs.proofs.Joins.{joined-append}
use Rattle.space_packets.specs.declared.stage.PacketiserState.TheVariants.{Idle, Begun}
use Rattle.space_packets.specs.declared.stage.Text.{Text}
use Rattle.space_packets.specs.Parts.{text_at}
use Rattle.space_packets.specs.Progress.{Progress, IsOpen, begun, full_count, full_packet, first_packets, first_octets, written, after, last_packet}
use Rattle.space_packets.specs.Progress.{past_packet, broken, stopped, ended}
use Rattle.space_packets.specs.Writes.{Continues, StopsEarly, PacketOut, PacketFailed, WritesPacket, TextOut, TextCut}
use Rattle.space_packets.specs.PartLists.{map_split}
use Rattle.space_packets.specs.Going.{same_progress, octets_both, written_both}
use Rattle.space_packets.proofs.Whole.{whole_text, parts_and_last}

-- a text is open as it begins
pub begun_open : (v : Progress) (t : Text) → 64 ≤ v.packet → IsOpen t (begun v t)
begun_open v t least = record { stage = refl; packet = least; pending = omega arith }

-- octets wait if a text isn't empty
pub some_wait : {t : Text} {p q : Outside} (v : Progress) {w : Progress} (text : List ℕ) → 0 < length text → Continues t p q (begun v t) w text →
    0 < length w.pending
some_wait {t = t} v {w = w} text some first = grind (arith, nat_tests, length-drop)

-- the state at the end
ended_is : (v : Progress) (t : Text) (text : List ℕ) → 64 ≤ v.packet → t.ancillary.part ≡ 0 → 0 < length text →
    past_packet (after t (begun v t) text) Idle (last_packet (text_at t (full_count (begun v t) text)) (after t (begun v t) text)) ≡ ended v t text
ended_is v t text least first some =
    let b = begun v t in
    let n = full_count b text in
    let count : v.packets + n + 1 ≡ v.packets + part_count (part_size v.packet) (length text) = grind (arith, nat_tests, length, parts_and_last) in
    same_progress refl refl refl count
    (sym (octets_both v.octets (joined (text_packets t.apid t.ancillary v.packet v.packets text)) (written t b text)
    (last_packet (text_at t n) (after t b text)) (whole_text v t text least first some)))
    refl

-- begin, a text that isn't empty, close: its packets are written
pub text_out : {t : Text} {p q r : Outside} (v : Progress) {w u : Progress} (text : List ℕ) → 64 ≤ v.packet → t.ancillary.part ≡ 0 → 0 < length text →
    Continues t p q (begun v t) w text → PacketOut q r w u Idle (last_packet (text_at t (full_count (begun v t) text)) w) → TextOut t p r v u text
text_out {t = t} {p = p} {q = q} {r = r} v {w = w} {u = u} text least first some sent closing =
    let b = begun v t in
    let end = text_at t (full_count b text) in
    let last : PacketOut q r (after t b text) u Idle (last_packet end (after t b text)) = grind (arith, nat_tests) in
    record {
      out = subst (λ gave. Exchange p r [] gave [] NoRead) (sym (whole_text v t text least first some)) (since_out sent.out last.out);
      valid = last.valid ∙ ended_is v t text least first some;
    }

-- ---- a failure

-- a prefix is at most as long as the whole
prefix_length : (prefix rest whole : List ℕ) → whole ≡ prefix ++ rest → length prefix ≤ length whole
prefix_length prefix rest whole e = omega (arith, ap length e, length-append prefix rest)

prefix_is : (prefix rest whole : List ℕ) → whole ≡ prefix ++ rest → take (length prefix) whole ≡ prefix
prefix_is prefix rest whole e = ap (take (length prefix)) e ∙ take-append_seam prefix rest

-- a failure with a prefix written
cut_at : {t : Text} {p q : Outside} {v w : Progress} (text prefix rest : List ℕ) →
    joined (text_packets t.apid t.ancillary v.packet v.packets text) ≡ prefix ++ rest → Exchange p q [] prefix [] NoRead → Rose p.write_faults q.write_faults →
    (u : Progress) → w ≡ stopped u → u.packet ≡ v.packet → TextCut t p q v w text
cut_at {t = t} {p = p} {q = q} {v = v} {w = w} text prefix rest e out rose u valid same =
    let whole = joined (text_packets t.apid t.ancillary v.packet v.packets text) in
    record {
      some = length prefix;
      within = prefix_length prefix rest whole e;
      out = subst (λ gave. Exchange p q [] gave [] NoRead) (sym (prefix_is prefix rest whole e)) out;
      rose = rose;
      broken = ap (λ (w : Progress). w.stage) valid;
      packet = ap (λ (w : Progress). w.packet) valid ∙ same;
    }

-- at its close
pub text_cut_at_close : {t : Text} {p q r : Outside} (v : Progress) {w u : Progress} (text : List ℕ) → 64 ≤ v.packet → t.ancillary.part ≡ 0 → 0 < length text →
    Continues t p q (begun v t) w text → PacketFailed q r w u (last_packet (text_at t (full_count (begun v t) text)) w) → TextCut t p r v u text
text_cut_at_close {t = t} {p = p} {q = q} {r = r} v {w = w} {u = u} text least first some sent failed =
    let b = begun v t in
    let end = text_at t (full_count b text) in
    let last : PacketFailed q r (after t b text) u (last_packet end (after t b text)) = grind (arith, nat_tests) in
    let packet = last_packet end (after t b text) in
    let split : joined (text_packets t.apid t.ancillary v.packet v.packets text) ≡ (written t b text ++ take last.some packet) ++ drop last.some packet =
    whole_text v t text least first some
    ∙ ap (λ xs. written t b text ++ xs) (sym (take-append-drop last.some packet))
    ∙ sym (append_assoc (written t b text) (take last.some packet) (drop last.some packet)) in
    cut_at text (written t b text ++ take last.some packet) (drop last.some packet) split (since_out sent.out last.out)
    (rose_since sent.out.faults.writes last.rose) (after t b text) last.valid refl

-- one full packet among them
one_of : (t : Text) (v : Progress) (octets : List ℕ) (k m : ℕ) → k < m →
    (rest : List ℕ) × (first_octets t v octets m ≡ first_octets t v octets k ++ (full_packet t v octets k ++ rest))
unfolding first_packets
one_of t v octets k m few =
    let f = full_packet t v octets in
    let more = m - k - 1 in
    let sum : m ≡ k + suc more = omega arith in
    let tail = joined (map f (range_with_len (0 + k + 1) more)) in (
      tail,
      ap (λ n. joined (map f (range_with_len 0 n))) sum ∙ ap joined (map_split f 0 k (suc more))
          ∙ joined-append (map f (range_with_len 0 k)) (map f (range_with_len (0 + k) (suc more)))
          ∙ ap (λ i. joined (map f (range_with_len 0 k)) ++ (f i ++ tail)) (zero-add k),
    )

regrouped : (a t d r w l : List ℕ) → ((a ++ ((t ++ d) ++ r)) ++ w) ++ l ≡ (a ++ t) ++ (((d ++ r) ++ w) ++ l)
regrouped a t d r w l = simp append_assoc

-- among its octets
pub text_cut : {t : Text} {p q : Outside} (v : Progress) {w : Progress} (octets more : List ℕ) → 64 ≤ v.packet → t.ancillary.part ≡ 0 →
    0 < length (octets ++ more) →
    StopsEarly t p q (begun v t) w octets → TextCut t p q v w (octets ++ more)
text_cut {t = t} {p = p} {q = q} v {w = w} octets more least first some broke =
    let b = begun v t in
    let k = broke.count in
    let n = full_count b octets in
    let packet = full_packet t b octets k in
    let prefix = first_octets t b octets k in
    let one = one_of t b octets k n broke.few in
    let next = written (text_at t n) (after t b octets) more in
    let text = octets ++ more in
    let last = last_packet (text_at t (full_count b text)) (after t b text) in
    let split : joined (text_packets t.apid t.ancillary v.packet v.packets text) ≡ (prefix ++ take broke.some packet)
    ++ (((drop broke.some packet ++ one.0) ++ next) ++ last) =
    whole_text v t text least first some
    ∙ ap (λ xs. xs ++ last) (written_both (begun_open v t least) octets more)
    ∙ ap (λ xs. (xs ++ next) ++ last) one.1
    ∙ ap (λ xs. ((prefix ++ (xs ++ one.0)) ++ next) ++ last) (sym (take-append-drop broke.some packet))
    ∙ regrouped prefix (take broke.some packet) (drop broke.some packet) one.0 next last in
    cut_at text (prefix ++ take broke.some packet) (((drop broke.some packet ++ one.0) ++ next) ++ last) split broke.out broke.rose (broken t b octets k)
    broke.valid refl

-- close, with either result
pub text_closed : {T E : Type 0} (r : Result T E) (v w u : Progress) (t : Text) (text : List ℕ) (p q s : Outside) →
    64 ≤ v.packet → t.ancillary.part ≡ 0 → 0 < length text → Continues t p q (begun v t) w text →
    ((x : Text) → w.stage ≡ Begun x → WritesPacket r q s w u Idle (last_packet x w)) →
    MatchResult r (λ _. TextOut t p s v u text) (λ _. TextCut t p s v u text)
text_closed (Ok done) v w u t text p q s least first some sent closing =
    text_out v text least first some sent (closing (text_at t (full_count (begun v t) text)) (ap (λ (w : Progress). w.stage) sent.valid))
text_closed (Err failed) v w u t text p q s least first some sent closing =
    text_cut_at_close v text least first some sent (closing (text_at t (full_count (begun v t) text)) (ap (λ (w : Progress). w.stage) sent.valid))
