-- The effect of further octets, and of results, on a reader's state.
use Rattle.std.proofs.Common.{◌≡◌, ◌≢◌, ◌≤◌, ◌<◌, ◌+◌, ◌-◌, ℕ, List, [], ◌++◌, length, take, drop, refl, sym, ap, subst, ◌∙◌, arith, append_assoc, add-zero}
use Rattle.std.proofs.Common.{length-append, length-drop, Bool, true, false, ◌||◌, ◌==◌, Some, None, Result, Ok, Err, slice_range}
use Rattle.std.proofs.lemmas.Bool.{false≢true, or_parts}
use Rattle.std.proofs.lemmas.Bool.Decides.{nat_tests}
use Rattle.std.proofs.lemmas.List.{append-nil, take-append-le, drop-append-le, drop-take, drop-drop, length-take-le, take-take, take_at, with_items_is}
use Rattle.std.proofs.Math.Seq.{take-append-add}
use Rattle.std.specs.Global.{Vec}
use Rattle.std.specs.Vec.{with_items}
use borrow.Rule.Slice.PartMut.{put_mid, post_of}
use Rattle.bit_pipe.specs.declared.fault.InFault.TheVariants.{ReadFault}
use Rattle.bit_pipe.specs.declared.fault.InFault.{InFault}
use Rattle.port_122.specs.Outside.{Outside, Exchange, ReadFailed}
use Rattle.port_122.proofs.Stretches.{since_weaker}
use Rattle.port_122.proofs.ReadCalls.{since_read, since_unread, unread_rose}
use Rattle.packet_defs.specs.declared.packet.PacketRead.{PacketRead}
use Rattle.space_packets.specs.PacketReads.{AsksUndecided, EndsPacket, ReadsPacket, TakenSoFar, Fed}
use Rattle.packet_defs.specs.declared.packet.PacketRead.TheVariants.{Ended, Fault, Mine, Skipped}
use Rattle.packet_defs.specs.declared.packet.Framing.TheVariants.{BadVersion, CutPacket}
use Rattle.packet_defs.specs.declared.packet.Skip.{Skip}
use Rattle.packet_defs.specs.Reading.{packet_read, read_as, skip_of, head_in, ancillary_in, text_in}
use Rattle.packet_defs.specs.Streams.{has_bad_version, begins_packet, first_packet, after_packet, framing_at, missing}
use Rattle.space_packets.specs.Intake.{Intake, place_of, is_decided, end_read, verdict, text_mine, answered, fed}
use Rattle.packet_defs.proofs.Equations.{begins_packet-is, framing_at-is, packet_read-is}

-- two states are the same if their parts are
pub same_intake : {v w : Intake} → v.cap ≡ w.cap → v.taken ≡ w.taken → v.pending ≡ w.pending → v.text ≡ w.text → v.ended ≡ w.ended → v ≡ w
same_intake c t p x e = λ i. record { cap = c i; taken = t i; pending = p i; text = x i; ended = e i }

-- octets, and then more, or the end
pub fed_both : (v : Intake) (xs ys : List ℕ) (saw_end : Bool) → fed (fed v xs false) ys saw_end ≡ fed v (xs ++ ys) saw_end
fed_both v xs ys saw_end = grind (arith, nat_tests, same_intake, length, length-append, append_assoc)

-- octets that were read after those that wait
pub waits_more : (xs piece : List ℕ) (start end count k : ℕ) → start ≤ end → end ≤ length xs → count ≤ length piece →
    slice_range (put_mid end k xs piece) start (end + count) ≡ slice_range xs start end ++ take count piece
waits_more xs piece start end count k order within few =
    let prefix = take end xs in
    let tail = piece ++ post_of end k xs in
    let size : length prefix ≡ end = length-take-le end xs within in
    let parts : start + (end - start) ≡ end = omega arith in
    let waits : drop start prefix ≡ slice_range xs start end =
    subst (λ n. drop start (take n xs) ≡ slice_range xs start end) parts (drop-take start (end - start) xs) in
    let long : length (drop start prefix) ≡ end - start = length-drop start prefix ∙ ap (λ n. n - start) size in
    let count_is : end + count - start ≡ length (drop start prefix) + count = omega (arith, long) in
    ap (λ n. take n (drop start (prefix ++ tail))) count_is
    ∙ ap (take (length (drop start prefix) + count)) (drop-append-le start prefix tail (omega (arith, size)))
    ∙ take-append-add (drop start prefix) tail count
    ∙ ap (λ zs. zs ++ take count tail) waits
    ∙ ap (λ zs. slice_range xs start end ++ zs) (take-append-le count piece (post_of end k xs) few)

-- octets that wait after they were moved within a buffer
pub waits_moved : (v : Vec ℕ) (old moved xs : List ℕ) (start s held : ℕ) → old ≡ v.items → take held (drop s moved) ≡ take held (drop start old) →
    length moved ≡ length old →
    xs ≡ (with_items v moved).items → take held (drop s xs) ≡ take held (drop start v.items)
waits_moved v old moved xs start s held was same long is = grind (arith, nat_tests, with_items_is)

-- the length of what waits is within its bounds
pub length-waits : (xs : List ℕ) (start end : ℕ) → start ≤ end → end ≤ length xs → length (slice_range xs start end) ≡ end - start
length-waits xs start end order within = length-take-le (end - start) (drop start xs) (omega (arith, length-drop start xs))

-- a piece that was read after those that wait, which begin at s, and whether it was the end
pub fed_piece : (v : Intake) (now xs piece : List ℕ) (s held count k : ℕ) (ended saw_end : Bool) → now ≡ put_mid (s + held) k xs piece →
    take held (drop s xs) ≡ v.pending → s + held ≤ length xs → count ≤ length piece →
    ended ≡ (v.ended || saw_end) →
    record { cap = v.cap; taken = v.taken + count; pending = slice_range now s (s + held + count); text = []; ended = ended } ≡ fed v (take count piece) saw_end
fed_piece v now xs piece s held count k ended saw_end is waits within few over = grind (arith, nat_tests, slice_range, same_intake, length-take-le, waits_more)

pub fed_nothing : (v : Intake) (now xs piece : List ℕ) (s held k : ℕ) → now ≡ put_mid (s + held) k xs piece → take held (drop s xs) ≡ v.pending →
    s + held ≤ length xs →
    record { cap = v.cap; taken = v.taken; pending = slice_range now s (s + held); text = []; ended = v.ended } ≡ fed v [] false
fed_nothing v now xs piece s held k is waits within =
    let n : s + held - s ≡ held = omega arith in
    let more : slice_range (put_mid (s + held) k xs piece) s (s + held + 0) ≡ slice_range xs s (s + held) ++ [] =
    grind (arith, nat_tests, slice_range, waits_more) in
    grind (arith, nat_tests, slice_range, add-zero, same_intake, or_false)
  where
    or_false : (b : Bool) → (b || false) ≡ b
    or_false true = refl
    or_false false = refl

pub or_true : (a : Bool) (n : ℕ) → n ≡ 0 → true ≡ (a || (n == 0))
or_true a n e = grind (arith, nat_tests)

pub or_none : (a : Bool) (n : ℕ) → n ≢ 0 → a ≡ (a || (n == 0))
or_none a n e = grind (arith, nat_tests)

-- ---- what is decided

pub no_begin : (xs : List ℕ) → has_bad_version xs ≡ true → begins_packet xs ≡ false
no_begin xs bad = simp begins_packet-is (rw bad refl)

pub verdict_bad : (apid : ℕ) (v : Intake) → has_bad_version v.pending ≡ true → verdict apid v ≡ Some (Ok (Fault (BadVersion (place_of v))))
unfolding verdict
verdict_bad apid v bad = rw bad refl

pub verdict_end : (apid : ℕ) (v : Intake) → has_bad_version v.pending ≡ false → begins_packet v.pending ≡ false → v.ended ≡ true →
    verdict apid v ≡ Some (Ok (end_read (framing_at (place_of v) v.pending)))
unfolding verdict
verdict_end apid v good none over = rw (good, none, over) refl

pub verdict_ended : (apid : ℕ) (v : Intake) → has_bad_version v.pending ≡ false → begins_packet v.pending ≡ false → v.ended ≡ true → length v.pending ≡ 0 →
    verdict apid v ≡ Some (Ok Ended)
verdict_ended apid v good none over empty = grind (arith, nat_tests, framing_at-is, verdict_end)

pub verdict_cut : (apid : ℕ) (v : Intake) → has_bad_version v.pending ≡ false → begins_packet v.pending ≡ false → v.ended ≡ true → length v.pending ≢ 0 →
    verdict apid v ≡ Some (Ok (Fault (CutPacket (missing v.pending))))
verdict_cut apid v good none over some = grind (arith, nat_tests, framing_at-is, length, verdict_end)

pub answered_packet : (apid : ℕ) (v : Intake) → begins_packet v.pending ≡ true →
    answered apid v ≡ record v { pending = after_packet v.pending; text = text_mine apid (first_packet v.pending) }
unfolding answered
answered_packet apid v whole = rw whole refl

pub answered_none : (apid : ℕ) (v : Intake) → begins_packet v.pending ≡ false → v.text ≡ [] → answered apid v ≡ v
unfolding answered
answered_none apid v none no_text = rw none (same_intake refl refl refl (sym no_text) refl)

pub read_skipped : (apid : ℕ) (packet : List ℕ) (skip : Skip) → skip_of apid packet ≡ Some skip → packet_read apid packet ≡ Skipped skip
read_skipped apid packet skip e = simp packet_read-is (ap (λ o. read_as o packet) e)

pub read_mine : (apid : ℕ) (packet : List ℕ) → skip_of apid packet ≡ None → packet_read apid packet ≡ Mine (head_in packet) (ancillary_in packet)
read_mine apid packet e = simp packet_read-is (ap (λ o. read_as o packet) e)

-- the state after a packet of the image, and after another
pub passed_mine : (apid : ℕ) (v : Intake) (text : List ℕ) (after : List ℕ) → begins_packet v.pending ≡ true → skip_of apid (first_packet v.pending) ≡ None →
    after ≡ after_packet v.pending → text ≡ text_in (first_packet v.pending) → record v { pending = after; text = text } ≡ answered apid v
passed_mine apid v text after whole mine rest is = grind (arith, nat_tests, same_intake, answered_packet)

pub passed_other : (apid : ℕ) (v : Intake) (text after : List ℕ) (skip : Skip) → begins_packet v.pending ≡ true → skip_of apid (first_packet v.pending)
    ≡ Some skip →
    after ≡ after_packet v.pending → text ≡ [] → record v { pending = after; text = text } ≡ answered apid v
passed_other apid v text after skip whole other rest is = grind (arith, nat_tests, same_intake, answered_packet)

-- a part of the octets from a place on
drop_of_take : (n k : ℕ) (zs : List ℕ) → k ≤ n → drop k (take n zs) ≡ take (n - k) (drop k zs)
drop_of_take n k zs within =
    let parts : k + (n - k) ≡ n = omega arith in
    subst (λ m. drop k (take m zs) ≡ take (n - k) (drop k zs)) parts (drop-take k (n - k) zs)

-- the octets that wait, after the first of them
pub waits_past : (xs : List ℕ) (start end count : ℕ) → start + count ≤ end → slice_range xs (start + count) end ≡ drop count (slice_range xs start end)
waits_past xs start end count within = grind (arith, nat_tests, drop-drop, drop_of_take)

-- the text within them
pub text_waits : (xs : List ℕ) (start end k count : ℕ) → start + count ≤ end → k ≤ count →
    slice_range xs (start + k) (start + count) ≡ drop k (take count (slice_range xs start end))
text_waits xs start end k count within few = grind (arith, nat_tests, drop-drop, drop_of_take, take-take)

-- ---- up to an answer

-- the read calls so far, if more is taken
asked_more : {p now : Outside} {v w : Intake} (more : List ℕ) → (s : TakenSoFar p now v w) → Exchange p now s.took [] [] (AsksUndecided v (s.took ++ more))
asked_more {v = v} more s = grind (arith, nat_tests, since_weaker, take-append-le)

-- a read call that is made now
asks_now : {p now : Outside} {v w : Intake} (more : List ℕ) → (s : TakenSoFar p now v w) → s.saw_end ≡ false → is_decided w ≡ false →
    AsksUndecided v (s.took ++ more) (length s.took) 0
asks_now {v = v} more s unseen undecided = grind (arith, nat_tests, length, take_at)

-- if nothing is decided, the end wasn't reached
still_open : {p now : Outside} {v w : Intake} → (s : TakenSoFar p now v w) → w.ended ≡ false → s.saw_end ≡ false
still_open {v = v} s going = (or_parts v.ended s.saw_end (sym (ap (λ w. w.ended) s.valid) ∙ going)).1

pub taken_more : {p now new : Outside} {v w u : Intake} → TakenSoFar p now v w → is_decided w ≡ false → w.taken < w.cap → w.ended ≡ false →
    Fed now new w u → TakenSoFar p new v u
taken_more {p = p} {new = new} {v = v} {w = w} {u = u} s undecided below going f =
    let unseen : s.saw_end ≡ false = still_open s going in
    let more = take f.count f.piece in
    let before : w ≡ fed v s.took false = rw unseen at s.valid in
    let size : length more ≡ f.count = length-take-le f.count f.piece f.read.within in
    record {
      took = s.took ++ more;
      saw_end = f.count == 0;
      since = since_read f.count (asked_more more s) f.read (asks_now more s unseen undecided);
      end_seen = λ none. f.read.at_end (is_none f.count none) f.some;
      within = omega (arith, length-append s.took more, size, f.within, ap (λ w. w.taken) before, ap (λ w. w.cap) before);
      at_once = λ decided. absurd (false≢true (sym undecided ∙ ap is_decided (before ∙ ap (λ zs. fed v zs false) (s.at_once decided)) ∙ decided));
      end_below = λ none. let e = is_none f.count none in omega (
        arith,
        length-append s.took more,
        size,
        below,
        e,
        ap (λ w. w.taken) before,
        ap (λ w. w.cap) before,
      );
      valid = f.valid ∙ ap (λ w. fed w more (f.count == 0)) before ∙ fed_both v s.took more (f.count == 0);
    }
  where
    is_none : (n : ℕ) → (n == 0) ≡ true → n ≡ 0
    is_none n e = grind (arith, nat_tests)

-- a read failed
pub read_failed : {p now new : Outside} {v w u : Intake} (apid : ℕ) → TakenSoFar p now v w → is_decided w ≡ false → w.ended ≡ false → ReadFailed now new →
    u ≡ fed w [] false → ReadsPacket apid p new v u (Err ReadFault)
read_failed {p = p} {new = new} {v = v} {w = w} {u = u} apid s undecided going f e =
    let unseen : s.saw_end ≡ false = still_open s going in
    let before : w ≡ fed v s.took false = rw unseen at s.valid in
    let again : fed w [] false ≡ fed v s.took false = grind (arith, nat_tests, fed_both, append-nil) in
    record {
      took = s.took;
      saw_end = false;
      since = subst (λ zs. Exchange p new s.took [] [] (AsksUndecided v zs)) (append-nil s.took)
          (since_unread (asked_more [] s) f (asks_now [] s unseen undecided));
      end_seen = λ no. absurd (false≢true no);
      within = s.within;
      at_once = s.at_once;
      end_below = λ no. absurd (false≢true no);
      ends = (unread_rose s.since f, subst (λ w. is_decided w ≡ false) before undecided, e ∙ again);
    }

-- a verdict is no read fault
never_read_fault : (apid : ℕ) (u : Intake) → verdict apid u ≡ Some (Err ReadFault) → ⊥
unfolding verdict
never_read_fault apid u e = grind (arith, nat_tests)

-- what was decided is returned
ends_with : (apid : ℕ) (p q : Outside) (u w : Intake) (result : Result PacketRead InFault) → verdict apid u ≡ Some result → w ≡ answered apid u →
    EndsPacket apid p q u w result
ends_with apid p q u w result e valid = grind (arith, nat_tests, never_read_fault)

pub taken_all : {p now : Outside} {v w u : Intake} (apid : ℕ) (result : Result PacketRead InFault) → TakenSoFar p now v w → verdict apid w ≡ Some result →
    u ≡ answered apid w →
    ReadsPacket apid p now v u result
taken_all {p = p} {now = now} {v = v} {w = w} {u = u} apid result s e valid = grind (arith, nat_tests, ends_with)
