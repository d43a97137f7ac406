-- The steps of a pick.
use Rattle.std.proofs.lemmas.Bool.Decides.{nat_tests}
use Rattle.std.proofs.Common.{◌≡◌, ◌≤◌, ◌<◌, ◌+◌, ℕ, List, [], ◌∷◌, ◌++◌, length, take, refl, sym, ap, subst, ◌∙◌, arith, length-append, Bool, true, false}
use Rattle.std.proofs.Common.{cond, filter, Option, None}
use Rattle.std.proofs.lemmas.List.{append-nil, take-append-le, take_all}
use Rattle.std.proofs.lemmas.List.Elements.{filter-append}
use Rattle.packet_defs.proofs.Splits.{few_packets}
use Rattle.port_122.specs.Outside.{Outside, Exchange, NoRead}
use Rattle.port_122.proofs.Stretches.{since_start, since_out, since_weaker}
use Rattle.port_122.proofs.ReadCalls.{since_in}
use Rattle.base_122.specs.declared.wish.DecodeWish.{DecodeWish}
use Rattle.packet_defs.specs.Packets.{joined}
use Rattle.packet_defs.specs.Streams.{first_packet}
use Rattle.packet_defs.proofs.Joins.{joined-append}
use Rattle.space_packets.specs.Intake.{Intake, unread}
use Rattle.space_packets.specs.PacketReads.{AsksUndecided, TakenSoFar}
use Rattle.packet_assembly.proofs.Readings.{end_later}
use Rattle.packet_assembly.specs.Readings.{AsksReadable}
use Rattle.packet_assembly.specs.PacketSteps.{reading}
use Rattle.packet_assembly.proofs.PacketSteps.{unread_so, unended_so, whole_so_far, read_more, readable_fed, end_more, read_past, end_past, octets_left}
use Rattle.packet_assembly.proofs.PacketSteps.{less_left}
use Rattle.camera_mux.specs.Picked.{is_picked, picked_of, picked}
use Rattle.camera_mux.specs.PickProgress.{AsksPicked, HasPicked}
use Rattle.camera_mux.specs.PickSteps.{GivesNext, PassesOther}

-- ---- one packet more

-- the octets of the picked packets of two lists
pub picked_both : (apid : ℕ) (image : Option ℕ) (xs ys : List (List ℕ)) → joined (picked_of apid image (xs ++ ys)) ≡ joined (picked_of apid image xs)
    ++ joined (picked_of apid image ys)
picked_both apid image xs ys = ap joined (filter-append (is_picked apid image) xs ys) ∙ joined-append (picked_of apid image xs) (picked_of apid image ys)

-- a packet that is picked
pub picked_more : (apid : ℕ) (image : Option ℕ) (xs : List (List ℕ)) (packet : List ℕ) → is_picked apid image packet ≡ true →
    joined (picked_of apid image (xs ++ packet ∷ [])) ≡ joined (picked_of apid image xs) ++ packet
picked_more apid image xs packet is =
    picked_both apid image xs (packet ∷ []) ∙ ap (λ b. joined (picked_of apid image xs) ++ joined (cond b (packet ∷ []) [])) is
    ∙ ap (λ zs. joined (picked_of apid image xs) ++ zs) (append-nil packet)

count_more : (apid : ℕ) (image : Option ℕ) (xs : List (List ℕ)) (packet : List ℕ) → is_picked apid image packet ≡ true →
    length (picked_of apid image (xs ++ packet ∷ [])) ≡ length (picked_of apid image xs) + 1
count_more apid image xs packet is = grind (arith, nat_tests, length, filter-append, cond, length-append)

-- one that isn't
picked_same : (apid : ℕ) (image : Option ℕ) (xs : List (List ℕ)) (packet : List ℕ) → is_picked apid image packet ≡ false →
    picked_of apid image (xs ++ packet ∷ []) ≡ picked_of apid image xs
picked_same apid image xs packet isnt = grind (arith, nat_tests, filter-append, cond, append-nil)

-- ---- read calls

-- a read call at earlier octets is unchanged, whatever is taken afterwards
asks_took : (apid : ℕ) (image : Option ℕ) (took t gave : List ℕ) (i j : ℕ) → i ≤ length took → AsksPicked apid image took gave i j →
    AsksPicked apid image (took ++ t) gave i j
asks_took apid image took t gave i j le asks = (asks.0, asks.1 ∙ ap (λ zs. picked zs apid image) (sym (take-append-le i took t le)))

-- and whatever is given
asks_gave : (apid : ℕ) (image : Option ℕ) (took gave g : List ℕ) (i j : ℕ) → AsksPicked apid image took gave i j → AsksPicked apid image took (gave ++ g) i j
asks_gave apid image took gave g i j asks = (omega (arith, asks.0, length-append gave g), take-append-le j gave g asks.0 ∙ asks.1)

-- some octets more were given
pub gave_on : {wish : DecodeWish} {image : Option ℕ} {start now new : Outside} {v : Intake} {packets : ℕ} {g : List ℕ} →
    (arrived : HasPicked wish image start now v packets) → Exchange now new [] g [] NoRead →
    Exchange start new arrived.took (joined (picked_of wish.apid image arrived.passed) ++ g) []
    (AsksPicked wish.apid image arrived.took (joined (picked_of wish.apid image arrived.passed) ++ g))
gave_on {wish = wish} {image = image} {g = g} arrived gives =
    let gave = joined (picked_of wish.apid image arrived.passed) in
    since_out (since_weaker arrived.since (λ i j le r. asks_gave wish.apid image arrived.took gave g i j r)) gives

-- ---- octets more

-- the octets that decide what is next were taken
pub filled : {wish : DecodeWish} {image : Option ℕ} {start now new : Outside} {v u : Intake} {packets : ℕ} → HasPicked wish image start now v packets →
    TakenSoFar now new v u → HasPicked wish image start new u packets
filled {wish = wish} {image = image} {start = start} {new = new} {v = v} {packets = packets} arrived x =
    let given = joined (picked_of wish.apid image arrived.passed) in
    let asks_now : (i j : ℕ) → AsksUndecided v x.took i j → AsksPicked wish.apid image (arrived.took ++ x.took) given (length arrived.took + i)
    (length given + j) = λ i j r.
    let here : length given + j ≡ length given = omega (arith, r.1) in (
      omega (arith, here),
      ap (λ n. take n given) here ∙ take_all (length given) given (omega arith) ∙ ap (λ ps. joined (picked_of wish.apid image ps))
          (sym (whole_so_far arrived.read x i r.0)),
    ) in
    subst (λ u. HasPicked wish image start new u packets) (sym x.valid) (record {
      took = arrived.took ++ x.took;
      passed = arrived.passed;
      since = since_in (since_weaker arrived.since (λ i j le r. asks_took wish.apid image arrived.took x.took given i j le r)) x.since
          (λ i j le r. asks_now i j r);
      readable = readable_fed arrived.read x arrived.readable;
      read = read_more arrived.read x;
      at_end = end_more arrived.read x arrived.at_end;
      packets_are = arrived.packets_are;
    })

-- ---- the next packet

-- it was picked and written
pub given_one : {wish : DecodeWish} {image : Option ℕ} {start now new : Outside} {v w : Intake} {packets : ℕ} → HasPicked wish image start now v packets →
    GivesNext wish.apid image now new v w →
    HasPicked wish image start new w (packets + 1)
given_one {wish = wish} {image = image} {start = start} {new = new} {packets = packets} before x =
    let arrived = filled before x.holds.taken in
    let packet = first_packet x.full.pending in
    let all = arrived.passed ++ packet ∷ [] in
    let more = picked_more wish.apid image arrived.passed packet x.holds.test in
    subst (λ w. HasPicked wish image start new w (packets + 1)) (sym x.valid) (record {
      took = arrived.took;
      passed = all;
      since = subst (λ gave. Exchange start new arrived.took gave [] (AsksPicked wish.apid image arrived.took gave)) (sym more) (gave_on arrived x.gives);
      readable = subst (λ gave. Exchange start new arrived.took gave [] (AsksReadable wish.octets arrived.took)) (sym more)
          (since_out arrived.readable x.gives);
      read = read_past wish.apid wish.apid x.full arrived.passed x.holds.whole wish.octets arrived.took arrived.read;
      at_end = end_past wish.apid wish.apid x.full arrived.passed x.holds.whole new
          (end_later (reading wish.apid x.full arrived.passed None) x.gives arrived.at_end);
      packets_are = ap (λ n. n + 1) arrived.packets_are ∙ sym (count_more wish.apid image arrived.passed packet x.holds.test);
    })

-- it wasn't picked
pub passed_one : {wish : DecodeWish} {image : Option ℕ} {start now new : Outside} {v w : Intake} {packets : ℕ} → HasPicked wish image start now v packets →
    PassesOther wish.apid image now new v w →
    HasPicked wish image start new w packets
passed_one {wish = wish} {image = image} {start = start} {new = new} {packets = packets} before x =
    let arrived = filled before x.holds.taken in
    let packet = first_packet x.full.pending in
    let all = arrived.passed ++ packet ∷ [] in
    let same = picked_same wish.apid image arrived.passed packet x.holds.test in
    subst (λ w. HasPicked wish image start new w packets) (sym x.valid) (record {
      took = arrived.took;
      passed = all;
      since = subst (λ ps. Exchange start new arrived.took (joined ps) [] (AsksPicked wish.apid image arrived.took (joined ps))) (sym same) arrived.since;
      readable = subst (λ ps. Exchange start new arrived.took (joined ps) [] (AsksReadable wish.octets arrived.took)) (sym same) arrived.readable;
      read = read_past wish.apid wish.apid x.full arrived.passed x.holds.whole wish.octets arrived.took arrived.read;
      at_end = end_past wish.apid wish.apid x.full arrived.passed x.holds.whole new arrived.at_end;
      packets_are = arrived.packets_are ∙ ap length (sym same);
    })

-- ---- the beginning

pub none_picked : (wish : DecodeWish) (image : Option ℕ) (start : Outside) (v : Intake) → v ≡ unread wish.octets → HasPicked wish image start start v 0
none_picked wish image start v is = subst (λ v. HasPicked wish image start start v 0) (sym is) (record {
  took = [];
  passed = [];
  since = since_start start _;
  readable = since_start start _;
  read = unread_so wish.apid wish.octets;
  at_end = unended_so wish.apid wish.octets start;
  packets_are = refl;
})

-- ---- what is left

pub less_given : {apid : ℕ} {image : Option ℕ} {old new : Outside} {v w : Intake} → GivesNext apid image old new v w → octets_left w < octets_left v
less_given x = less_left _ x.holds.taken x.holds.whole x.valid

pub less_passed : {apid : ℕ} {image : Option ℕ} {old new : Outside} {v w : Intake} → PassesOther apid image old new v w → octets_left w < octets_left v
less_passed x = less_left _ x.holds.taken x.holds.whole x.valid

-- ---- how many there are

few_filtered : (p : List ℕ → Bool) (packets : List (List ℕ)) → length (filter p packets) ≤ length packets
few_filtered p [] = omega arith
few_filtered p (x ∷ packets) = by (few_filtered p packets) (p x)
  where
    by : length (filter p packets) ≤ length packets → (b : Bool) → length (cond b (x ∷ filter p packets) (filter p packets)) ≤ length (x ∷ packets)
    by rest true = omega (arith, rest)
    by rest false = omega (arith, rest)

-- the picked packets are at most the octets of the wish in number
pub few_picked : {wish : DecodeWish} {image : Option ℕ} {start now : Outside} {v : Intake} {packets : ℕ} → HasPicked wish image start now v packets →
    packets ≤ wish.octets
few_picked {wish = wish} {image = image} {v = v} arrived = grind (arith, nat_tests, few_filtered, few_packets, length, length-append)
