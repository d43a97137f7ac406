-- What is picked of a stream is whole packets, which are picked again.
use Rattle.std.proofs.Common.{◌≡◌, ℕ, List, [], ◌∷◌, refl, sym, ap, ◌∙◌, Bool, true, false, cond, not, ◌==◌, is_none, filter, Option, None, Some}
use Rattle.std.specs.List.{AllByRecursion}
use Rattle.std.proofs.lemmas.Bool.{false≢true, and_parts}
use Rattle.packet_defs.specs.declared.packet.Skip.{Skip}
use Rattle.packet_defs.specs.declared.packet.Skip.TheVariants.{Idle, NotTelemetry, OtherApid}
use Rattle.packet_defs.specs.Packets.{joined}
use Rattle.packet_defs.specs.Reading.{idle_apid, apid_in, type_in, ancillary_in, skip_of}
use Rattle.packet_defs.specs.Streams.{IsPacket, Splits, whole_packets}
use Rattle.packet_defs.specs.Tests.{when, first_of}
use Rattle.packet_defs.proofs.Splits.{splits_whole, splits_left, whole_splits, joined_splits}
use Rattle.camera_mux.specs.Picked.{is_picked, picked_of, picked}
use Rattle.camera_mux.specs.PickLaws.{PicksWhole}
use Rattle.packet_defs.proofs.Equations.{skip_of-is}

-- ---- a filter of packets

-- what holds of all packets holds of those that are picked
pub each_picked : (P : List ℕ → Type 0) (p : List ℕ → Bool) (packets : List (List ℕ)) → AllByRecursion P packets → AllByRecursion P (filter p packets)
each_picked P p [] all = tt
each_picked P p (packet ∷ packets) all = by_test (each_picked P p packets all.1) (p packet)
  where
    by_test : AllByRecursion P (filter p packets) → (b : Bool) → AllByRecursion P (cond b (packet ∷ filter p packets) (filter p packets))
    by_test rest true = (all.0, rest)
    by_test rest false = rest

-- a test and then a narrower one
filter_narrower : (p q : List ℕ → Bool) → ((x : List ℕ) → q x ≡ true → p x ≡ true) → (packets : List (List ℕ)) → filter q (filter p packets) ≡ filter q packets
filter_narrower p q narrower [] = refl
filter_narrower p q narrower (x ∷ packets) = by_tests (filter_narrower p q narrower packets) (p x) (q x) refl refl
  where
    by_tests : filter q (filter p packets) ≡ filter q packets → (a b : Bool) → p x ≡ a → q x ≡ b →
        filter q (cond a (x ∷ filter p packets) (filter p packets)) ≡ cond b (x ∷ filter q packets) (filter q packets)
    by_tests rest true true ea eb = rw eb (ap (λ zs. x ∷ zs) rest)
    by_tests rest true false ea eb = rw eb rest
    by_tests rest false true ea eb = absurd (false≢true (sym ea ∙ narrower x eb))
    by_tests rest false false ea eb = rest

-- ---- one APID

-- a packet of an image with an APID has that APID
own_by : (a b c : Bool) (rest : List (Option Skip)) → first_of (when a Idle ∷ when b NotTelemetry ∷ when (not c) OtherApid ∷ rest) ≡ None → c ≡ true
own_by true b c rest e = absurd cc
own_by false true c rest e = absurd cc
own_by false false true rest e = refl
own_by false false false rest e = absurd cc

pub mine_own : (apid : ℕ) (packet : List ℕ) → skip_of apid packet ≡ None → is_picked apid None packet ≡ true
mine_own apid packet e = own_by (apid_in packet == idle_apid) (type_in packet == 1) (apid_in packet == apid) _ (sym (skip_of-is apid packet) ∙ e)

pub none_so : {A : Type 0} (o : Option A) → is_none o ≡ true → o ≡ None
none_so None e = refl
none_so (Some x) e = absurd (false≢true e)

-- what is picked by an image is picked by its APID
image_own : (apid : ℕ) (image : Option ℕ) (packet : List ℕ) → is_picked apid image packet ≡ true → is_picked apid None packet ≡ true
image_own apid None packet e = e
image_own apid (Some number) packet e =
    mine_own apid packet (none_so (skip_of apid packet) (and_parts (is_none (skip_of apid packet)) ((ancillary_in packet).image == number) e).0)

-- ---- the stream

picked_splits : (octets : List ℕ) (apid : ℕ) (image : Option ℕ) → Splits (picked octets apid image) (picked_of apid image (whole_packets octets)) []
picked_splits octets apid image =
    joined_splits (picked_of apid image (whole_packets octets)) (each_picked IsPacket (is_picked apid image) (whole_packets octets)
    (whole_splits octets).packets_are)

pub picked_whole : (octets : List ℕ) (apid : ℕ) (image : Option ℕ) → whole_packets (picked octets apid image) ≡ picked_of apid image (whole_packets octets)
picked_whole octets apid image = splits_whole (picked_splits octets apid image)

pub picks_whole : (octets : List ℕ) (apid : ℕ) (image : Option ℕ) → PicksWhole octets apid image
picks_whole octets apid image =
    let by : List ℕ → Bool = is_picked apid image in
    let packets = whole_packets octets in
    record {
      whole = picked_whole octets apid image;
      left = splits_left (picked_splits octets apid image);
      again = ap (λ ps. joined (filter by ps)) (picked_whole octets apid image) ∙ ap joined (filter_narrower by by (λ x e. e) packets);
      of_apid = ap (λ ps. joined (filter by ps)) (picked_whole octets apid None)
          ∙ ap joined (filter_narrower (is_picked apid None) by (image_own apid image) packets);
    }
