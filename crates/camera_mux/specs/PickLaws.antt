-- The laws of packets that are picked. This project's own.
use Rattle.std.specs.Prelude.{◌≡◌, ℕ, List, [], ◌∷◌, ◌++◌, Option, None}
use Rattle.packet_defs.specs.Streams.{whole_packets, left_over}
use Rattle.stream_defs.specs.Fates.{fresh, fate, after_all, kept_in, state_after}
use Rattle.camera_mux.specs.Picked.{picked_of, picked}

-- What is picked is whole packets and nothing else, and all of them are picked again. So the packets of one image of an APID are
-- those that are picked by that image of the packets of the APID.
pub record PicksWhole (octets : List ℕ) (apid : ℕ) (image : Option ℕ) : Type 0 where
  pub whole : whole_packets (picked octets apid image) ≡ picked_of apid image (whole_packets octets)
  pub left : left_over (picked octets apid image) ≡ []
  pub again : picked (picked octets apid image) apid image ≡ picked octets apid image
  pub of_apid : picked (picked octets apid None) apid image ≡ picked octets apid image

-- A reader for this APID keeps the same packets of what is picked by it as of the whole stream, so it receives the same segments, and
-- has the same geometry after it. Each packet that is picked has the fate that it has in the stream.
pub record PicksAll (octets : List ℕ) (apid : ℕ) : Type 0 where
  pub kept : kept_in apid (picked octets apid None) ≡ kept_in apid octets
  pub state : state_after apid (picked octets apid None) ≡ state_after apid octets
  pub fates : (before later : List (List ℕ)) (packet : List ℕ) → whole_packets octets ≡ before ++ packet ∷ later →
      fate apid (after_all apid fresh (picked_of apid None before)) packet ≡ fate apid (after_all apid fresh before) packet

pub record PickingKeeps : Type 0 where
  pub whole : (octets : List ℕ) (apid : ℕ) (image : Option ℕ) → PicksWhole octets apid image
  pub all : (octets : List ℕ) (apid : ℕ) → PicksAll octets apid
