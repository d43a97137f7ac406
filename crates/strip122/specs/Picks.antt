-- How the packets that `pick` gave are read. This project's own.
use Rattle.std.specs.Prelude.{◌≡◌, ℕ, List, Option, None}
use Rattle.port_122.specs.Outside.{Outside, Exchange}
use Rattle.base_122.specs.declared.wish.DecodeWish.{DecodeWish}
use Rattle.packet_defs.specs.Streams.{whole_packets}
use Rattle.stream_defs.specs.Fates.{fresh, kept, after_all, kept_in, state_after}
use Rattle.camera_mux.specs.Picked.{picked, picked_of}
use Rattle.strip122.specs.Listing.{picker, reader_asks}

-- Packets were picked. A reader for the APID keeps the same packets of them, and has the same state after them, as of those packets of the
-- stream that are of the image; without an image, as of the whole stream.
pub record GavePicked (wish : DecodeWish) (image : Option ℕ) (old new : Outside) : Type 0 where
  pub took : List ℕ
  pub gave : List ℕ
  pub wrote : List ℕ
  pub since : Exchange old new took gave wrote (reader_asks (picker wish image) old took gave)
  pub octets : gave ≡ picked took wish.apid image
  pub kept_are : kept_in wish.apid gave ≡ kept wish.apid fresh (picked_of wish.apid image (whole_packets took))
  pub state : state_after wish.apid gave ≡ after_all wish.apid fresh (picked_of wish.apid image (whole_packets took))
  pub all_kept : image ≡ None → kept_in wish.apid gave ≡ kept_in wish.apid took
  pub all_state : image ≡ None → state_after wish.apid gave ≡ state_after wish.apid took
