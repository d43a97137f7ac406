-- The law of each command.
use Rattle.std.proofs.Common.{◌≡◌, ℕ, true, false, subst}
use Rattle.port_122.specs.Outside.{Outside}
use Rattle.strip_decoder.specs.Answers.{Answers, Asks}
use Rattle.strip_decoder.specs.Finding.{FindAnswers}
use Rattle.quick_look.specs.Looks.{LookAnswers, LookAsks}
use Rattle.quick_look.specs.Listing.{RectAnswers}
use Rattle.base_122.specs.declared.wish.DecodeWish.{DecodeWish}
use Rattle.command_words.specs.declared.tables.Reading.{Reading}
use Rattle.command_words.specs.declared.tables.Reading.TheVariants.{Decode, Damage, Look, Rects, List}
use Rattle.command_words.specs.declared.command.Command.{Command}
use Rattle.command_words.specs.declared.command.Command.TheVariants.{Encode, Mux, Read, Info, Pick, BareEncode, BareDecode, Make, Trial}
use Rattle.strip122.specs.Decoding.{AsksFound, reads}
use Rattle.strip122.specs.Muxing.{camera_settings}
use Rattle.strip122.specs.Run.{behaviour}
use Rattle.strip122.specs.Outcomes.{AtStatus, outcomes, reads_outcomes}
use Rattle.strip122.proofs.Behaviours.{Law}
use Rattle.strip122.proofs.Decoded.{decode_says, find_says, look_says, rects_say}
use Rattle.camera_mux.specs.declared.info.InfoWish.{InfoWish}
use Rattle.strip122.specs.Listing.{lister, picker, informer}
use Rattle.strip122.proofs.Listed.{reader_law, list_reads, pick_reads, info_reads}
use Rattle.strip122.proofs.PacketInputs.{picture_law}
use Rattle.strip122.proofs.Encoded.{encode_law, encode_book_law}
use Rattle.strip122.proofs.BookRuns.{with_book_law}
use Rattle.bare_stream.specs.RoundTrip.{StreamsAreRead}
use Rattle.strip122.proofs.BareRuns.{bare_encode_law, bare_decode_law}
use Rattle.strip122.proofs.Muxed.{mux_law}
use Rattle.strip122.proofs.Statuses.{make_law, try_law}

reads_law : (reading : Reading) (wish : DecodeWish) → Law (reads reading wish) (reads_outcomes reading wish)
reads_law Decode wish = picture_law wish (Answers wish) (Asks wish) (decode_says wish)
reads_law Damage wish = picture_law wish (FindAnswers wish) (AsksFound wish) (find_says wish)
reads_law Look wish = picture_law wish (LookAnswers wish) (LookAsks wish) (look_says wish)
reads_law Rects wish = picture_law wish (RectAnswers wish) (AsksFound wish) (rects_say wish)
reads_law List wish = reader_law (lister wish) (list_reads wish)

pub law : StreamsAreRead → (command : Command) → Law (behaviour command) (outcomes command)
law streams (Encode setting false) = encode_law setting
law streams (Encode setting true) = encode_book_law setting
law streams (Mux setting cameras) = mux_law (camera_settings setting cameras)
law streams (Read reading wish false) = reads_law reading wish
law streams (Read reading wish true) = with_book_law (λ book. reads reading (record wish { book = book }))
    (λ book. reads_outcomes reading (record wish { book = book }))
    (λ book. reads_law reading (record wish { book = book }))
law streams (Info apid octets) = let wish : InfoWish = record { apid = apid; octets = octets } in reader_law (informer wish) (info_reads wish)
law streams (Pick wish image) = reader_law (picker wish image) (pick_reads wish image)
law streams (BareEncode setting) = bare_encode_law setting
law streams (BareDecode wish) = bare_decode_law streams wish
law streams (Make made) = make_law made
law streams (Trial setting seed) = try_law setting seed

-- what follows for this status
pub ends_at : StreamsAreRead → (command : Command) (old new : Outside) (status n : ℕ) → (behaviour command).performs old new status → status ≡ n →
    AtStatus (outcomes command) old new n
ends_at streams command old new status n run is = subst (AtStatus (outcomes command) old new) is ((law streams command).ends old new status run)
