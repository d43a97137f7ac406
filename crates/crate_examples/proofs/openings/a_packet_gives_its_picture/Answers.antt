use Rattle.std.proofs.Common.{sym, subst, ap, IsTrue}
use Rattle.base_122.specs.declared.wish.DecodeWish.{DecodeWish}
use Rattle.plane_defs.specs.Codes.{is_book_sound}
use Rattle.plane_defs.proofs.ProfileSound.{profile_sound}
use Rattle.crate_examples.proofs.openings.a_packet_gives_its_picture.Goals as goal

pub decode_packets-done-requires : goal.decode_packets-done-requires
decode_packets-done-requires g c = record { book = subst (λ b. IsTrue (is_book_sound b)) (ap (λ (w : DecodeWish). w.book) (sym c.usual.ensures)) profile_sound }
