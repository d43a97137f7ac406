use Rattle.std.proofs.Common.{◌≡◌, true, sym, subst}
use Rattle.plane_defs.specs.Codes.{is_book_sound}
use Rattle.plane_defs.proofs.ProfileSound.{profile_sound}
use Rattle.word_codes.proofs.book.profile_book.Goals as goal

pub returns : goal.returns
returns c = record {
  profile = c.profile.ensures;
  sound = subst (λ book. is_book_sound book ≡ true) (sym c.profile.ensures) profile_sound;
}
