use Rattle.std.proofs.Common.{sym, subst, IsTrue}
use Rattle.plane_defs.specs.Codes.{is_book_sound}
use Rattle.plane_defs.proofs.ProfileSound.{profile_sound}
use Rattle.strip122_c.proofs.setting.read_book_in.Goals as goal

pub returns-then-has_book-eq0-clause-sound : goal.returns-then-has_book-eq0-clause-sound
returns-then-has_book-eq0-clause-sound c = subst (λ b. IsTrue (is_book_sound b)) (sym c.profile.ensures) profile_sound
