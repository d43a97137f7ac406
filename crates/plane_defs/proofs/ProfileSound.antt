-- The profile's book is sound.
use Rattle.std.proofs.Common.{◌≡◌, true, refl}
use Rattle.item_defs.specs.Bits.{bits_of}
use Rattle.plane_defs.specs.Spans.{span}
use Rattle.plane_defs.specs.Codes.{is_table_sound, is_book_sound}
use Rattle.base_122.specs.Profile.{profile}

pub profile_sound : is_book_sound profile ≡ true
unfolding is_table_sound profile bits_of span
profile_sound = refl
