-- A setting with another code book.
use Rattle.std.proofs.Common.{◌≡◌, true, sym, subst, inl, inr}
use Rattle.base_122.specs.Profile.{profile}
use Rattle.base_122.specs.Ranges.{IsInRange}
use Rattle.base_122.specs.declared.book.Book.{Book}
use Rattle.base_122.specs.declared.setting.Setting.{Setting}
use Rattle.plane_defs.specs.Codes.{is_book_sound}
use Rattle.plane_defs.proofs.ProfileSound.{profile_sound}

-- the profile's book is sound
pub sound_profile : {book : Book} → book ≡ profile → is_book_sound book ≡ true
sound_profile is = subst (λ book. is_book_sound book ≡ true) (sym is) profile_sound

-- the ranges are of the other fields
pub range_with_book : (s : Setting) (book : Book) → IsInRange s → IsInRange (record s { book = book })
range_with_book s book range = record {
  width = range.width;
  rows = range.rows;
  depth = range.depth;
  segment = range.segment;
  limit = range.limit;
  fill = range.fill;
  word = range.word;
  plane = range.plane;
  stage = range.stage;
  weights = range.weights;
  apid = range.apid;
  image = range.image;
  packet = range.packet;
  total = elim range.total [
    | inl none ↦ inl none
    | inr has ↦ inr (record { rows = has.rows; limit = has.limit; within = has.within })
  ];
}
