-- The parameters of a decoder as C has them. This project's own.
use Rattle.std.specs.Prelude.{◌==◌, if◌then◌else◌, not, Result, Ok, Err}
use Rattle.base_122.specs.declared.book.Book.{Book}
use Rattle.base_122.specs.declared.wish.DecodeWish.{DecodeWish}
use Rattle.code_book.specs.declared.fault.BookFault.{BookFault}
use Rattle.strip122_c.specs.Settings.{book_in}
use Rattle.strip122_c.specs.declared.setting.SettingRefusal.{SettingRefusal}
use Rattle.strip122_c.specs.declared.setting.SettingRefusal.TheVariants.{WrongSize, BadBook}
use Rattle.strip122_c.specs.declared.wish.Strip122Wish.{Strip122Wish}

abbrev pub wish_with : Strip122Wish → Result Book BookFault → Result DecodeWish SettingRefusal
wish_with c (Ok book) = Ok (record { apid = c.apid; pixels = c.pixels; octets = c.octets; book = book; restore = not (c.restore == 0) })
wish_with c (Err fault) = Err BadBook

-- the wish in a structure whose first field is its size
abbrev pub wish_in : Strip122Wish → Result DecodeWish SettingRefusal
wish_in c = if c.size == 176 then wish_with c (book_in c.has_book c.book) else Err WrongSize
