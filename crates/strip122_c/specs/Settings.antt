-- A setting as C has it. This project's own.
use Rattle.std.specs.Prelude.{ℕ, ◌==◌, Bool, not, if◌then◌else◌, List, Result, Ok, Err}
use Rattle.base_122.specs.Profile.{profile}
use Rattle.base_122.specs.declared.book.Book.{Book}
use Rattle.base_122.specs.declared.setting.Select.{Select}
use Rattle.base_122.specs.declared.setting.Select.TheVariants.{Heuristic, Optimal}
use Rattle.base_122.specs.declared.setting.Setting.{Setting}
use Rattle.code_book.specs.Reading.{book_read}
use Rattle.code_book.specs.declared.fault.BookFault.{BookFault}
use Rattle.strip122_c.specs.declared.setting.SettingRefusal.{SettingRefusal}
use Rattle.strip122_c.specs.declared.setting.SettingRefusal.TheVariants.{WrongSize, BadBook}
use Rattle.strip122_c.specs.declared.setting.Strip122Setting.{Strip122Setting}

-- a flag is set by each number except 0
abbrev pub is_set : ℕ → Bool
is_set flag = not (flag == 0)

abbrev pub select_of : (optimal : ℕ) → Select
select_of optimal = if optimal == 0 then Heuristic else Optimal

-- the octets of a book are read if there is one
abbrev pub book_in : (has_book : ℕ) → (octets : List ℕ) → Result Book BookFault
book_in has_book octets = if has_book == 0 then Ok profile else book_read octets

abbrev pub setting_with : Strip122Setting → Book → Setting
setting_with c book = record {
  width = c.width;
  rows = c.rows;
  depth = c.depth;
  signed = is_set c.is_signed;
  segment = c.segment;
  limit = c.limit;
  fill = is_set c.fill;
  word = c.word;
  stop = record { dc = is_set c.stop_dc; plane = c.stop_plane; stage = c.stop_stage };
  weights = record { shifts = c.weights };
  select = select_of c.optimal;
  apid = c.apid;
  image = c.image;
  packet = c.packet;
  total = c.total;
  book = book;
}

abbrev pub with_book : Strip122Setting → Result Book BookFault → Result Setting SettingRefusal
with_book c (Ok book) = Ok (setting_with c book)
with_book c (Err fault) = Err BadBook

-- the setting in a structure whose first field is its size
abbrev pub setting_in : Strip122Setting → Result Setting SettingRefusal
setting_in c = if c.size == 200 then with_book c (book_in c.has_book c.book) else Err WrongSize

-- the answer to a call with a structure that gives no setting, or no wish
abbrev pub refusal_answer : SettingRefusal → ℕ
refusal_answer BadBook = 12
refusal_answer WrongSize = 13
