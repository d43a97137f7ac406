-- Ranges of damaged rows for C. This project's own.
use Rattle.std.specs.Prelude.{List, [], ◌++◌, length, map, take, drop, Result, Ok, Err}
use Rattle.stream_defs.specs.declared.range.RowRange.{RowRange}
use Rattle.stream_defs.specs.Damage.{ranges}
use Rattle.stream_defs.specs.Marks.{Marks}
use Rattle.strip122_c.specs.declared.decode.Made.{Made}
use Rattle.strip122_c.specs.declared.decode.DecodeRefusal.{DecodeRefusal}
use Rattle.strip122_c.specs.declared.ranges.Strip122Range.{Strip122Range}

abbrev pub range_of : RowRange → Strip122Range
range_of range = record { first = range.first; last = range.last }

-- the ranges of rows that missing block rows damage
abbrev pub ranges_in : Marks → List Strip122Range
ranges_in m = map range_of (ranges m.rows m.missing)

-- those of a picture that was read, and none if there is no picture
abbrev pub ranges_of : Result Made DecodeRefusal → List Strip122Range
ranges_of (Ok made) = ranges_in made.done.damage
ranges_of (Err refusal) = []

-- these in the first of some places, as far as there are places
abbrev pub put_over : {A : Type 0} → List A → List A → List A
put_over items places = take (length places) items ++ drop (length items) places
