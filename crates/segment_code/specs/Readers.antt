-- How a reader reads the texts of segments. (This project's own.)
use Rattle.std.specs.Prelude.{Bool}
use Rattle.plane_reader.specs.declared.places.PlaceTables.{PlaceTables}
use Rattle.segment_defs.specs.TextWish.{TextWish}
use Rattle.segment_code.specs.declared.decode.SegmentReader.{SegmentReader}

-- with the book of these tables
abbrev pub by_tables : PlaceTables → (restore : Bool) → TextWish
by_tables tables restore = record { book = tables.words.book; restore = restore }

abbrev pub wish_of : SegmentReader → TextWish
wish_of reader = by_tables reader.tables.value reader.restore
