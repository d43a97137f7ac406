-- Ranges of damaged rows as lines. This project's own.
use Rattle.std.specs.Prelude.{ℕ, List, ◌++◌, decimal, codes}
use Rattle.std.specs.List.{flat_map}
use Rattle.stream_defs.specs.declared.range.RowRange.{RowRange}
use Rattle.stream_defs.specs.Damage.{ranges}
use Rattle.stream_defs.specs.Marks.{Marks}

-- the line of a range
abbrev pub range_line : RowRange → List ℕ
range_line range = decimal range.first ++ codes "-" ++ decimal range.last ++ codes "\n"

-- the lines of all ranges that missing block rows damage
unfoldable pub damage_lines : Marks → List ℕ
damage_lines m = flat_map range_line (ranges m.rows m.missing)
