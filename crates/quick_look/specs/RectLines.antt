-- Rectangles as lines. This project's own.
use Rattle.std.specs.Prelude.{ℕ, List, ◌++◌, decimal, codes}
use Rattle.std.specs.List.{flat_map}
use Rattle.quick_look.specs.declared.rect.Rect.{Rect}

-- the line of a rectangle: its rows, then its columns
abbrev pub rect_line : Rect → List ℕ
rect_line rect =
    decimal rect.first_row ++ codes "-" ++ decimal rect.last_row ++ codes " " ++ decimal rect.first_column ++ codes "-" ++ decimal rect.last_column
    ++ codes "\n"

-- the lines of all
abbrev pub rect_lines : List Rect → List ℕ
rect_lines rects = flat_map rect_line rects
