use Rattle.std.proofs.Common.{◌≡◌, ℕ, ℤ, List, ◌++◌, length, take}
use Rattle.gaggle_codes.specs.Cells.{SetsCells}
use Rattle.gaggle_codes.proofs.strided_cells.set_numbers.Given as goal

abbrev pub invariant-loop-place : goal.invariant-loop-place
invariant-loop-place l = (first : List ℕ) (before : List ℤ) → length first ≡ l.from →
    SetsCells l.strided.range l.strided.shift l.strided.stride first before l.initial.cells →
    SetsCells l.strided.range l.strided.shift l.strided.stride (first ++ take l.place l.heights) before l.cells
