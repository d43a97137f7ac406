-- A block's state: its depth is in the last five bits, and the other bits are free. (This project's own.)
use Rattle.std.specs.Prelude.{ℕ, ℤ, pos, List, map}
use Rattle.std.specs.Int.RustNames.{unsigned_abs}
use Rattle.std.specs.Int.{int_rem_euclid}

abbrev pub depth_of : ℤ → ℕ
depth_of mark = unsigned_abs (int_rem_euclid mark (pos 32))

unfoldable pub depths_of : List ℤ → List ℕ
depths_of marks = map depth_of marks
