-- The effect of a read of a piece. (This project's own.)
use Rattle.std.specs.Prelude.{◌≡◌, ◌≤◌, ℕ, List, [], take}
use Rattle.port_122.specs.Outside.{Outside, Exchange, AtStart, AtEnd}

-- n octets, at most `most`, were taken into the first places of a piece that then has these octets
pub record ReadsPiece (old new : Outside) (most : ℕ) (piece : List ℕ) (n : ℕ) : Type 0 where
  pub within : n ≤ most
  pub since : Exchange old new (take n piece) [] [] AtStart
  pub at_end : n ≡ 0 → AtEnd new
