-- How the octets of a book are taken. (This project's own.)
use Rattle.std.specs.Prelude.{◌≡◌, ◌≤◌, ◌<◌, List, ℕ, [], length, take}
use Rattle.port_122.specs.Outside.{Outside, Exchange}

-- the first octets of a piece were taken, and each read call was made while others were missing
pub record FilledTo (old new : Outside) (piece : List ℕ) (count : ℕ) : Type 0 where
  pub room : length piece ≡ 138
  pub within : count ≤ 138
  pub since : Exchange old new (take count piece) [] [] (λ i j. i < 138)
