-- How many rows the levels of a strip took, and which block row is available.
use Rattle.std.specs.Prelude.{◌≡◌, ℕ, ◌+◌, ◌-◌, ◌*◌, ◌/◌, ◌%◌, ◌<◌, ◌≤◌, Bool, true, false}
use Rattle.wave_strip.specs.Kept.{pairs_in}

-- the number of block rows that are complete after this number of rows: block row r is complete with row 8 * r + 28
abbrev pub settled : ℕ → ℕ
settled rows = (rows - 21) / 8

-- before the end each level has taken the rows that were passed down to it
pub record AreRunning (rows answered a b c : ℕ) : Type 0 where
  pub first : a ≡ rows
  pub second : b ≡ pairs_in a
  pub third : c ≡ pairs_in b
  pub block_rows : answered ≡ settled rows

-- after the end each level has also taken three mirrored rows
pub record HaveEnded (rows answered a b c : ℕ) : Type 0 where
  pub whole : rows % 8 ≡ 0
  pub long : 24 ≤ rows
  pub first : a ≡ rows + 3
  pub second : b ≡ rows / 2 + 3
  pub third : c ≡ rows / 4 + 3
  pub from : settled rows ≤ answered
  pub to : answered ≤ rows / 8

-- The available block row is the one answered last: before the end it is complete with the last row, and
-- after the end it is one of those that the end completes.
pub record AreCounts (rows answered : ℕ) (ended current : Bool) (a b c : ℕ) : Type 0 where
  pub most : rows ≤ 262144
  pub running : ended ≡ false → AreRunning rows answered a b c
  pub after : ended ≡ true → HaveEnded rows answered a b c
  pub some : current ≡ true → 1 ≤ answered
  pub just : current ≡ true → ended ≡ false → rows ≡ 8 * answered + 21
  pub next : current ≡ true → ended ≡ true → settled rows < answered

-- each level has all rows of the block row that was answered last, and keeps them
pub record AreReached (answered a b c : ℕ) : Type 0 where
  pub some : 1 ≤ answered
  pub first : 4 * answered ≤ pairs_in a
  pub first_kept : pairs_in a ≤ 4 * (answered - 1) + 13
  pub second : 2 * answered ≤ pairs_in b
  pub second_kept : pairs_in b ≤ 2 * (answered - 1) + 6
  pub third : answered ≤ pairs_in c
  pub third_kept : pairs_in c ≤ answered - 1 + 3
