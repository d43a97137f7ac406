-- Consecutive positions. (This project's own.)
use Rattle.std.specs.Prelude.{◌≡◌, ◌<◌, ℕ, ◌+◌, ◌&&◌, Bool, nat_le, nat_lt}
use Rattle.wave_defs.specs.Blocks.{place_of}

-- one of the `count` positions from `start` on
abbrev pub inside : (start count p : ℕ) → Bool
inside start count p = nat_le start p && nat_lt p (start + count)

-- the numbers at this number of positions from a start on are those of one band
abbrev pub IsOneBand : (start count : ℕ) → Type 0
IsOneBand start count = (k : ℕ) → k < count → (place_of (start + k)).band ≡ (place_of start).band
