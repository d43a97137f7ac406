-- A line that is joined again from its halves.
use Rattle.std.specs.Prelude.{◌≡◌, ℕ, ◌+◌, ◌*◌, ◌^◌, ◌≤◌, ℤ, List, length}
use Rattle.wave_defs.specs.Line.{even_of, odd_of}
use Rattle.wave_defs.specs.Within.{AllWithin}
use Rattle.wave_defs.specs.Held.{Agrees, signal}

-- the low and the high samples of a line, and room for it
pub record AreHalves (low high row : List ℤ) : Type 0 where
  pub room : length row ≡ 2 * length low
  pub same : length high ≡ length low
  pub long : 3 ≤ length low
  pub low_bounded : AllWithin (2 ^ 38) (length low) (signal low)
  pub high_bounded : AllWithin (2 ^ 38) (length low) (signal high)

-- the first `evens` even and the first `odds` odd samples of the line are in the row
pub record IsValid (evens odds : ℕ) (low high row : List ℤ) : Type 0 where
  pub even : Agrees evens (λ k. signal row (2 * k)) (even_of (signal low) (signal high))
  pub odd : Agrees odds (λ k. signal row (2 * k + 1)) (odd_of (signal low) (signal high) (length low))
