-- The lifting steps at each place of lines that lie side by side: an odd line and the four even
-- lines round it, an even line and its two high lines.
use Rattle.std.specs.Prelude.{ℕ, ℤ, ◌+ℤ◌, ◌-ℤ◌}
use Rattle.wave_defs.specs.Line.{predicted, correction, prediction, even_of}

-- forward
unfoldable pub less_predicted : (ℕ → ℤ) → (ℕ → ℤ) → (ℕ → ℤ) → (ℕ → ℤ) → (ℕ → ℤ) → ℕ → ℤ
less_predicted odd a b c d j = odd j -ℤ predicted (a j) (b j) (c j) (d j)

unfoldable pub less_correction : (ℕ → ℤ) → (ℕ → ℤ) → (ℕ → ℤ) → ℕ → ℤ
less_correction even before after j = even j -ℤ correction (before j) (after j)

-- the inverse
unfoldable pub plus_predicted : (ℕ → ℤ) → (ℕ → ℤ) → (ℕ → ℤ) → (ℕ → ℤ) → (ℕ → ℤ) → ℕ → ℤ
plus_predicted high a b c d j = high j +ℤ predicted (a j) (b j) (c j) (d j)

unfoldable pub plus_correction : (ℕ → ℤ) → (ℕ → ℤ) → (ℕ → ℤ) → ℕ → ℤ
plus_correction low before after j = low j +ℤ correction (before j) (after j)

-- the even rows of an image, from its low rows c and high rows d
unfoldable pub columns_even : (ℕ → ℕ → ℤ) → (ℕ → ℕ → ℤ) → ℕ → ℕ → ℤ
columns_even c d i j = even_of (λ r. c r j) (λ r. d r j) i

-- the odd rows, from the even rows e and the high rows d, of which there are n
unfoldable pub columns_odd : (ℕ → ℕ → ℤ) → (ℕ → ℕ → ℤ) → ℕ → ℕ → ℕ → ℤ
columns_odd e d n i j = d i j +ℤ prediction (λ r. e r j) n i
