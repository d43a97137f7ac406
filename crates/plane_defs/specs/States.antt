-- What was read of a block in a plane. (This project's own.)
use Rattle.std.specs.Prelude.{ℕ, ◌==◌, ◌&&◌, ◌||◌, Bool, false, Option, None}

-- the option of each length of words whose identifier was read in the block's gaggle; the positions whose bit is 1, those whose bit was
-- given as a raw bit (stages 0 and 4), and those of numbers that are negative; the families whose set is significant
pub record State : Type 0 where
  pub options : ℕ → Option ℕ
  pub bits : ℕ → Bool
  pub raw : ℕ → Bool
  pub minus : ℕ → Bool
  pub families : ℕ → Bool

abbrev pub nothing : State
nothing = record { options = λ n. None; bits = λ p. false; raw = λ p. false; minus = λ p. false; families = λ i. false }

abbrev pub with_options : State → (ℕ → Option ℕ) → State
with_options s options = record { options = options; bits = s.bits; raw = s.raw; minus = s.minus; families = s.families }

-- these positions have the bit too
abbrev pub with_bits : State → (ℕ → Bool) → State
with_bits s new = record { options = s.options; bits = λ p. s.bits p || new p; raw = s.raw; minus = s.minus; families = s.families }

-- the bit of position p was given as a raw bit too
abbrev pub with_raw : State → ℕ → State
with_raw s p = record { options = s.options; bits = s.bits; raw = λ q. s.raw q || (q == p); minus = s.minus; families = s.families }

abbrev pub with_minus : State → (ℕ → Bool) → State
with_minus s minus = record { options = s.options; bits = s.bits; raw = s.raw; minus = minus; families = s.families }

abbrev pub with_families : State → (ℕ → Bool) → State
with_families s families = record { options = s.options; bits = s.bits; raw = s.raw; minus = s.minus; families = families }

-- position p has this bit too, or this sign
abbrev pub and_one : (ℕ → Bool) → ℕ → Bool → ℕ → Bool
and_one f p b q = f q || ((q == p) && b)
