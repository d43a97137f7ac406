-- Of which planes some DC parts that are cut give bits, worked out by hand.
use Rattle.std.specs.Prelude.{◌≡◌, ℕ, List, [], ◌∷◌, codes, Option, Some, None, ℤ, pos, negsuc}
use Rattle.item_defs.specs.Outcomes.{Outcome, whole, cut}
use Rattle.item_defs.specs.Scripts.{run, around}
use Rattle.number_defs.specs.DcLows.{DcGiven, dc_given}
use Rattle.number_defs.specs.Worked.{bits_in}

-- the DC numbers of two blocks, each with the least plane that is given
abbrev pub two_given : DcGiven → List (ℤ × Option ℕ)
two_given g = (g.dcs 0, g.lows 0) ∷ (g.dcs 1, g.lows 1) ∷ []

abbrev pub given_read : (depth_dc depth_ac shift : ℕ) → List ℕ → Outcome (List (ℤ × Option ℕ)) (List (ℤ × Option ℕ))
given_read depth_dc depth_ac shift text = run (around two_given (dc_given depth_dc depth_ac shift 2)) (bits_in text)

pub record WorkedLows : Type 0 where
  -- q = 1 and N = 3, uncoded: 2 as 010, and -2 as the mapped value 5 = 1 + |-2 - 2|; then bit 0 of 5 and of -3
  pub all : given_read 4 0 0 (codes "1101010111") ≡ whole ((pos 5, Some 0) ∷ (negsuc 2, Some 0) ∷ []) []
  -- the same without the last bit, without the last two, and without a bit of the mapped value
  pub cut_in_plane : given_read 4 0 0 (codes "110101011") ≡ cut ((pos 5, Some 0) ∷ (negsuc 3, Some 1) ∷ [])
  pub cut_before_plane : given_read 4 0 0 (codes "11010101") ≡ cut ((pos 4, Some 1) ∷ (negsuc 3, Some 1) ∷ [])
  pub cut_in_number : given_read 4 0 0 (codes "1101010") ≡ cut ((pos 4, Some 1) ∷ (pos 0, None) ∷ [])
  -- with the shift 3, q = 3 and N = 1: a raw bit each, of which the second is missing
  pub cut_in_raw : given_read 3 0 3 (codes "1") ≡ cut ((negsuc 7, Some 3) ∷ (pos 0, None) ∷ [])
