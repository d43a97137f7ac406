-- Numbers that are moved into the interval that their given bits determine. (docs/formats.md, "Stops, cut and fill"; this project's own.)
use Rattle.std.specs.Prelude.{ℕ, zero, suc, ◌+◌, ◌-◌, ◌*◌, ◌/◌, ◌^◌, ◌==◌, if◌then◌else◌, Bool, List, [], length, map, Option, Some, None, ℤ, pos, negsuc}
use lib.ListN.{get_or}
use Rattle.base_122.specs.Restored.{restored_dc}
use Rattle.plane_defs.specs.Spans.{span}
use Rattle.plane_defs.specs.Sets.{shift}
use Rattle.plane_defs.specs.Lows.{Given}

-- A number is a multiple of 2 ^ shift, and its bits are given down to plane `low`: the u = low - shift bits below are not.

-- three eighths of 2 ^ u, in steps of 2 ^ shift
abbrev pub ac_rest : (shift low : ℕ) → ℕ
ac_rest shift low = 2 ^ shift * (3 * 2 ^ (low - shift) / 8)

-- an AC number that is not 0 has a greater magnitude; `negsuc n` is -(n + 1)
abbrev pub restored_ac : (shift : ℕ) → Option ℕ → ℤ → ℤ
restored_ac shift None z = z
restored_ac shift (Some low) (pos zero) = pos zero
restored_ac shift (Some low) (pos (suc n)) = pos (suc n + ac_rest shift low)
restored_ac shift (Some low) (negsuc n) = negsuc (n + ac_rest shift low)

abbrev pub restored_at : (weights : List ℕ) → (p : ℕ) → Option ℕ → ℤ → ℤ
restored_at weights p low z = if p == 0 then restored_dc (shift weights 0) low z else restored_ac (shift weights p) low z

abbrev pub restored_block : (weights : List ℕ) → (lows : ℕ → Option ℕ) → List ℤ → List ℤ
restored_block weights lows block = map (λ p. restored_at weights p (lows p) (get_or block p (pos 0))) (span 0 64)

abbrev pub restored : (weights : List ℕ) → Given → List (List ℤ)
restored weights g = map (λ r. restored_block weights (g.lows r) (get_or g.numbers r [])) (span 0 (length g.numbers))

-- the numbers that are given, restored or as they are
abbrev pub numbers_for : (restore : Bool) → (weights : List ℕ) → Given → List (List ℤ)
numbers_for restore weights g = if restore then restored weights g else g.numbers
