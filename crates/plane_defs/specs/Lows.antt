-- The numbers that planes give, and of which planes a bit of each is given. (docs/formats.md, "Stops, cut and fill"; this project's own.)
use Rattle.std.specs.Prelude.{ℕ, zero, suc, ◌||◌, if◌then◌else◌, List, Option, Some, ℤ}
use Rattle.base_122.specs.declared.book.Book.{Book}
use Rattle.item_defs.specs.Scripts.{Script, done, then_ask, around}
use Rattle.plane_defs.specs.PlaneScript.{PlaneState, plane_script, blocks_with}

-- the numbers of blocks; by block and position the least plane of which a bit of the number is given, if there is one: of an AC number
-- the bits from the first that is 1, of a DC number that of plane q if the number is given in the DC part
pub record Given : Type 0 where
  pub numbers : List (List ℤ)
  pub lows : ℕ → ℕ → Option ℕ

-- in a plane a type bit 1 or a raw bit is given of these positions
abbrev pub lows_with : (plane : ℕ) → (ℕ → ℕ → Option ℕ) → PlaneState → ℕ → ℕ → Option ℕ
lows_with plane lows s r p = if (s.blocks r).bits p || (s.blocks r).raw p then Some plane else lows r p

abbrev pub given_with : (plane : ℕ) → Given → PlaneState → Given
given_with plane g s = record { numbers = blocks_with plane g.numbers s; lows = lows_with plane g.lows s }

-- `planes_script`, with what is given of each number
abbrev pub planes_given : Book → (weights : List ℕ) → (q : ℕ) → (depths : List ℕ) → (stages : ℕ → ℕ) → (below : ℕ) → Given → Script Given Given
planes_given book weights q depths stages zero g = done g
planes_given book weights q depths stages (suc plane) g =
    then_ask (around (given_with plane g)
    (plane_script (record { book = book; weights = weights; plane = plane; q = q }) depths g.numbers (stages plane)))
    (planes_given book weights q depths stages plane)
