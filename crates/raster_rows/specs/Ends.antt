-- Whether the input has ended. This project's own.
use Rattle.std.specs.Prelude.{ℕ, [], ◌∷◌, Bool, true, false}
use Rattle.port_122.specs.Outside.{Outside, Exchange, AtStart, AtEnd}

-- the input was at its end, otherwise one octet was taken
abbrev pub SawEnd : Outside → Outside → Bool → Type 0
SawEnd old new true = Exchange old new [] [] [] AtStart × AtEnd new
SawEnd old new false = (octet : ℕ) × Exchange old new (octet ∷ []) [] [] AtStart
