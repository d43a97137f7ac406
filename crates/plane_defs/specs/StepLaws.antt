-- The entries of steps, words that are not refused, and AC numbers that are the same in a plane. (this project's own)
use Rattle.std.specs.Prelude.{◌≡◌, ◌<◌, ◌≤◌, ℕ, ℤ, false, List, map}
use Rattle.plane_defs.specs.declared.entries.Entry.{Entry}
use Rattle.plane_defs.specs.declared.entries.Entry.TheVariants.{Bit, Word}
use Rattle.plane_defs.specs.Sets.{significant}
use Rattle.plane_defs.specs.Steps.{Step, refuses}

abbrev pub entry_of : Step → Entry
entry_of s = s.entry

abbrev pub entries_of : List Step → List Entry
entries_of steps = map entry_of steps

-- an AC number's position
abbrev pub IsAc : ℕ → Type 0
IsAc p = (1 ≤ p) × (p < 64)

-- the AC numbers that reach a plane are the same
abbrev pub SameAc : List ℤ → List ℤ → ℕ → Type 0
SameAc u v plane = (p : ℕ) → IsAc p → significant u plane p ≡ significant v plane p

-- the word of a step is not refused there
abbrev pub value_of_entry : Entry → ℕ
value_of_entry (Bit b) = 0
value_of_entry (Word bits) = bits.value

abbrev pub IsAllowed : Step → Type 0
IsAllowed s = refuses s.check (value_of_entry s.entry) ≡ false
