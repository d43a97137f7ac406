-- The refinement bits of some positions.
use Rattle.std.specs.Prelude.{ℕ, ℤ, List, map, filter}
use Rattle.item_defs.specs.Bits.{bit}
use Rattle.plane_defs.specs.declared.entries.Entry.{Entry}
use Rattle.plane_defs.specs.declared.entries.Entry.TheVariants.{Bit}
use Rattle.plane_defs.specs.Spans.{span}
use Rattle.plane_defs.specs.Sets.{magnitude, refined}

-- the refinement bits of the positions from a start on
abbrev pub refining : List ℤ → List ℕ → ℕ → (start count : ℕ) → List Entry
refining block weights plane start count = map (λ p. Bit (bit (magnitude block p) plane)) (filter (refined block weights plane) (span start count))
