use Rattle.std.proofs.Common.{◌≡◌, ℕ, sym, subst}
use Rattle.wave_defs.specs.Blocks.{Place}
use Rattle.block_families.specs.Places.{IsWithin, place_in}
use Rattle.block_families.proofs.Placing.{place_within}
use Rattle.wave_tests.proofs.strips.add_block.Goals as goal

within : (columns column position : ℕ) (place : Place) → place ≡ place_in column position → IsWithin columns (place_in column position) → IsWithin columns place
within columns column position place e = subst (IsWithin columns) (sym e)

pub value-requires-clause-within : goal.value-requires-clause-within
value-requires-clause-within g c = within _ _ _ _ c.place_of.ensures (place_within _ _ _ c.requires.inside c.loop-position-test.true)
