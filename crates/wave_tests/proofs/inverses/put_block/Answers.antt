use Rattle.std.proofs.Common.{◌≡◌, ℕ, ◌<◌, sym, subst, arith}
use Rattle.wave_defs.specs.Blocks.{Place}
use Rattle.block_families.specs.Places.{IsWithin, place_in}
use Rattle.block_families.proofs.Placing.{place_within}
use Rattle.inverse_strip.specs.Strip.{Keeps-on, columns_of}
use Rattle.wave_tests.proofs.inverses.put_block.Goals as goal

within : (columns column position : ℕ) (place : Place) → place ≡ place_in column position → IsWithin columns (place_in column position) → IsWithin columns place
within columns column position place e = subst (IsWithin columns) (sym e)

pub set-requires-clause-within : goal.set-requires-clause-within
set-requires-clause-within c =
    let inside : c.args.column < columns_of c.loop-position.strip = omega (arith, c.loop-position.invariant.width) in
    within _ _ _ _ c.place_of.ensures (place_within _ _ _ inside c.loop-position-test.true)

pub loop-position-preserved : goal.loop-position-preserved
loop-position-preserved c = Keeps-on _ _ _ c.loop-position.invariant c.set.ensures.keeps
