use Rattle.std.proofs.Common.{◌+◌, ◌-◌, ◌*◌, ◌/◌, arith}
use Rattle.plane_defs.specs.declared.sets.Set.TheVariants.{Quad}
use Rattle.plane_defs.specs.Sets.{set_significant}
use Rattle.plane_coder.specs.Viewed.{block_in}
use Rattle.plane_coder.proofs.plane_masks.PlaneMasks.types_of_quads.Goals as goal

pub filled-requires : goal.filled-requires
filled-requires c = omega (arith, c.quads.ensures.shown.small)

pub returns : goal.returns
unfolding set_significant
returns c =
    let s = c.args.self.now in
    let i = c.args.i in
    c.types_in.ensures (λ p. set_significant (block_in s) s.plan.now.plane (Quad i ((p - (16 + 16 * i)) / 4)))
    (c.filled.ensures (λ j. set_significant (block_in s) s.plan.now.plane (Quad i j)) 4 (omega arith) c.quads.ensures.shown (16 + 16 * i))
