use Rattle.std.proofs.Common.{◌-◌, ◌/◌, arith}
use Rattle.plane_defs.specs.declared.sets.Set.TheVariants.{Family}
use Rattle.plane_defs.specs.Sets.{set_significant}
use Rattle.plane_coder.specs.Viewed.{block_in}
use Rattle.plane_coder.proofs.plane_masks.PlaneMasks.types_of_children.Goals as goal

pub filled-requires : goal.filled-requires
filled-requires c = omega (arith, c.requires.families.small)

pub returns : goal.returns
unfolding set_significant
returns c =
    let s = c.args.self.now in
    c.types_in.ensures (λ p. set_significant (block_in s) s.plan.now.plane (Family ((p - 4) / 4)))
    (c.filled.ensures (λ i. set_significant (block_in s) s.plan.now.plane (Family i)) 3 (omega arith) c.requires.families 4)
