-- The sets of a block as masks.
use Rattle.std.specs.Prelude.{◌≡◌, ℕ, Bool}
use Rattle.std.specs.List.{list_any}
use Rattle.plane_defs.specs.declared.sets.Set.TheVariants.{Descendants, Family, Grandchildren, Quad}
use Rattle.plane_defs.specs.Sets.{members}
use Rattle.block_masks.specs.declared.sets.Sets.{Sets}
use Rattle.block_masks.specs.Masks.{Shows}

-- which sets have a member of this kind
pub record AreSets (f : ℕ → Bool) (s : Sets) : Type 0 where
  pub descendants : s.descendants ≡ list_any f (members Descendants)
  pub families : Shows s.families (λ i. list_any f (members (Family i))) 0 3
  pub grandchildren : Shows s.grandchildren (λ i. list_any f (members (Grandchildren i))) 0 3

-- the same for the sets of four grandchildren in family i
pub record AreQuads (f : ℕ → Bool) (i quads : ℕ) : Type 0 where
  pub shown : Shows quads (λ j. list_any f (members (Quad i j))) 0 4
