-- A number whose type is not due is significant exactly if it was.
use Rattle.std.proofs.Common.{◌≡◌, ℕ, ◌+◌, Bool, true, false, not, ◌&&◌, List, ℤ, arith}
use Rattle.std.proofs.lemmas.Bool.Decides.{nat_tests}
use Rattle.plane_defs.specs.Sets.{significant, coded, type_due}
use Rattle.plane_defs.specs.Laws.{IsMultiple}
use Rattle.plane_defs.proofs.Determined.{not_coded, still_significant}

settled : (above here coded : Bool) → (above ≡ true → here ≡ true) → (coded ≡ false → here ≡ above) → (not above && coded) ≡ false → here ≡ above
settled above here coded kept dead h = grind (arith, nat_tests)

-- a number whose type is not due is significant exactly if it was
pub type_undue : (block : List ℤ) (weights : List ℕ) (plane p : ℕ) → IsMultiple block weights → type_due block weights plane p ≡ false →
    significant block plane p ≡ significant block (plane + 1) p
unfolding type_due
type_undue block weights plane p whole h = grind (arith, nat_tests, settled, still_significant, not_coded)
