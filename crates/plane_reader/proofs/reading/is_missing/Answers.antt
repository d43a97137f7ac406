use Rattle.std.proofs.Common.{◌≡◌, ◌≤◌, ◌&&◌, ◌==◌, ℕ, Bool, true, false, not, bit_or, ◌∙◌, ap, arith}
use Rattle.std.specs.Int.Bits.{or_zero_r}
use Rattle.std.proofs.lemmas.Nat.{le_or_r}
use Rattle.std.proofs.lemmas.Bool.Decides.{nat_tests}
use mir.Val.{bool_byte}
use Rattle.plane_reader.proofs.reading.is_missing.Goals as goal

missing_is : (w : Bool) (p : ℕ) → (bit_or p (bool_byte (not w)) == 0) ≡ (w && (p == 0))
missing_is true p = ap (λ n. n == 0) (or_zero_r p)
missing_is false p = let some : 1 ≤ bit_or p 1 = le_or_r p 1 in grind (arith, nat_tests)

pub returns : goal.returns
returns c = ap (λ n. bit_or c.args.places n == 0) c.from.ensures ∙ missing_is c.args.is_wanted c.args.places
