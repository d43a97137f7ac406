-- Heights as sums of 32 bits.
use Rattle.std.proofs.Common.{◌≡◌, ℕ, ◌^◌, ◌≤◌, ℤ, pos, ◌+ℤ◌, ap, ◌∙◌, arith, Bool, pow_mono}
use Rattle.std.specs.Int.{int_shr}
use mir.Val.{to_z, of_z, SFits}
use mir.Syntax.{w32}
use Rattle.std.proofs.lemmas.Int.{ints, to_z-of_z}
use Rattle.std.proofs.lemmas.Bool.Decides.{nat_tests}
use Rattle.number_defs.specs.Ranges.{negatives, IsInRange, height_of}
use Rattle.number_defs.proofs.Heights.{height_below, negatives_fit}

sum_is : (signed : Bool) (N : ℕ) (z : ℤ) → IsInRange signed N z → z +ℤ pos (negatives signed N) ≡ pos (height_of signed N z)
sum_is signed N z h = grind (arith, nat_tests)

small_fits : (n : ℕ) → n ≤ 1024 → SFits w32 (pos n)
small_fits n le = omega (arith, ints)

range_fits : (signed : Bool) (N : ℕ) (z : ℤ) → IsInRange signed N z → N ≤ 10 → SFits w32 z
range_fits signed N z h few = omega (arith, ints, h.low, h.high, pow_mono few, negatives_fit signed N)

-- what the code computes of a cell
pub height_sum : (signed : Bool) (N shift n : ℕ) (z k : ℤ) → SFits w32 z → IsInRange signed N (int_shr z shift) → N ≤ 10 → k ≡ pos n → n ≡ negatives signed N →
    to_z w32 (of_z w32 (to_z w32 (of_z w32 (int_shr (to_z w32 (of_z w32 z)) shift)) +ℤ to_z w32 (of_z w32 k))) ≡ pos (height_of signed N (int_shr z shift))
height_sum signed N shift n z k fits h few e f =
    let most : 2 ^ N ≤ 1024 = pow_mono few in
    let r = int_shr z shift in
    let a : to_z w32 (of_z w32 (int_shr (to_z w32 (of_z w32 z)) shift)) ≡ r = ap (λ y. to_z w32 (of_z w32 (int_shr y shift))) (to_z-of_z w32 z fits)
    ∙ to_z-of_z w32 r (range_fits signed N r h few) in
    let b : to_z w32 (of_z w32 k) ≡ pos (negatives signed N) = grind (arith, nat_tests, to_z-of_z, small_fits, negatives_fit) in
    let s : r +ℤ pos (negatives signed N) ≡ pos (height_of signed N r) = sum_is signed N r h in
    ap (λ y. to_z w32 (of_z w32 (y +ℤ to_z w32 (of_z w32 k)))) a ∙ ap (λ y. to_z w32 (of_z w32 (r +ℤ y))) b ∙ ap (λ y. to_z w32 (of_z w32 y)) s
    ∙ to_z-of_z w32 (pos (height_of signed N r)) (small_fits (height_of signed N r) (omega (arith, most, height_below signed N r h)))
