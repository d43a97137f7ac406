-- Block depths as numbers of a range.
use Rattle.std.proofs.Common.{◌≡◌, ℕ, suc, ◌+◌, ◌*◌, ◌^◌, ◌<◌, ℤ, pos, List, [], ◌∷◌, length, get_or, map, false, refl, sym, ap, ◌∙◌, arith, nat_abs}
use Rattle.std.specs.List.{range_with_len}
use Rattle.std.specs.Int.{int_shr, div_ceil}
use Rattle.std.proofs.lemmas.Bool.Decides.{nat_tests}
use Rattle.number_defs.specs.Ranges.{shifted_height}
use Rattle.number_defs.specs.Cells.{cell_at, strided, AreInRange}
use Rattle.dc_depths.specs.Marks.{depths_of, AreDepths}
use Rattle.number_defs.proofs.Equations.{strided-is}

-- a list is determined by its values at its places
by_places : (f : ℕ → ℤ) (a : ℕ) (xs : List ℤ) → ((k : ℕ) → k < length xs → get_or xs k (pos 0) ≡ f (a + k)) → map f (range_with_len a (length xs)) ≡ xs
by_places f a [] h = refl
by_places f a (x ∷ xs) h =
    let here : f a ≡ x = sym (h 0 (omega arith) ∙ ap f (omega arith)) in
    let others : map f (range_with_len (a + 1) (length xs)) ≡ xs = by_places f (a + 1) xs (λ k lt. h (suc k) (omega arith) ∙ ap f (omega arith)) in
    ap (λ y. y ∷ map f (range_with_len (a + 1) (length xs))) here ∙ ap (λ ys. x ∷ ys) others

-- with a stride of 1, all numbers are taken
pub every_cell : (xs : List ℤ) → strided 1 xs ≡ xs
every_cell xs =
    let n : div_ceil (length xs) 1 ≡ length xs = omega arith in
    strided-is 1 xs ∙ rw n (by_places (cell_at 1 xs) 0 xs (λ k lt. let e : k ≡ (0 + k) * 1 = omega arith in ap (λ i. get_or xs i (pos 0)) e))

unshifted : (z : ℤ) → int_shr z 0 ≡ z
unshifted z = grind (arith, nat_tests)

same_height : (N : ℕ) (z : ℤ) → shifted_height false N 0 z ≡ nat_abs z
same_height N z = grind (arith, nat_tests, unshifted)

same_heights : (N : ℕ) (xs : List ℤ) → map (shifted_height false N 0) xs ≡ map nat_abs xs
same_heights N xs = grind (arith, nat_tests, same_height)

-- the heights that a writer of numbers reads from the states of blocks
pub heights_are : (N : ℕ) (marks : List ℤ) → map (shifted_height false N 0) (strided 1 marks) ≡ depths_of marks
heights_are N marks = ap (map (shifted_height false N 0)) (every_cell marks) ∙ same_heights N marks

pub marks_in_range : (N most : ℕ) (marks : List ℤ) → most < 2 ^ N → AreDepths most marks → AreInRange false N 0 1 marks
marks_in_range N most marks lt h = grind (arith, nat_tests, unshifted)
