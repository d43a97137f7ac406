-- The magnitudes of sixteen numbers, and their bits.
use Rattle.std.proofs.Common.{◌≡◌, ℕ, ◌+◌, ◌-◌, ◌%◌, ℤ, Bool, cond, List, [], ◌∷◌, length, map, replicate, unsigned_abs, FitsSigned, refl, ap, sym, ◌∙◌}
use Rattle.std.proofs.Common.{arith, w32, map-id}
use Rattle.std.specs.Simd.Lanes.{top, zip2, sel_l}
use Rattle.std.proofs.lemmas.Simd.{zip2_splat_left, zip2_of_maps, map-map}
use Rattle.std.proofs.lemmas.Bool.Decides.{nat_tests}
use lib.Signed.{lt_z}
use mir.Val.{of_z, to_z}
use Rattle.block_masks.proofs.LaneMasks.{top_of}

pub sel_of_maps : (p : ℕ → Bool) (g h : ℕ → ℕ) (vs : List ℕ) → sel_l (map p vs) (map g vs) (map h vs) ≡ map (λ v. cond (p v) (g v) (h v)) vs
sel_of_maps p g h [] = refl
sel_of_maps p g h (v ∷ vs) = ap (λ l. cond (p v) (g v) (h v) ∷ l) (sel_of_maps p g h vs)

-- the greater of a number and its opposite, as its 32 bits
abbrev pub less : ℕ → ℕ → ℕ
less a b = cond (lt_z (to_z w32 a) (to_z w32 b)) 4294967295 0

abbrev pub minus : ℕ → ℕ → ℕ
minus a b = (a + (4294967296 - b)) % 4294967296

abbrev pub size : ℕ → ℕ
size x = cond (top 31 (less x (minus 0 x))) (minus 0 x) x

abbrev pub sizes : List ℕ → List ℕ
sizes xs = sel_l (map (top 31) (zip2 less xs (zip2 minus (replicate 16 0) xs))) (zip2 minus (replicate 16 0) xs) xs

pub sizes_are : (xs : List ℕ) → length xs ≡ 16 → sizes xs ≡ map size xs
sizes_are xs long =
    let opposites : zip2 minus (replicate 16 0) xs ≡ map (minus 0) xs = zip2_splat_left minus 0 16 xs long in
    let compared : zip2 less xs (zip2 minus (replicate 16 0) xs) ≡ map (λ x. less x (minus 0 x)) xs =
    zip2_of_maps less (λ x. x) (minus 0) xs (sym (map-id xs)) opposites in
    let tops : map (top 31) (zip2 less xs (zip2 minus (replicate 16 0) xs)) ≡ map (λ x. top 31 (less x (minus 0 x))) xs =
    ap (map (top 31)) compared ∙ map-map (top 31) (λ x. less x (minus 0 x)) xs in
    ap (λ ms. sel_l ms (zip2 minus (replicate 16 0) xs) xs) tops ∙
    ap (λ l. sel_l (map (λ x. top 31 (less x (minus 0 x))) xs) l xs) opposites ∙
    ap (λ l. sel_l (map (λ x. top 31 (less x (minus 0 x))) xs) (map (minus 0) xs) l) (sym (map-id xs)) ∙
    sel_of_maps (λ x. top 31 (less x (minus 0 x))) (minus 0) (λ x. x) xs

-- ---- one lane

pub size_is : (z : ℤ) → FitsSigned w32 z → size (of_z w32 z) ≡ unsigned_abs z
size_is z fits = grind (arith, nat_tests, top_of, w32)
