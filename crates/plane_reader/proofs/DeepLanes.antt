-- Which of sixteen states have a depth above a plane, lane by lane.
use Rattle.std.proofs.Common.{◌≡◌, ℕ, ◌+◌, ◌%◌, ◌<◌, ◌≤◌, ◌^◌, ℤ, pos, negsuc, Bool, cond, List, length, map, get_or, replicate, nat_lt, bit_and}
use Rattle.std.proofs.Common.{FitsSigned, ap, sym, ◌∙◌, subst, arith, w32}
use Rattle.std.specs.Simd.Lanes.{mask_l, top, zip2}
use Rattle.std.proofs.lemmas.Bool.Decides.{nat_tests}
use Rattle.std.proofs.lemmas.Int.{ints, to_z_pos}
use Rattle.std.proofs.lemmas.List.{length-map}
use Rattle.std.proofs.lemmas.Nat.{and_mask}
use Rattle.std.proofs.lemmas.Simd.{zip2_splat, zip2_splat_left, map-map}
use lib.Signed.{lt_z}
use mir.Val.{of_z, to_z}
use Rattle.plane_defs.specs.Marks.{depth_of, depths_of}
use Rattle.block_masks.specs.Masks.{Shows}
use Rattle.block_masks.proofs.LaneMasks.{lanes, length-lanes, shown, top_of}
use Rattle.block_masks.proofs.Marking.{depth_there}

-- the last five bits of a state
depth_bits : (z : ℤ) → FitsSigned w32 z → of_z w32 z % 32 ≡ depth_of z
depth_bits (pos n) fits = omega (arith, ints, fits)
depth_bits (negsuc n) fits = omega (arith, ints, fits)

pos_less : (a b : ℕ) → lt_z (pos a) (pos b) ≡ nat_lt a b
pos_less a b = grind (arith, nat_tests)

abbrev less : ℕ → ℕ → ℕ
less a b = cond (lt_z (to_z w32 a) (to_z w32 b)) 4294967295 0

one_lane : (plane y : ℕ) (z : ℤ) → y ≡ plane → plane < 27 → FitsSigned w32 z → top 31 (less y (bit_and (of_z w32 z) 31)) ≡ nat_lt plane (depth_of z)
one_lane plane y z same low fits =
    let d : bit_and (of_z w32 z) 31 ≡ depth_of z = and_mask (of_z w32 z) 5 ∙ depth_bits z fits in
    let small : depth_of z < 32 = subst (λ n. n < 32) (depth_bits z fits) (omega arith) in
    ap (λ b. top 31 (less y b)) d ∙ ap (λ a. top 31 (less a (depth_of z))) same ∙ top_of (lt_z (to_z w32 plane) (to_z w32 (depth_of z))) ∙
    ap (λ a. lt_z a (to_z w32 (depth_of z))) (to_z_pos w32 plane (omega (arith, low))) ∙ ap (lt_z (pos plane)) (to_z_pos w32 (depth_of z) (omega (
      arith,
      small,
    ))) ∙
    pos_less plane (depth_of z)

pub deep_lanes : (marks : List ℤ) (first plane y : ℕ) → first + 16 ≤ length marks → ((k : ℕ) → k < 16 → FitsSigned w32 (get_or marks (first + k) (pos 0))) →
    y ≡ plane → plane < 27 →
    Shows (mask_l (map (top 31) (zip2 less (replicate 16 y) (zip2 bit_and (lanes marks first) (replicate 16 31)))) % 2 ^ 64) (λ r. nat_lt plane (get_or
    (depths_of marks) r 0)) first 16
deep_lanes marks first plane y within fits same low =
    let xs = lanes marks first in
    let f : ℕ → Bool = λ r. nat_lt plane (get_or (depths_of marks) r 0) in
    let long = length-lanes marks first within in
    let ands : zip2 bit_and xs (replicate 16 31) ≡ map (λ x. bit_and x 31) xs = zip2_splat bit_and xs 16 31 long in
    let ands_long : length (map (λ x. bit_and x 31) xs) ≡ 16 = length-map xs (λ x. bit_and x 31) ∙ long in
    let step : map (top 31) (zip2 less (replicate 16 y) (zip2 bit_and xs (replicate 16 31))) ≡ map (λ x. top 31 (less y (bit_and x 31))) xs =
    ap (λ l. map (top 31) (zip2 less (replicate 16 y) l)) ands ∙ ap (map (top 31)) (zip2_splat_left less y 16 (map (λ x. bit_and x 31) xs) ands_long) ∙
    ap (map (top 31)) (map-map (less y) (λ x. bit_and x 31) xs) ∙ map-map (top 31) (λ x. less y (bit_and x 31)) xs in
    subst (λ ms. Shows (mask_l ms % 2 ^ 64) f first 16) (sym step) (shown (λ x. top 31 (less y (bit_and x 31))) f marks first within
    (λ k below. one_lane plane y (get_or marks (first + k) (pos 0)) same low (fits k below) ∙ ap (nat_lt plane) (sym (depth_there marks (first + k)))))
