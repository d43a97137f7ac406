-- The depths of blocks hold their numbers, and no lesser depths do.
use Rattle.std.proofs.Common.{◌≡◌, ◌⊎◌, ℕ, zero, suc, ◌+◌, ◌-◌, ◌*◌, ◌^◌, ◌<◌, ◌≤◌, List, [], ◌∷◌, length, drop, max, get_or, true, refl, ap, ◌∙◌, arith}
use Rattle.std.proofs.Common.{inl, inr, ℤ, pos, negsuc, fold, unsigned_abs, All, pow_mono}
use Rattle.std.proofs.Math.Nat.{pow-suc, max-le}
use Rattle.std.proofs.lemmas.Int.{ints}
use Rattle.number_defs.specs.Ranges.{IsInRange}
use Rattle.segment_defs.specs.Size.{size_of}
use Rattle.segment_defs.specs.Depths.{dc_of, block_depth, signed_size, depth_dc_of, depth_ac_of}
use Rattle.segment_defs.specs.Laws.{DepthsAreLeast}
use Rattle.segment_defs.proofs.Sizes.{size_is, size_of-least}

-- ---- the greatest of some numbers is their least bound

after_above : {X : Type 0} (f : X → ℕ) (a : ℕ) (xs : List X) → a ≤ fold (λ most x. max most (f x)) a xs
after_above f a [] = omega arith
after_above f a (x ∷ xs) = let rest = after_above f (max a (f x)) xs in omega (arith, rest)

pub each_above : {X : Type 0} (f : X → ℕ) (a : ℕ) (xs : List X) (k : ℕ) (d : X) → k < length xs → f (get_or xs k d) ≤ fold (λ most x. max most (f x)) a xs
each_above f a [] k d lt = absurd (omega arith)
each_above f a (x ∷ xs) zero d lt = let rest = after_above f (max a (f x)) xs in omega (arith, rest)
each_above f a (x ∷ xs) (suc k) d lt = each_above f (max a (f x)) xs k d (omega arith)

bounded : {X : Type 0} (f : X → ℕ) (a m : ℕ) (xs : List X) → a ≤ m → All (λ x. f x ≤ m) xs → fold (λ most x. max most (f x)) a xs ≤ m
bounded f a m [] le each = le
bounded f a m (x ∷ xs) le each = bounded f (max a (f x)) m xs (max-le le (each 0 x (omega arith))) (λ k d lt. each (suc k) d (omega arith))

-- ---- numbers in two's complement

double : (N : ℕ) → 1 ≤ N → 2 ^ N ≡ 2 ^ (N - 1) * 2
double N some = ap (λ k. 2 ^ k) (omega arith) ∙ pow-suc 2 (N - 1)

in_range : (N : ℕ) (z : ℤ) (b : ℕ) → 1 ≤ N → b < 2 ^ (N - 1) → (z ≡ pos b) ⊎ (z ≡ negsuc b) → IsInRange true N z
in_range N z b some lt (inl e) = rw e (record { low = omega (arith, ints); high = omega (arith, ints, double N some, lt) })
in_range N z b some lt (inr e) = rw e (record { low = omega (arith, ints, lt); high = omega (arith, ints, double N some) })

sized : (a size D : ℕ) → size ≡ size_of a → size + 1 ≤ D → a < 2 ^ (D - 1)
sized a size D e le =
    let below : a < 2 ^ size_of a = (size_is a).holds in
    let mono : 2 ^ size_of a ≤ 2 ^ (D - 1) = pow_mono {i = size_of a} {j = D - 1} (omega (arith, e, le)) in
    omega arith

-- a number is in the range of at least as many bits as its size
pub range_of_size : (z : ℤ) (D : ℕ) → signed_size z ≤ D → IsInRange true D z
range_of_size (pos a) D le = in_range D (pos a) a (omega arith) (sized a (size_of a) D refl le) (inl refl)
range_of_size (negsuc a) D le = in_range D (negsuc a) a (omega arith) (sized a (size_of a) D refl le) (inr refl)

size_of_range : (z : ℤ) (D : ℕ) → 1 ≤ D → IsInRange true D z → signed_size z ≤ D
size_of_range (pos a) D some h = let least = size_of-least a (D - 1) (omega (arith, ints, h.high, double D some)) in omega arith
size_of_range (negsuc a) D some h = let least = size_of-least a (D - 1) (omega (arith, ints, h.low)) in omega arith

-- ---- magnitudes

magnitude_within : (z : ℤ) (d : ℕ) → size_of (unsigned_abs z) ≤ d → unsigned_abs z < 2 ^ d
magnitude_within z d le =
    let below : unsigned_abs z < 2 ^ size_of (unsigned_abs z) = (size_is (unsigned_abs z)).holds in
    let mono : 2 ^ size_of (unsigned_abs z) ≤ 2 ^ d = pow_mono {i = size_of (unsigned_abs z)} {j = d} le in
    omega arith

block_within : (block : List ℤ) (d : ℕ) → block_depth block ≤ d → All (λ z. unsigned_abs z < 2 ^ d) (drop 1 block)
block_within block d le k z lt =
    let here = each_above (λ z. size_of (unsigned_abs z)) 0 (drop 1 block) k z lt in
    magnitude_within (get_or (drop 1 block) k z) d (omega (arith, here, le))

block_least : (block : List ℤ) (d : ℕ) → All (λ z. unsigned_abs z < 2 ^ d) (drop 1 block) → block_depth block ≤ d
block_least block d each =
    bounded (λ z. size_of (unsigned_abs z)) 0 d (drop 1 block) (omega arith)
    (λ k z lt. size_of-least (unsigned_abs (get_or (drop 1 block) k z)) d (each k z lt))

pub depths_law : DepthsAreLeast
depths_law = record {
  dc_holds = λ blocks k b lt. range_of_size (dc_of (get_or blocks k b)) (depth_dc_of blocks) (each_above (λ block. signed_size (dc_of block)) 0 blocks k b lt);
  dc_least = λ blocks d some each.
      bounded (λ block. signed_size (dc_of block)) 0 d blocks (omega arith) (λ k b lt. size_of_range (dc_of (get_or blocks k b)) d some (each k b lt));
  block_holds = λ block. block_within block (block_depth block) (omega arith);
  block_least = block_least;
  ac_holds = λ blocks k b lt. block_within (get_or blocks k b) (depth_ac_of blocks) (each_above block_depth 0 blocks k b lt);
  ac_least = λ blocks d each. bounded block_depth 0 d blocks (omega arith) (λ k b lt. block_least (get_or blocks k b) d (each k b lt));
}
