-- Sizes by leading zeros, and the greatest of sizes.
use Rattle.std.proofs.Common.{◌≡◌, ℕ, zero, suc, ◌+◌, ◌-◌, ◌*◌, ◌^◌, ◌<◌, ◌≤◌, List, [], ◌∷◌, ◌++◌, length, max, get_or, arith, ℤ, fold, pow_mono}
use Rattle.std.proofs.Common.{pow-suc}
use Rattle.std.proofs.lemmas.List.Sums.{fold-append}
use Rattle.std.proofs.lemmas.Bool.Decides.{nat_tests}
use lib.Count.{count_leading_zeros, leading_length}
use Rattle.segment_defs.specs.Size.{size_of, greatest}
use Rattle.segment_defs.specs.Depths.{signed_size}
use Rattle.segment_defs.proofs.Sizes.{size_of-unique}

-- the first m powers of two are at most n
powers_below : (m n : ℕ) → 2 ^ m ≤ 2 * n + 1 → (k : ℕ) → k < m → 2 ^ k ≤ n
powers_below zero n h k lt = absurd (omega arith)
powers_below (suc m) n h k lt =
    let top : 2 ^ suc m ≡ 2 ^ m * 2 = pow-suc 2 m in
    let mono : 2 ^ k ≤ 2 ^ m = pow_mono {i = k} {j = m} (omega arith) in
    omega (arith, top, mono, h)

pub size-leading_zeros : (n : ℕ) → n < 2 ^ 32 → 32 - count_leading_zeros 32 n ≡ size_of n
size-leading_zeros n lt =
    let l = leading_length 32 n lt in
    let same : size_of n ≡ l.0 = size_of-unique n l.0 l.2 (powers_below l.0 n l.3) in
    omega (arith, same, l.1)

module _ {X : Type 0} (f : X → ℕ) where
  within_after : (m a : ℕ) (xs : List X) → a ≤ m → ((k : ℕ) (d : X) → k < length xs → f (get_or xs k d) ≤ m) → fold (λ most x. max most (f x)) a xs ≤ m
  within_after m a [] le h = le
  within_after m a (x ∷ xs) le h = let here : f x ≤ m =
      h 0 x (omega arith) in within_after m (max a (f x)) xs (omega arith) (λ k d lt. h (suc k) d (omega arith))

  -- the greatest is at most any bound of all
  pub greatest-within : (m : ℕ) (xs : List X) → ((k : ℕ) (d : X) → k < length xs → f (get_or xs k d) ≤ m) → greatest f xs ≤ m
  greatest-within m xs h = within_after m 0 xs (omega arith) h

  pub greatest-push : (xs : List X) (x : X) → greatest f (xs ++ x ∷ []) ≡ max (greatest f xs) (f x)
  greatest-push xs x = fold-append (λ most y. max most (f y)) 0 xs (x ∷ [])

-- two's complement takes at least one bit
pub signed_size-some : (z : ℤ) → 1 ≤ signed_size z
signed_size-some z = grind (arith, nat_tests)
