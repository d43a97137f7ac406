-- The number of bits of a number.
use Rattle.std.specs.Prelude.{ℕ, ◌^◌, nat_le, max, List}
use Rattle.std.specs.List.{fold, count_by, range_with_len}

-- the least d for which n is below 2 ^ d: this number of powers of two, from 2 ^ 0 on, is at most n
unfoldable pub size_of : ℕ → ℕ
size_of n = count_by (λ k. nat_le (2 ^ k) n) (range_with_len 0 n)

-- the greatest of these numbers, or 0
abbrev pub greatest : {X : Type 0} → (X → ℕ) → List X → ℕ
greatest f xs = fold (λ most x. max most (f x)) 0 xs
