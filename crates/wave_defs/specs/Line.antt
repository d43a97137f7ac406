-- One line of the integer nine-seven wavelet transform of CCSDS 122.0-B-2, and its inverse. A line
-- is a signal, a function from places to samples; one of 2 * n samples has n low and n high ones.
use Rattle.std.specs.Prelude.{ℕ, ◌+◌, ◌-◌, ◌*◌, ◌/◌, ◌%◌, min, ℤ, pos, negsuc, ◌+ℤ◌, ◌-ℤ◌, ◌*ℤ◌, if◌then◌else◌, ◌==◌}

-- z / m, rounded down
abbrev pub floor_div : ℤ → ℕ → ℤ
floor_div (pos a) m = pos (a / m)
floor_div (negsuc a) m = negsuc (a / m)

-- what the four even samples round an odd one, from left to right, predict it to be
unfoldable pub predicted : ℤ → ℤ → ℤ → ℤ → ℤ
predicted a b c d = floor_div (pos 9 *ℤ (b +ℤ c) -ℤ (a +ℤ d) +ℤ pos 8) 16

-- what the high samples on both sides of an even one correct it by
unfoldable pub correction : ℤ → ℤ → ℤ
correction before after = floor_div (pos 2 -ℤ (before +ℤ after)) 4

-- The samples outside a line are mirrored: sample -i is sample i, and sample 2 * n - 1 + i is
-- sample 2 * n - 1 - i. So the even one before the first is the second, and after the last even one
-- follow the last one again, then the one before it: here by number among the even samples.
abbrev pub even_before : ℕ → ℕ
even_before j = (j - 1) + (1 - j)

abbrev pub even_within : ℕ → ℕ → ℕ
even_within n k = min k (2 * n - 1 - k)

-- the prediction of odd sample j from the even samples e, of which there are n
unfoldable pub prediction : (ℕ → ℤ) → ℕ → ℕ → ℤ
prediction e n j =
    predicted (e (even_before j)) (e j) (e (even_within n (j + 1))) (e (even_within n (j + 2)))

-- high sample j of a line x
unfoldable pub high_of : (ℕ → ℤ) → ℕ → ℕ → ℤ
high_of x n j = x (2 * j + 1) -ℤ prediction (λ k. x (2 * k)) n j

-- low sample j: high sample 0 is also used as the one before the first, since 0 - 1 is 0
unfoldable pub low_of : (ℕ → ℤ) → ℕ → ℕ → ℤ
low_of x n j = x (2 * j) -ℤ correction (high_of x n (j - 1)) (high_of x n j)

-- the inverse, from low samples c and high samples d: even sample j, then odd sample j from the even ones
unfoldable pub even_of : (ℕ → ℤ) → (ℕ → ℤ) → ℕ → ℤ
even_of c d j = c j +ℤ correction (d (j - 1)) (d j)

unfoldable pub odd_of : (ℕ → ℤ) → (ℕ → ℤ) → ℕ → ℕ → ℤ
odd_of c d n j = d j +ℤ prediction (even_of c d) n j

-- the line itself
unfoldable pub merged : (ℕ → ℤ) → (ℕ → ℤ) → ℕ → ℕ → ℤ
merged c d n i = if i % 2 == 0 then even_of c d (i / 2) else odd_of c d n (i / 2)
