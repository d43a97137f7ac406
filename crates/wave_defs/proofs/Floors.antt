-- Division rounded down, by its two bounds.
use Rattle.std.proofs.Common.{ℕ, ◌+◌, ◌-◌, ◌*◌, ◌/◌, ◌<◌, ◌≤◌, ℤ, pos, negsuc, ◌+ℤ◌, ◌*ℤ◌, ◌-ℤ◌, ◌≤ℤ◌, ◌<ℤ◌, arith}
use Rattle.std.proofs.lemmas.Int.{ints}
use Rattle.wave_defs.specs.Line.{floor_div, predicted, correction, prediction, high_of, low_of, even_of, odd_of, even_before, even_within}
use Rattle.wave_defs.specs.Within.{IsWithin, AllWithin}

pub floor_16 : (z : ℤ) → ((pos 16 *ℤ floor_div z 16) ≤ℤ z) × (z <ℤ ((pos 16 *ℤ floor_div z 16) +ℤ pos 16))
floor_16 (pos a) = (omega (arith, ints), omega (arith, ints))
floor_16 (negsuc a) = (omega (arith, ints), omega (arith, ints))

pub floor_4 : (z : ℤ) → ((pos 4 *ℤ floor_div z 4) ≤ℤ z) × (z <ℤ ((pos 4 *ℤ floor_div z 4) +ℤ pos 4))
floor_4 (pos a) = (omega (arith, ints), omega (arith, ints))
floor_4 (negsuc a) = (omega (arith, ints), omega (arith, ints))

-- ---- bounds on the values: two passes of the line multiply a bound by at most 5 / 2 each

pub predicted-within : (m : ℕ) (a b c d : ℤ) → 2 ≤ m → IsWithin (2 * m) a → IsWithin (2 * m) b → IsWithin (2 * m) c → IsWithin (2 * m) d →
    IsWithin (3 * m) (predicted a b c d)
unfolding predicted
predicted-within m a b c d two ha hb hc hd =
    let f = floor_16 (pos 9 *ℤ (b +ℤ c) -ℤ (a +ℤ d) +ℤ pos 8) in
    record { above = omega (arith, ints); below = omega (arith, ints) }

pub correction-within : (m : ℕ) (a b : ℤ) → 1 ≤ m → IsWithin m a → IsWithin m b → IsWithin m (correction a b)
unfolding correction
correction-within m a b one ha hb =
    let f = floor_4 (pos 2 -ℤ (a +ℤ b)) in
    record { above = omega (arith, ints); below = omega (arith, ints) }

pub high_of-within : (m n j : ℕ) (x : ℕ → ℤ) → 2 ≤ m → 2 ≤ n → j < n → AllWithin (2 * m) (2 * n) x → IsWithin (5 * m) (high_of x n j)
unfolding high_of prediction
high_of-within m n j x two even h w =
    let at = λ (k : ℕ) (l : k < n). w.at (2 * k) (omega arith) in
    let p = predicted-within m _ _ _ _ two (at (even_before j) (omega arith)) (at j h) (at (even_within n (j + 1)) (omega arith))
    (at (even_within n (j + 2)) (omega arith)) in
    let o = w.at (2 * j + 1) (omega arith) in
    record { above = omega (arith, ints); below = omega (arith, ints) }

pub low_of-within : (m n j : ℕ) (x : ℕ → ℤ) → 2 ≤ m → 2 ≤ n → j < n → AllWithin (2 * m) (2 * n) x → IsWithin (5 * m) (low_of x n j)
unfolding low_of correction
low_of-within m n j x two even h w =
    let a = high_of-within m n (j - 1) x two even (omega arith) w in
    let b = high_of-within m n j x two even h w in
    let f = floor_4 (pos 2 -ℤ (high_of x n (j - 1) +ℤ high_of x n j)) in
    let e = w.at (2 * j) (omega arith) in
    record { above = omega (arith, ints); below = omega (arith, ints) }

pub even_of-within : (m n j : ℕ) (c d : ℕ → ℤ) → 1 ≤ m → j < n → AllWithin m n c → AllWithin m n d → IsWithin (2 * m) (even_of c d j)
unfolding even_of
even_of-within m n j c d one h wc wd =
    let e = wc.at j h in
    let k = correction-within m _ _ one (wd.at (j - 1) (omega arith)) (wd.at j h) in
    record { above = omega (arith, ints); below = omega (arith, ints) }

-- ---- exact bounds for the inverse: even samples are at most half as much again, odd ones at most three times

abbrev pub half_more : ℕ → ℕ
half_more m = m + (m + 1) / 2

pub even_of-half_more : (m n j : ℕ) (c d : ℕ → ℤ) → 1 ≤ m → j < n → AllWithin m n c → AllWithin m n d → IsWithin (half_more m) (even_of c d j)
unfolding even_of correction
even_of-half_more m n j c d one h wc wd =
    let e = wc.at j h in
    let a = wd.at (j - 1) (omega arith) in
    let b = wd.at j h in
    let f = floor_4 (pos 2 -ℤ (d (j - 1) +ℤ d j)) in
    record { above = omega (arith, ints); below = omega (arith, ints) }

pub predicted-double : (m : ℕ) (a b c d : ℤ) → 9 ≤ m → IsWithin (half_more m) a → IsWithin (half_more m) b → IsWithin (half_more m) c →
    IsWithin (half_more m) d → IsWithin (2 * m) (predicted a b c d)
unfolding predicted
predicted-double m a b c d nine ha hb hc hd =
    let f = floor_16 (pos 9 *ℤ (b +ℤ c) -ℤ (a +ℤ d) +ℤ pos 8) in
    record { above = omega (arith, ints); below = omega (arith, ints) }

pub odd_of-thrice : (m n j : ℕ) (c d : ℕ → ℤ) → 9 ≤ m → 2 ≤ n → j < n → AllWithin m n c → AllWithin m n d → IsWithin (3 * m) (odd_of c d n j)
unfolding odd_of prediction
odd_of-thrice m n j c d nine long h wc wd =
    let o = wd.at j h in
    let at = λ (k : ℕ) (l : k < n). even_of-half_more m n k c d (omega arith) l wc wd in
    let p = predicted-double m _ _ _ _ nine (at (even_before j) (omega arith)) (at j h) (at (even_within n (j + 1)) (omega arith))
    (at (even_within n (j + 2)) (omega arith)) in
    record { above = omega (arith, ints); below = omega (arith, ints) }
