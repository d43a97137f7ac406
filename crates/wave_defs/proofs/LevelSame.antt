-- A pass over an image, and a level, depend only on the samples within it.
use Rattle.std.proofs.Common.{ℕ, ◌*◌, ◌≤◌, ℤ, ◌∙◌}
use Rattle.wave_defs.specs.Level.{Quarters, level, joined, rows_low, rows_high, columns_low, columns_high, rows_merged, columns_merged}
use Rattle.wave_defs.specs.Held.{SameWithin, SameQuarters}
use Rattle.wave_defs.proofs.LineLaws.{high_of-same, low_of-same, merged-same}

pub SameWithin-trans : (r w : ℕ) (x y z : ℕ → ℕ → ℤ) → SameWithin r w x y → SameWithin r w y z → SameWithin r w x z
SameWithin-trans r w x y z a b = record { at = λ i j hi hj. a.at i j hi hj ∙ b.at i j hi hj }

pub rows_low-same : (r n : ℕ) (x y : ℕ → ℕ → ℤ) → 2 ≤ n → SameWithin r (2 * n) x y → SameWithin r n (rows_low x n) (rows_low y n)
unfolding rows_low
rows_low-same r n x y two s = record {
  at = λ i j hi hj. low_of-same n j (x i) (y i) two hj (record { at = λ k h. s.at i k hi h });
}

pub rows_high-same : (r n : ℕ) (x y : ℕ → ℕ → ℤ) → 2 ≤ n → SameWithin r (2 * n) x y → SameWithin r n (rows_high x n) (rows_high y n)
unfolding rows_high
rows_high-same r n x y two s = record {
  at = λ i j hi hj. high_of-same n j (x i) (y i) two hj (record { at = λ k h. s.at i k hi h });
}

pub columns_low-same : (n w : ℕ) (x y : ℕ → ℕ → ℤ) → 2 ≤ n → SameWithin (2 * n) w x y → SameWithin n w (columns_low x n) (columns_low y n)
unfolding columns_low
columns_low-same n w x y two s = record {
  at = λ i j hi hj. low_of-same n i (λ r. x r j) (λ r. y r j) two hi (record { at = λ k h. s.at k j h hj });
}

pub columns_high-same : (n w : ℕ) (x y : ℕ → ℕ → ℤ) → 2 ≤ n → SameWithin (2 * n) w x y → SameWithin n w (columns_high x n) (columns_high y n)
unfolding columns_high
columns_high-same n w x y two s = record {
  at = λ i j hi hj. high_of-same n i (λ r. x r j) (λ r. y r j) two hi (record { at = λ k h. s.at k j h hj });
}

pub level-same : (n m : ℕ) (x y : ℕ → ℕ → ℤ) → 2 ≤ n → 2 ≤ m → SameWithin (2 * n) (2 * m) x y → SameQuarters n m (level x n m) (level y n m)
unfolding level
level-same n m x y hn hm s =
    let low = rows_low-same (2 * n) m x y hm s in
    let high = rows_high-same (2 * n) m x y hm s in
    record {
      ll = columns_low-same n m _ _ hn low;
      hl = columns_low-same n m _ _ hn high;
      lh = columns_high-same n m _ _ hn low;
      hh = columns_high-same n m _ _ hn high;
    }

-- the inverse
pub rows_merged-same : (r n : ℕ) (c c' d d' : ℕ → ℕ → ℤ) → 2 ≤ n → SameWithin r n c c' → SameWithin r n d d' →
    SameWithin r (2 * n) (rows_merged c d n) (rows_merged c' d' n)
unfolding rows_merged
rows_merged-same r n c c' d d' two s t = record {
  at = λ i j hi hj.
      let m = merged-same n (c i) (c' i) (d i) (d' i) two (record { at = λ k h. s.at i k hi h }) (record { at = λ k h. t.at i k hi h }) in
      m.at j hj;
}

pub columns_merged-same : (n w : ℕ) (c c' d d' : ℕ → ℕ → ℤ) → 2 ≤ n → SameWithin n w c c' → SameWithin n w d d' →
    SameWithin (2 * n) w (columns_merged c d n) (columns_merged c' d' n)
unfolding columns_merged
columns_merged-same n w c c' d d' two s t = record {
  at = λ i j hi hj.
      let m = merged-same n (λ r. c r j) (λ r. c' r j) (λ r. d r j) (λ r. d' r j) two (record { at = λ k h. s.at k j h hj })
      (record { at = λ k h. t.at k j h hj }) in
      m.at i hi;
}

pub joined-same : (n m : ℕ) (p q : Quarters) → 2 ≤ n → 2 ≤ m → SameQuarters n m p q → SameWithin (2 * n) (2 * m) (joined p n m) (joined q n m)
unfolding joined
joined-same n m p q hn hm s =
    rows_merged-same (2 * n) m _ _ _ _ hm
    (columns_merged-same n m p.ll q.ll p.lh q.lh hn s.ll s.lh)
    (columns_merged-same n m p.hl q.hl p.hh q.hh hn s.hl s.hh)
