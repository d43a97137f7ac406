-- The first rows of an image determine the first rows of its bands.
use Rattle.std.proofs.Common.{◌≡◌, ℕ, ◌+◌, ◌*◌, ◌<◌, ◌≤◌, ℤ, arith}
use Rattle.std.proofs.lemmas.Bool.Decides.{nat_tests}
use Rattle.wave_defs.specs.Line.{high_of, low_of, prediction}
use Rattle.wave_defs.specs.Level.{level, columns_low, columns_high}
use Rattle.wave_defs.specs.Pyramid.{pyramid, pyramid_of}
use Rattle.wave_defs.specs.Held.{SameWithin, SameQuarters}
use Rattle.wave_defs.specs.Settled.{SameUpTo}
use Rattle.wave_defs.proofs.LevelSame.{rows_low-same, rows_high-same}
use Rattle.wave_defs.proofs.PyramidLaws.{SameWithin-part}

-- a column, of n and of k pairs, whose first samples are the same
high_of-settled : (x y : ℕ → ℤ) (n k i : ℕ) → i + 2 < n → i + 2 < k → ((r : ℕ) → r < 2 * i + 5 → x r ≡ y r) → high_of x n i ≡ high_of y k i
unfolding high_of prediction
high_of-settled x y n k i hn hk s = grind (arith, nat_tests)

low_of-settled : (x y : ℕ → ℤ) (n k i : ℕ) → i + 2 < n → i + 2 < k → ((r : ℕ) → r < 2 * i + 5 → x r ≡ y r) → low_of x n i ≡ low_of y k i
unfolding low_of
low_of-settled x y n k i hn hk s = grind (arith, nat_tests, high_of-settled)

columns_high-settled : (x y : ℕ → ℕ → ℤ) (n k j w : ℕ) → j + 2 < n → j + 2 < k → SameWithin (2 * j + 5) w x y →
    SameWithin (j + 1) w (columns_high x n) (columns_high y k)
unfolding columns_high
columns_high-settled x y n k j w hn hk s = record {
  at = λ i c hi hc. high_of-settled (λ r. x r c) (λ r. y r c) n k i (omega arith) (omega arith) (λ r h. s.at r c (omega arith) hc);
}

columns_low-settled : (x y : ℕ → ℕ → ℤ) (n k j w : ℕ) → j + 2 < n → j + 2 < k → SameWithin (2 * j + 5) w x y →
    SameWithin (j + 1) w (columns_low x n) (columns_low y k)
unfolding columns_low
columns_low-settled x y n k j w hn hk s = record {
  at = λ i c hi hc. low_of-settled (λ r. x r c) (λ r. y r c) n k i (omega arith) (omega arith) (λ r h. s.at r c (omega arith) hc);
}

pub level-settled : (x y : ℕ → ℕ → ℤ) (n k m j : ℕ) → 2 ≤ m → j + 2 < n → j + 2 < k → SameWithin (2 * j + 5) (2 * m) x y →
    SameQuarters (j + 1) m (level x n m) (level y k m)
unfolding level
level-settled x y n k m j two hn hk s =
    let low = rows_low-same (2 * j + 5) m x y two s in
    let high = rows_high-same (2 * j + 5) m x y two s in
    record {
      ll = columns_low-settled _ _ n k j m hn hk low;
      hl = columns_low-settled _ _ n k j m hn hk high;
      lh = columns_high-settled _ _ n k j m hn hk low;
      hh = columns_high-settled _ _ n k j m hn hk high;
    }

pub pyramid-settled : (x y : ℕ → ℕ → ℤ) (r s c b : ℕ) → 2 ≤ c → 8 * b + 29 ≤ 8 * r → 8 * b + 29 ≤ 8 * s → SameWithin (8 * b + 29) (8 * c) x y →
    SameUpTo b c (pyramid x r c) (pyramid y s c)
unfolding pyramid pyramid_of
pyramid-settled x y r s c b two hr hs same =
    let part = λ (p q v w : ℕ) (f g : ℕ → ℕ → ℤ) (a : q ≤ p) (b : w ≤ v) (z : SameWithin p v f g). SameWithin-part p q v w f g a b z in
    let one = level-settled x y (4 * r) (4 * s) (4 * c) (4 * b + 12) (omega arith) (omega arith) (omega arith)
    (part _ _ _ _ x y (omega arith) (omega arith) same) in
    let mid = level-settled _ _ (2 * r) (2 * s) (2 * c) (2 * b + 4) (omega arith) (omega arith) (omega arith)
    (part _ _ _ _ _ _ (omega arith) (omega arith) one.ll) in
    let last = level-settled _ _ r s c b two (omega arith) (omega arith) (part _ _ _ _ _ _ (omega arith) (omega arith) mid.ll) in
    record {
      hh1 = part _ _ _ _ _ _ (omega arith) (omega arith) one.hh;
      hl1 = part _ _ _ _ _ _ (omega arith) (omega arith) one.hl;
      lh1 = part _ _ _ _ _ _ (omega arith) (omega arith) one.lh;
      hh2 = part _ _ _ _ _ _ (omega arith) (omega arith) mid.hh;
      hl2 = part _ _ _ _ _ _ (omega arith) (omega arith) mid.hl;
      lh2 = part _ _ _ _ _ _ (omega arith) (omega arith) mid.lh;
      hh3 = last.hh;
      hl3 = last.hl;
      lh3 = last.lh;
      ll3 = last.ll;
    }
