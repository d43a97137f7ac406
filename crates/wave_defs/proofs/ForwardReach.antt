-- The rows of an image that a block row is made from.
use Rattle.std.proofs.Common.{◌≡◌, ℕ, ◌+◌, ◌-◌, ◌*◌, ◌<◌, ◌≤◌, ℤ, min, arith}
use Rattle.std.proofs.lemmas.Bool.Decides.{nat_tests}
use Rattle.wave_defs.specs.Line.{prediction, high_of, low_of}
use Rattle.wave_defs.specs.Level.{level, columns_low, columns_high}
use Rattle.wave_defs.specs.Pyramid.{padded, pyramid, pyramid_of}
use Rattle.wave_defs.specs.Held.{SameWithin, SameQuarters, SamePyramid}
use Rattle.wave_defs.specs.Reach.{SameBlock}
use Rattle.wave_defs.proofs.LevelSame.{rows_low-same, rows_high-same}
use Rattle.wave_defs.proofs.PyramidLaws.{SameWithin-part}
use Rattle.wave_defs.proofs.BlockPlaces.{SamePyramid-block}

-- a line of which the first m samples are known; high sample j needs sample 2 * j + 4
pub high_of-known : (m n n' j : ℕ) (x y : ℕ → ℤ) → m ≤ 2 * n → m ≤ 2 * n' → 2 * j + 4 < m → ((k : ℕ) → k < m → x k ≡ y k) → high_of x n j ≡ high_of y n' j
unfolding high_of prediction
high_of-known m n n' j x y hn hn' h same = grind (arith, nat_tests)

pub low_of-known : (m n n' j : ℕ) (x y : ℕ → ℤ) → m ≤ 2 * n → m ≤ 2 * n' → 2 * j + 4 < m → ((k : ℕ) → k < m → x k ≡ y k) → low_of x n j ≡ low_of y n' j
unfolding low_of
low_of-known m n n' j x y hn hn' h same =
    let e = same (2 * j) (omega arith) in
    let p = high_of-known m n n' (j - 1) x y hn hn' (omega arith) same in
    let q = high_of-known m n n' j x y hn hn' h same in
    cc

pub line-known : (m n n' j : ℕ) (x y : ℕ → ℤ) → m ≤ 2 * n → m ≤ 2 * n' → 2 * j + 4 < m → ((k : ℕ) → k < m → x k ≡ y k) →
    (low_of x n j ≡ low_of y n' j) × (high_of x n j ≡ high_of y n' j)
line-known m n n' j x y hn hn' h same = (low_of-known m n n' j x y hn hn' h same, high_of-known m n n' j x y hn hn' h same)

-- the columns of an image of which the first m rows are known
pub columns_low-known : (m v n n' w : ℕ) (a b : ℕ → ℕ → ℤ) → m ≤ 2 * n → m ≤ 2 * n' → 2 * v + 2 < m → SameWithin m w a b →
    SameWithin v w (columns_low a n) (columns_low b n')
unfolding columns_low
columns_low-known m v n n' w a b hn hn' h s = record {
  at = λ i j hi hj. low_of-known m n n' i (λ r. a r j) (λ r. b r j) hn hn' (omega arith) (λ k hk. s.at k j hk hj);
}

pub columns_high-known : (m v n n' w : ℕ) (a b : ℕ → ℕ → ℤ) → m ≤ 2 * n → m ≤ 2 * n' → 2 * v + 2 < m → SameWithin m w a b →
    SameWithin v w (columns_high a n) (columns_high b n')
unfolding columns_high
columns_high-known m v n n' w a b hn hn' h s = record {
  at = λ i j hi hj. high_of-known m n n' i (λ r. a r j) (λ r. b r j) hn hn' (omega arith) (λ k hk. s.at k j hk hj);
}

pub level-known : (m v n n' w : ℕ) (a b : ℕ → ℕ → ℤ) → m ≤ 2 * n → m ≤ 2 * n' → 2 * v + 2 < m → 2 ≤ w → SameWithin m (2 * w) a b →
    SameQuarters v w (level a n w) (level b n' w)
unfolding level
level-known m v n n' w a b hn hn' h two s =
    let low = rows_low-same m w a b two s in
    let high = rows_high-same m w a b two s in
    record {
      ll = columns_low-known m v n n' w _ _ hn hn' h low;
      hl = columns_low-known m v n n' w _ _ hn hn' h high;
      lh = columns_high-known m v n n' w _ _ hn hn' h low;
      hh = columns_high-known m v n n' w _ _ hn hn' h high;
    }

-- three levels, if the first 8 * t + 29 rows are known
pub pyramid-known : (t r r' c : ℕ) (a b : ℕ → ℕ → ℤ) → 8 * t + 28 < 8 * r → 8 * t + 28 < 8 * r' → 2 ≤ c → SameWithin (8 * t + 29) (8 * c) a b →
    SamePyramid (t + 1) c (pyramid a r c) (pyramid b r' c)
unfolding pyramid pyramid_of
pyramid-known t r r' c a b hr hr' hc s =
    let one = level-known (8 * t + 29) (4 * t + 13) (4 * r) (4 * r') (4 * c) a b (omega arith) (omega arith) (omega arith) (omega arith)
    (SameWithin-part _ _ _ _ _ _ (omega arith) (omega arith) s) in
    let two = level-known (4 * t + 13) (2 * t + 5) (2 * r) (2 * r') (2 * c) _ _ (omega arith) (omega arith) (omega arith) (omega arith)
    (SameWithin-part _ _ _ _ _ _ (omega arith) (omega arith) one.ll) in
    let three = level-known (2 * t + 5) (t + 1) r r' c _ _ (omega arith) (omega arith) (omega arith) hc
    (SameWithin-part _ _ _ _ _ _ (omega arith) (omega arith) two.ll) in
    let first = λ (x y : ℕ → ℕ → ℤ) (h : SameWithin (4 * t + 13) (4 * c) x y). SameWithin-part _ (4 * (t + 1)) _ (4 * c) x y (omega arith) (omega arith) h in
    let second = λ (x y : ℕ → ℕ → ℤ) (h : SameWithin (2 * t + 5) (2 * c) x y). SameWithin-part _ (2 * (t + 1)) _ (2 * c) x y (omega arith) (omega arith) h in
    record {
      hh1 = first _ _ one.hh;
      hl1 = first _ _ one.hl;
      lh1 = first _ _ one.lh;
      hh2 = second _ _ two.hh;
      hl2 = second _ _ two.hl;
      lh2 = second _ _ two.lh;
      hh3 = three.hh;
      hl3 = three.hl;
      lh3 = three.lh;
      ll3 = three.ll;
    }

pub block-known : (a b : ℕ → ℕ → ℤ) (r r' c t s : ℕ) → 8 * t + 28 < 8 * r → 8 * t + 28 < 8 * r' → 2 ≤ c → s < c → SameWithin (8 * t + 29) (8 * c) a b →
    SameBlock (pyramid a r c) (pyramid b r' c) t s
block-known a b r r' c t s hr hr' hc hs same =
    SamePyramid-block _ _ (t + 1) c t s (pyramid-known t r r' c a b hr hr' hc same) (omega arith) hs

-- the first k rows of two images, padded
pub padded-known : (x y : ℕ → ℕ → ℤ) (rows rows' width k w : ℕ) → k ≤ rows → k ≤ rows' → 1 ≤ width → SameWithin k width x y →
    SameWithin k w (padded x rows width) (padded y rows' width)
padded-known x y rows rows' width k w hr hr' hw same = record {
  at = λ i j hi hj.
      let e : min i (rows - 1) ≡ i = omega arith in
      let e' : min i (rows' - 1) ≡ i = omega arith in
      let s = same.at i (min j (width - 1)) hi (omega arith) in
      cc;
}

pub images-known : (x y : ℕ → ℕ → ℤ) (rows rows' width k r r' c t s : ℕ) → k ≤ rows → k ≤ rows' → 1 ≤ width → rows ≤ 8 * r → rows' ≤ 8 * r' → 2 ≤ c →
    s < c → 8 * t + 28 < k → SameWithin k width x y → SameBlock (pyramid (padded x rows width) r c) (pyramid (padded y rows' width) r' c) t s
images-known x y rows rows' width k r r' c t s hk hk' hw hr hr' hc hs settled same =
    block-known _ _ r r' c t s (omega arith) (omega arith) hc hs
    (SameWithin-part _ _ _ _ _ _ (omega arith) (omega arith) (padded-known x y rows rows' width k (8 * c) hk hk' hw same))
