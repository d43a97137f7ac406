-- Bounds on the samples after a pass, and after a level.
use Rattle.std.proofs.Common.{ℕ, ◌*◌, ◌/◌, ◌%◌, ◌≤◌, ℤ, true, false, if◌then◌else◌, ◌==◌, arith}
use Rattle.std.proofs.lemmas.Int.{ints}
use Rattle.wave_defs.specs.Line.{even_of, odd_of, high_of, low_of, merged}
use Rattle.wave_defs.specs.Level.{Quarters, level, joined, rows_low, rows_high, columns_low, columns_high, rows_merged, columns_merged}
use Rattle.wave_defs.specs.Within.{IsWithin, AllWithin, EachWithin, QuartersWithin}
use Rattle.wave_defs.specs.Held.{SameWithin}
use Rattle.wave_defs.proofs.Floors.{high_of-within, low_of-within, even_of-half_more, odd_of-thrice}

pub IsWithin-more : (b c : ℕ) (z : ℤ) → b ≤ c → IsWithin b z → IsWithin c z
IsWithin-more b c z le w = record { above = omega (arith, ints); below = omega (arith, ints) }

-- a wider bound on a part of the image
pub EachWithin-more : (b c r s v w : ℕ) (a : ℕ → ℕ → ℤ) → b ≤ c → s ≤ r → w ≤ v → EachWithin b r v a → EachWithin c s w a
EachWithin-more b c r s v w a le hr hv within = record {
  at = λ i j hi hj. IsWithin-more b c _ le (within.at i j (omega arith) (omega arith));
}

-- a copy of the image
pub EachWithin-same : (b r w : ℕ) (x a : ℕ → ℕ → ℤ) → SameWithin r w x a → EachWithin b r w a → EachWithin b r w x
EachWithin-same b r w x a same within = record {
  at = λ i j hi hj. rw (same.at i j hi hj) (within.at i j hi hj);
}

-- ---- forward: a pass multiplies a bound by at most 5 / 2

pub low_of-all_within : (m n : ℕ) (x : ℕ → ℤ) → 2 ≤ m → 2 ≤ n → AllWithin (2 * m) (2 * n) x → AllWithin (5 * m) n (low_of x n)
low_of-all_within m n x two long w = record { at = λ j h. low_of-within m n j x two long h w }

pub high_of-all_within : (m n : ℕ) (x : ℕ → ℤ) → 2 ≤ m → 2 ≤ n → AllWithin (2 * m) (2 * n) x → AllWithin (5 * m) n (high_of x n)
high_of-all_within m n x two long w = record { at = λ j h. high_of-within m n j x two long h w }

pub rows_low-within : (m n r : ℕ) (a : ℕ → ℕ → ℤ) → 2 ≤ m → 2 ≤ n → EachWithin (2 * m) r (2 * n) a → EachWithin (5 * m) r n (rows_low a n)
unfolding rows_low
rows_low-within m n r a two long b = record {
  at = λ i j hi hj. low_of-within m n j (a i) two long hj (record { at = λ k h. b.at i k hi h });
}

pub rows_high-within : (m n r : ℕ) (a : ℕ → ℕ → ℤ) → 2 ≤ m → 2 ≤ n → EachWithin (2 * m) r (2 * n) a → EachWithin (5 * m) r n (rows_high a n)
unfolding rows_high
rows_high-within m n r a two long b = record {
  at = λ i j hi hj. high_of-within m n j (a i) two long hj (record { at = λ k h. b.at i k hi h });
}

pub columns_low-within : (m n w : ℕ) (a : ℕ → ℕ → ℤ) → 2 ≤ m → 2 ≤ n → EachWithin (2 * m) (2 * n) w a → EachWithin (5 * m) n w (columns_low a n)
unfolding columns_low
columns_low-within m n w a two long b = record {
  at = λ i j hi hj. low_of-within m n i (λ r. a r j) two long hi (record { at = λ k h. b.at k j h hj });
}

pub columns_high-within : (m n w : ℕ) (a : ℕ → ℕ → ℤ) → 2 ≤ m → 2 ≤ n → EachWithin (2 * m) (2 * n) w a → EachWithin (5 * m) n w (columns_high a n)
unfolding columns_high
columns_high-within m n w a two long b = record {
  at = λ i j hi hj. high_of-within m n i (λ r. a r j) two long hi (record { at = λ k h. b.at k j h hj });
}

pub level-within : (k n m : ℕ) (a : ℕ → ℕ → ℤ) → 1 ≤ k → 2 ≤ n → 2 ≤ m → EachWithin (4 * k) (2 * n) (2 * m) a → QuartersWithin (25 * k) n m (level a n m)
unfolding level
level-within k n m a one hn hm b =
    let start = EachWithin-more (4 * k) (2 * (2 * k)) _ (2 * n) _ (2 * m) a (omega arith) (omega arith) (omega arith) b in
    let low = EachWithin-more _ (2 * (5 * k)) _ (2 * n) _ m _ (omega arith) (omega arith) (omega arith)
    (rows_low-within (2 * k) m (2 * n) a (omega arith) hm start) in
    let high = EachWithin-more _ (2 * (5 * k)) _ (2 * n) _ m _ (omega arith) (omega arith) (omega arith)
    (rows_high-within (2 * k) m (2 * n) a (omega arith) hm start) in
    record {
      ll = EachWithin-more _ (25 * k) _ n _ m _ (omega arith) (omega arith) (omega arith) (columns_low-within (5 * k) n m _ (omega arith) hn low);
      hl = EachWithin-more _ (25 * k) _ n _ m _ (omega arith) (omega arith) (omega arith) (columns_low-within (5 * k) n m _ (omega arith) hn high);
      lh = EachWithin-more _ (25 * k) _ n _ m _ (omega arith) (omega arith) (omega arith) (columns_high-within (5 * k) n m _ (omega arith) hn low);
      hh = EachWithin-more _ (25 * k) _ n _ m _ (omega arith) (omega arith) (omega arith) (columns_high-within (5 * k) n m _ (omega arith) hn high);
    }

-- ---- the inverse: a pass multiplies a bound by at most 3

pub merged-within : (m n : ℕ) (c d : ℕ → ℤ) → 9 ≤ m → 2 ≤ n → AllWithin m n c → AllWithin m n d → AllWithin (3 * m) (2 * n) (merged c d n)
unfolding merged
merged-within m n c d nine long wc wd = record {
  at = λ i h.
      let even = IsWithin-more _ (3 * m) _ (omega arith) (even_of-half_more m n (i / 2) c d (omega arith) (omega arith) wc wd) in
      let odd = odd_of-thrice m n (i / 2) c d nine long (omega arith) wc wd in
      elim (i % 2 == 0) as (λ v. IsWithin (3 * m) (if v then even_of c d (i / 2) else odd_of c d n (i / 2))) [ true ↦ even | false ↦ odd ];
}

pub rows_merged-within : (m r n : ℕ) (c d : ℕ → ℕ → ℤ) → 9 ≤ m → 2 ≤ n → EachWithin m r n c → EachWithin m r n d →
    EachWithin (3 * m) r (2 * n) (rows_merged c d n)
unfolding rows_merged
rows_merged-within m r n c d nine long wc wd = record {
  at = λ i j hi hj.
      let w = merged-within m n (c i) (d i) nine long (record { at = λ k h. wc.at i k hi h }) (record { at = λ k h. wd.at i k hi h }) in
      w.at j hj;
}

pub columns_merged-within : (m n w : ℕ) (c d : ℕ → ℕ → ℤ) → 9 ≤ m → 2 ≤ n → EachWithin m n w c → EachWithin m n w d →
    EachWithin (3 * m) (2 * n) w (columns_merged c d n)
unfolding columns_merged
columns_merged-within m n w c d nine long wc wd = record {
  at = λ i j hi hj.
      let all = merged-within m n (λ r. c r j) (λ r. d r j) nine long (record { at = λ k h. wc.at k j h hj }) (record { at = λ k h. wd.at k j h hj }) in
      all.at i hi;
}

pub joined-within : (m n w : ℕ) (q : Quarters) → 9 ≤ m → 2 ≤ n → 2 ≤ w → QuartersWithin m n w q → EachWithin (9 * m) (2 * n) (2 * w) (joined q n w)
unfolding joined
joined-within m n w q nine hn hw b =
    let low = columns_merged-within m n w q.ll q.lh nine hn b.ll b.lh in
    let high = columns_merged-within m n w q.hl q.hh nine hn b.hl b.hh in
    EachWithin-more _ (9 * m) _ (2 * n) _ (2 * w) _ (omega arith) (omega arith) (omega arith)
    (rows_merged-within (3 * m) (2 * n) w _ _ (omega arith) hw low high)
