-- The samples of the four bands that a sample of a level's inverse depends on.
use Rattle.std.proofs.Common.{◌≡◌, ℕ, ◌+◌, ◌*◌, ◌/◌, ◌<◌, ◌≤◌, ℤ, refl, arith}
use Rattle.wave_defs.specs.Level.{Quarters, joined, rows_merged, columns_merged}
use Rattle.wave_defs.proofs.LineReach.{SameMirror, SameMirror-same, SameLow, SameHigh, merged-reach}

-- the samples of the low band that sample (i, j) depends on are the same
pub record SameNearLow (n m i j : ℕ) (a b : ℕ → ℕ → ℤ) : Type 0 where
  pub at : (k l : ℕ) → k < n → l < m → 2 * k ≤ i + 3 → i ≤ 2 * k + 3 → 2 * l ≤ j + 3 → j ≤ 2 * l + 3 → a k l ≡ b k l

-- the samples of a band that is high in some direction are the same
pub record SameNearHigh (n m i j : ℕ) (a b : ℕ → ℕ → ℤ) : Type 0 where
  pub at : (k l : ℕ) → k < n → l < m → 2 * k ≤ i + 3 → i ≤ 2 * k + 5 → 2 * l ≤ j + 3 → j ≤ 2 * l + 5 → a k l ≡ b k l

pub joined-reach : (n n' m i j : ℕ) (p q : Quarters) → 2 ≤ n → 2 ≤ m → i < 2 * n → j < 2 * m → (i ≡ 2 * (i / 2) + 1 → SameMirror n n' (i / 2)) →
    SameNearLow n m i j p.ll q.ll → SameNearHigh n m i j p.hl q.hl → SameNearHigh n m i j p.lh q.lh → SameNearHigh n m i j p.hh q.hh →
    joined p n m i j ≡ joined q n' m i j
unfolding joined rows_merged columns_merged
joined-reach n n' m i j p q hn hm hi hj mirror ll hl lh hh =
    let low : SameLow m j (columns_merged p.ll p.lh n i) (columns_merged q.ll q.lh n' i) = record {
      at = λ l h a b. merged-reach n n' i (λ r. p.ll r l) (λ r. q.ll r l) (λ r. p.lh r l) (λ r. q.lh r l) hn hi mirror
          (record { at = λ k hk c d. ll.at k l hk h c d a b })
          (record { at = λ k hk c d. lh.at k l hk h c d a (omega arith) });
    } in
    let high : SameHigh m j (columns_merged p.hl p.hh n i) (columns_merged q.hl q.hh n' i) = record {
      at = λ l h a b. merged-reach n n' i (λ r. p.hl r l) (λ r. q.hl r l) (λ r. p.hh r l) (λ r. q.hh r l) hn hi mirror
          (record { at = λ k hk c d. hl.at k l hk h c (omega arith) a b })
          (record { at = λ k hk c d. hh.at k l hk h c d a b });
    } in
    merged-reach m m j _ _ _ _ hm hj (λ e. SameMirror-same m m (j / 2) refl) low high
