-- A low row that is passed from a level to the one below.
use Rattle.std.proofs.Common.{◌≡◌, ℕ, ◌*◌, ◌<◌, ◌≤◌, ℤ, pos, List, take, sym, ◌∙◌, subst, arith, get_or-take}
use Rattle.wave_defs.specs.Level.{level}
use Rattle.wave_defs.specs.Within.{AllWithin}
use Rattle.wave_defs.specs.Held.{Agrees, signal}
use Rattle.wave_defs.specs.Rolling.{open_low, mirrored, parted, beside}
use Rattle.wave_defs.proofs.LevelWithin.{IsWithin-more}
use Rattle.wave_defs.proofs.RollingLaws.{open_low-mirrored, ll-beside, parted-same, mirrored-inside}
use Rattle.wave_strip.specs.Kept.{AreSmall}
use Rattle.wave_strip.proofs.KeptLemmas.{RowsWithin-more}

-- low row k of the upper level, of 2 * n pairs of rows of 2 * m samples: its first half is row k of the level below
passed_row_here : (x : ℕ → ℕ → ℤ) (n m h k w : ℕ) (row : List ℤ) → m ≡ 2 * h → 2 ≤ h → 2 ≤ n → k < 2 * n → w ≡ 2 * m →
    Agrees w (signal row) (open_low (mirrored (beside x m) (2 * n)) k) →
    Agrees (2 * h) (parted (signal (take m row)) h) (mirrored (beside (level x (2 * n) m).ll h) n k)
passed_row_here x n m h k w row em hh hn hk ew low =
    let ll = (level x (2 * n) m).ll in
    let line : Agrees (2 * h) (signal (take m row)) (ll k) = record {
      at = λ c hc.
          get_or-take m row c (pos 0) (omega arith)
          ∙ low.at c (omega arith)
          ∙ open_low-mirrored (beside x m) (2 * n) k c (omega arith) hk
          ∙ ll-beside x (2 * n) m k c (omega arith);
    } in
    subst (λ (y : ℕ → ℤ). Agrees (2 * h) (parted (signal (take m row)) h) y) (sym (mirrored-inside (beside ll h) n k hk)) (parted-same h _ _ hh line)

-- the same if the sizes are known by other names
pub passed_row : (x : ℕ → ℕ → ℤ) (p n m h k w m' h' : ℕ) (row : List ℤ) → m ≡ 2 * h → 2 ≤ h → 2 ≤ n → p ≡ 2 * n → k < p → w ≡ 2 * m → m' ≡ m → h' ≡ h →
    Agrees w (signal row) (open_low (mirrored (beside x m) p) k) → Agrees (2 * h') (parted (signal (take m' row)) h') (mirrored (beside (level x p m).ll h) n k)
passed_row x p n m h k w m' h' row em hh hn ep hk ew em' eh' low =
    let here = passed_row_here x n m h k w row em hh hn (omega arith) ew (subst (λ (q : ℕ). Agrees w (signal row) (open_low (mirrored (beside x m) q) k)) ep
    low) in
    let a = subst (λ (q : ℕ). Agrees (2 * h) (parted (signal (take q row)) h) (mirrored (beside (level x (2 * n) m).ll h) n k)) (sym em') here in
    let b = subst (λ (q : ℕ). Agrees (2 * q) (parted (signal (take m' row)) q) (mirrored (beside (level x (2 * n) m).ll h) n k)) (sym eh') a in
    subst (λ (q : ℕ). Agrees (2 * h') (parted (signal (take m' row)) h') (mirrored (beside (level x q m).ll h) n k)) (sym ep) b

pub passed_within : (b c m h w : ℕ) (row : List ℤ) → b ≤ c → m ≡ 2 * h → m ≤ w → AllWithin b w (signal row) → AllWithin c (2 * h) (signal (take m row))
passed_within b c m h w row le em hw s = record {
  at = λ k hk. rw (get_or-take m row k (pos 0) (omega arith)) (IsWithin-more b c _ le (s.at k (omega arith)));
}

pub AreSmall-more : (m k w : ℕ) (es os ls hs : List (List ℤ)) → m ≤ k → AreSmall m w es os ls hs → AreSmall k w es os ls hs
AreSmall-more m k w es os ls hs le s = record {
  evens = RowsWithin-more (2 * m) (2 * k) w es (omega arith) s.evens;
  odds = RowsWithin-more (2 * m) (2 * k) w os (omega arith) s.odds;
  lows = RowsWithin-more (5 * m) (5 * k) w ls (omega arith) s.lows;
  highs = RowsWithin-more (5 * m) (5 * k) w hs (omega arith) s.highs;
}
