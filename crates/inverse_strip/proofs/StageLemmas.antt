-- Rows that wait for a level, and the row of its low band.
use Rattle.std.proofs.Common.{◌≡◌, ℕ, ◌+◌, ◌-◌, ◌*◌, ◌^◌, ◌<◌, ◌≤◌, ℤ, List, [], ◌∷◌, ◌++◌, length, get_or, drop, ap, sym, ◌∙◌, subst, arith}
use Rattle.wave_defs.specs.Level.{Quarters, joined}
use Rattle.wave_defs.specs.Within.{AllWithin}
use Rattle.wave_defs.specs.Held.{Agrees, signal}
use Rattle.wave_defs.specs.Rings.{AreRows, RowsWithin, AreNewest}
use Rattle.wave_defs.proofs.LevelWithin.{IsWithin-more}
use Rattle.wave_defs.proofs.RingLaws.{AreRows-turn, RowsWithin-turn, AreNewest-turn, newest_at}

-- row number n of those that wait, of which `came` arrived
pub waiting-at : (f : ℕ → ℕ → ℤ) (w kept came n : ℕ) (rows : List (List ℤ)) (x : List ℤ) → AreRows kept w rows → x ≡ get_or rows (n + kept - came) [] →
    n < came → came ≤ n + kept → AreNewest f w came rows → Agrees w (signal x) (f n)
waiting-at f w kept came n rows x s e less fits newest =
    let count = s.count_is in
    subst (λ (y : List ℤ). Agrees w (signal y) (f n)) (sym e) (newest_at f w came (n + kept - came) n rows newest (omega arith) (omega arith))

pub waiting-small : (b m w kept t : ℕ) (rows : List (List ℤ)) (x : List ℤ) → AreRows kept w rows → x ≡ get_or rows t [] → t < kept → b ≤ m →
    RowsWithin b w rows → AllWithin m w (signal x)
waiting-small b m w kept t rows x s e less le within =
    let count = s.count_is in
    let row = within.at t (omega arith) in
    subst (λ (y : List ℤ). AllWithin m w (signal y)) (sym e) (record { at = λ k h. IsWithin-more b m _ le (row.at k h) })

-- the oldest row of a ring
pub oldest-wide : (kept w v : ℕ) (rows : List (List ℤ)) → 1 ≤ kept → AreRows kept w rows → w ≡ v → length (get_or rows 0 []) ≡ v
oldest-wide kept w v rows some s e = s.wide 0 (omega arith) ∙ e

pub oldest-small : (kept w v : ℕ) (rows : List (List ℤ)) → 1 ≤ kept → AreRows kept w rows → w ≡ v → RowsWithin (2 ^ 27) w rows →
    AllWithin (2 ^ 27) v (signal (get_or rows 0 []))
oldest-small kept w v rows some s e small =
    let count = s.count_is in
    subst (λ (n : ℕ). AllWithin (2 ^ 27) n (signal (get_or rows 0 []))) e (small.at 0 (omega arith))

-- the row of the low band
pub low-at : (q b : Quarters) (n w v i k : ℕ) (x y : List ℤ) → w ≡ 2 * v → i ≡ k → q.ll ≡ joined b n v → y ≡ x →
    Agrees (2 * v) (signal x) (joined b n v i) → Agrees w (signal y) (q.ll k)
low-at q b n w v i k x y ew ei e ey made = record {
  at = λ j h. ap (λ (z : List ℤ). signal z j) ey ∙ made.at j (omega arith) ∙ ap (λ (t : ℕ). joined b n v t j) ei ∙ sym (ap (λ (a : ℕ → ℕ → ℤ). a k j) e);
}

module _ (kept w : ℕ) (rows : List (List ℤ)) (row : List ℤ) (some : 1 ≤ kept) (s : AreRows kept w rows) where
  pub came-valid : length row ≡ w → AreRows kept w (drop 1 rows ++ row ∷ [])
  came-valid lr = AreRows-turn kept w rows row some s lr

  pub came-small : (b : ℕ) → RowsWithin b w rows → AllWithin b w (signal row) → RowsWithin b w (drop 1 rows ++ row ∷ [])
  came-small b within small =
      let count = s.count_is in
      RowsWithin-turn b w rows row (omega arith) within small

  pub came-newest : (f : ℕ → ℕ → ℤ) (n : ℕ) → AreNewest f w n rows → Agrees w (signal row) (f n) → AreNewest f w (n + 1) (drop 1 rows ++ row ∷ [])
  came-newest f n newest here =
      let count = s.count_is in
      AreNewest-turn f w n rows row (omega arith) newest here
