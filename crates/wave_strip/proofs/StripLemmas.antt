-- What the rings of a strip show of an image.
use Rattle.std.proofs.Common.{◌≡◌, ℕ, ◌+◌, ◌-◌, ◌*◌, ◌<◌, ◌≤◌, ℤ, List, length, sym, subst, arith}
use Rattle.std.proofs.lemmas.Bool.Decides.{nat_tests}
use Rattle.wave_defs.specs.Level.{level}
use Rattle.wave_defs.specs.Held.{Agrees}
use Rattle.wave_defs.specs.Rolling.{open_low, open_high, mirrored, parted, beside}
use Rattle.wave_defs.specs.Rings.{AreNewest}
use Rattle.wave_defs.proofs.RingLaws.{newest_at}
use Rattle.wave_defs.proofs.RollingLaws.{open_low-mirrored, open_high-mirrored, ll-beside, hl-beside, lh-beside, hh-beside, parted-same, mirrored-inside}
use Rattle.wave_strip.specs.Columns.{kept_sample}

-- a row of an image that a level takes
pub Agrees-beside : (x : ℕ → ℕ → ℤ) (n m k h : ℕ) (y : ℕ → ℤ) → h ≡ m → 2 ≤ m → k < 2 * n → Agrees (2 * m) y (x k) →
    Agrees (2 * h) (parted y h) (mirrored (beside x m) n k)
Agrees-beside x n m k h y eh hm hk a =
    let here = subst (λ (z : ℕ → ℤ). Agrees (2 * m) (parted y m) z) (sym (mirrored-inside (beside x m) n k hk)) (parted-same m y (x k) hm a) in
    subst (λ (q : ℕ). Agrees (2 * q) (parted y q) (mirrored (beside x m) n k)) (sym eh) here

-- ---- a sample of the newest rows of a level

newest_sample : (f : ℕ → ℕ → ℤ) (w kept made j i : ℕ) (rows : List (List ℤ)) → AreNewest f w made rows → length rows ≡ kept → j < made → made ≤ j + kept →
    i < w → kept_sample rows kept made j i ≡ f j i
newest_sample f w kept made j i rows s long hj hk hi =
    (newest_at f w made (j + kept - made) j rows s (omega arith) (omega arith)).at i hi

pub shown_ll : (x : ℕ → ℕ → ℤ) (n m w kept made j i : ℕ) (rows : List (List ℤ)) → AreNewest (open_low (mirrored (beside x m) n)) w made rows →
    length rows ≡ kept → 2 ≤ n → w ≡ 2 * m → j < made → made ≤ j + kept → j < n → i < m → kept_sample rows kept made j i ≡ (level x n m).ll j i
shown_ll x n m w kept made j i rows s long two ew hj hk hn hi = grind (arith, nat_tests, newest_sample, open_low-mirrored, ll-beside)

pub shown_hl : (x : ℕ → ℕ → ℤ) (n m h w kept made j i : ℕ) (rows : List (List ℤ)) → AreNewest (open_low (mirrored (beside x m) n)) w made rows →
    length rows ≡ kept → 2 ≤ n → h ≡ m → w ≡ 2 * m → j < made → made ≤ j + kept → j < n → i < m → kept_sample rows kept made j (h + i) ≡ (level x n m).hl j i
shown_hl x n m h w kept made j i rows s long two eh ew hj hk hn hi = grind (arith, nat_tests, newest_sample, open_low-mirrored, hl-beside)

pub shown_lh : (x : ℕ → ℕ → ℤ) (n m w kept made j i : ℕ) (rows : List (List ℤ)) → AreNewest (open_high (mirrored (beside x m) n)) w made rows →
    length rows ≡ kept → 2 ≤ n → w ≡ 2 * m → j < made → made ≤ j + kept → j < n → i < m → kept_sample rows kept made j i ≡ (level x n m).lh j i
shown_lh x n m w kept made j i rows s long two ew hj hk hn hi = grind (arith, nat_tests, newest_sample, open_high-mirrored, lh-beside)

pub shown_hh : (x : ℕ → ℕ → ℤ) (n m h w kept made j i : ℕ) (rows : List (List ℤ)) → AreNewest (open_high (mirrored (beside x m) n)) w made rows →
    length rows ≡ kept → 2 ≤ n → h ≡ m → w ≡ 2 * m → j < made → made ≤ j + kept → j < n → i < m → kept_sample rows kept made j (h + i) ≡ (level x n m).hh j i
shown_hh x n m h w kept made j i rows s long two eh ew hj hk hn hi = grind (arith, nat_tests, newest_sample, open_high-mirrored, hh-beside)
