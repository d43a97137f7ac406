-- How the open rows, and rows that are beside each other, are related to a level.
use mathlib.Core.Path.{fun_ext}
use Rattle.std.proofs.Common.{◌≡◌, ℕ, ◌+◌, ◌-◌, ◌*◌, ◌<◌, ◌≤◌, min, ℤ, refl, sym, ap, ◌∙◌, ⊎_elim, subst, arith}
use Rattle.std.proofs.lemmas.Bool.Decides.{nat_tests}
use Rattle.std.proofs.lemmas.Bool.{cases_lt}
use Rattle.wave_defs.specs.Line.{high_of, low_of, prediction}
use Rattle.wave_defs.specs.Level.{level, rows_low, rows_high, columns_low, columns_high}
use Rattle.wave_defs.specs.Within.{IsWithin, AllWithin}
use Rattle.wave_defs.specs.Held.{Agrees}
use Rattle.wave_defs.proofs.Floors.{low_of-within, high_of-within}
use Rattle.wave_defs.proofs.LineLaws.{low_of-same, high_of-same}
use Rattle.wave_defs.specs.Rolling.{open_high, open_low, mirrored, parted, beside}

-- before its last row the mirrored image is the image
pub mirrored-inside : (a : ℕ → ℕ → ℤ) (n i : ℕ) → i < 2 * n → mirrored a n i ≡ a i
mirrored-inside a n i h = ap a (let e : min i (4 * n - 2 - i) ≡ i = omega arith in e)

-- the high and the low rows of a whole image are the open ones of its mirrored image
pub open_high-mirrored : (a : ℕ → ℕ → ℤ) (n j c : ℕ) → 2 ≤ n → j < n → open_high (mirrored a n) j c ≡ columns_high a n j c
unfolding open_high columns_high high_of prediction
open_high-mirrored a n j c two h = grind (arith, nat_tests)

-- a column of the high rows
high_column : (a : ℕ → ℕ → ℤ) (n k c : ℕ) → columns_high a n k c ≡ high_of (λ r. a r c) n k
unfolding columns_high
high_column a n k c = refl

pub open_low-mirrored : (a : ℕ → ℕ → ℤ) (n j c : ℕ) → 2 ≤ n → j < n → open_low (mirrored a n) j c ≡ columns_low a n j c
unfolding open_low columns_low low_of
open_low-mirrored a n j c two h = grind (arith, nat_tests, open_high-mirrored, high_column)

-- ---- the four bands of a level, as the halves of the low and the high rows

pub parted-low : (x : ℕ → ℤ) (m c : ℕ) → c < m → parted x m c ≡ low_of x m c
unfolding parted
parted-low x m c h = grind (arith, nat_tests)

pub parted-high : (x : ℕ → ℤ) (m c d : ℕ) → d ≡ m + c → parted x m d ≡ high_of x m c
unfolding parted
parted-high x m c d h = grind (arith, nat_tests)

beside-low : (a : ℕ → ℕ → ℤ) (m i c : ℕ) → c < m → beside a m i c ≡ rows_low a m i c
unfolding rows_low
beside-low a m i c h = parted-low (a i) m c h

beside-high : (a : ℕ → ℕ → ℤ) (m i c : ℕ) → beside a m i (m + c) ≡ rows_high a m i c
unfolding rows_high
beside-high a m i c = parted-high (a i) m c (m + c) refl

-- a line that agrees with another does so in parts, and the bound of a pass holds
pub parted-each : (m : ℕ) (x : ℕ → ℤ) (P : ℕ → ℤ → Type 0) → ((c : ℕ) → c < m → P c (low_of x m c)) → ((c : ℕ) → c < m → P (m + c) (high_of x m c)) →
    (d : ℕ) → d < 2 * m → P d (parted x m d)
parted-each m x P low high d h =
    ⊎_elim
    (λ (l : d < m). subst (P d) (sym (parted-low x m d l)) (low d l))
    (λ (l : m ≤ d). let e : m + (d - m) ≡ d = omega arith in
    subst (P d) (sym (parted-high x m (d - m) d (sym e))) (subst (λ (k : ℕ). P k (high_of x m (d - m))) e (high (d - m) (omega arith))))
    (cases_lt d m)

pub parted-same : (m : ℕ) (x y : ℕ → ℤ) → 2 ≤ m → Agrees (2 * m) x y → Agrees (2 * m) (parted x m) (parted y m)
parted-same m x y two s = record {
  at = parted-each m x (λ (d : ℕ) (v : ℤ). v ≡ parted y m d)
      (λ c h. low_of-same m c x y two h s ∙ sym (parted-low y m c h))
      (λ c h. high_of-same m c x y two h s ∙ sym (parted-high y m c (m + c) refl));
}

pub parted-within : (k m : ℕ) (x : ℕ → ℤ) → 2 ≤ k → 2 ≤ m → AllWithin (2 * k) (2 * m) x → AllWithin (5 * k) (2 * m) (parted x m)
parted-within k m x hk hm w = record {
  at = parted-each m x (λ (d : ℕ) (v : ℤ). IsWithin (5 * k) v)
      (λ c h. low_of-within k m c x hk hm h w)
      (λ c h. high_of-within k m c x hk hm h w);
}

pub ll-beside : (a : ℕ → ℕ → ℤ) (n m j c : ℕ) → c < m → columns_low (beside a m) n j c ≡ (level a n m).ll j c
unfolding level columns_low
ll-beside a n m j c h = ap (λ (x : ℕ → ℤ). low_of x n j) (fun_ext (λ i. beside-low a m i c h))

pub hl-beside : (a : ℕ → ℕ → ℤ) (n m j c : ℕ) → columns_low (beside a m) n j (m + c) ≡ (level a n m).hl j c
unfolding level columns_low
hl-beside a n m j c = ap (λ (x : ℕ → ℤ). low_of x n j) (fun_ext (λ i. beside-high a m i c))

pub lh-beside : (a : ℕ → ℕ → ℤ) (n m j c : ℕ) → c < m → columns_high (beside a m) n j c ≡ (level a n m).lh j c
unfolding level columns_high
lh-beside a n m j c h = ap (λ (x : ℕ → ℤ). high_of x n j) (fun_ext (λ i. beside-low a m i c h))

pub hh-beside : (a : ℕ → ℕ → ℤ) (n m j c : ℕ) → columns_high (beside a m) n j (m + c) ≡ (level a n m).hh j c
unfolding level columns_high
hh-beside a n m j c = ap (λ (x : ℕ → ℤ). high_of x n j) (fun_ext (λ i. beside-high a m i c))

-- ---- magnitudes
