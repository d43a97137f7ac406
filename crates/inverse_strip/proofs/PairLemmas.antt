-- Rings that are as after pairs of rows within a bound, and one more pair.
use mathlib.Core.Logic.{∥∥₁_elim, ∥∥₁_map}
use Rattle.std.proofs.Common.{◌≡◌, ℕ, Bool, true, false, ◌+◌, ◌-◌, ◌*◌, ◌^◌, ◌<◌, ◌≤◌, ◌&&◌, ℤ, pos, List, [], length, get_or, if◌then◌else◌, nat_lt, refl}
use Rattle.std.proofs.Common.{sym, ◌∙◌, ⊎_elim, arith}
use Rattle.std.specs.Bool.{OnTrue}
use Rattle.std.proofs.Math.Dec.{T_prop}
use Rattle.std.proofs.lemmas.Bool.{cases_lt}
use Rattle.std.proofs.lemmas.Bool.Decides.{nat_tests}
use Rattle.wave_defs.specs.Lifted.{columns_even}
use Rattle.wave_defs.specs.Within.{AllWithin, EachWithin}
use Rattle.wave_defs.specs.Held.{Agrees, signal}
use Rattle.wave_defs.specs.Rings.{AreNewest}
use Rattle.wave_defs.proofs.LevelWithin.{IsWithin-more, EachWithin-more}
use Rattle.wave_defs.proofs.RingLaws.{newest_at}
use Rattle.lift_rows.proofs.Fits.{AllWithin-more}
use Rattle.inverse_strip.specs.Kept.{HoldPairs, PairsWithin, ArePairsWithin, column_bound}
use Rattle.inverse_strip.proofs.Bounds.{columns_even-bound, columns_merged-bound}
use Rattle.wave_defs.specs.Level.{columns_merged}
use Rattle.wave_defs.proofs.Equations.{columns_even-is, even_of-is}

-- the rows of f before row n, and x as row n
unfoldable pub continued : (ℕ → ℕ → ℤ) → ℕ → (ℕ → ℤ) → ℕ → ℕ → ℤ
continued f n x i j = if nat_lt i n then f i j else x j

continued-before : (f : ℕ → ℕ → ℤ) (n i j : ℕ) (x : ℕ → ℤ) → i < n → f i j ≡ continued f n x i j
unfolding continued
continued-before f n i j x h = grind (arith, nat_tests)

pub continued-here : (f : ℕ → ℕ → ℤ) (w n : ℕ) (x : ℕ → ℤ) → Agrees w x (continued f n x n)
unfolding continued
continued-here f w n x = record { at = λ j h. grind (arith, nat_tests) }

AreNewest-same : (f g : ℕ → ℕ → ℤ) (w n : ℕ) (rows : List (List ℤ)) → ((i j : ℕ) → i < n → f i j ≡ g i j) → AreNewest f w n rows → AreNewest g w n rows
AreNewest-same f g w n rows same s = record {
  at = λ t h le. record { at = λ j hj. (s.at t h le).at j hj ∙ same (n + t - length rows) j (omega arith) };
}

even-same : (c d : ℕ → ℕ → ℤ) (n i j : ℕ) (x y : ℕ → ℤ) → i < n → columns_even c d i j ≡ columns_even (continued c n x) (continued d n y) i j
even-same c d n i j x y h =
    let a = continued-before c n i j x h in
    let b = continued-before d n (i - 1) j y (omega arith) in
    let e = continued-before d n i j y h in
    grind (arith, columns_even-is, even_of-is)

HoldPairs-continued : (c d : ℕ → ℕ → ℤ) (w n : ℕ) (es hs : List (List ℤ)) (x y : ℕ → ℤ) → HoldPairs c d w n es hs →
    HoldPairs (continued c n x) (continued d n y) w n es hs
HoldPairs-continued c d w n es hs x y hold = record {
  evens = AreNewest-same _ _ w n es (λ i j h. even-same c d n i j x y h) hold.evens;
  highs = AreNewest-same _ _ w n hs (λ i j h. continued-before d n i j y h) hold.highs;
}

EachWithin-continued : (m w n : ℕ) (f : ℕ → ℕ → ℤ) (x : ℕ → ℤ) → EachWithin m n w f → AllWithin m w x → EachWithin m (n + 1) w (continued f n x)
unfolding continued
EachWithin-continued m w n f x wf wx = record {
  at = λ i j hi hj.
      ⊎_elim
      (λ (h : i < n). rw (sym (continued-before f n i j x h)) (wf.at i j h hj))
      (λ (h : n ≤ i). let e : continued f n x i j ≡ x j = grind (arith, nat_tests) in rw e (wx.at j hj))
      (cases_lt i n);
}

-- one more pair: the rings after it hold it for all low and high rows that they held before it
pub ArePairsWithin-turn : (m w n : ℕ) (es hs es' hs' : List (List ℤ)) (x y : ℕ → ℤ) →
    ((c d : ℕ → ℕ → ℤ) → HoldPairs c d w n es hs → Agrees w x (c n) → Agrees w y (d n) → HoldPairs c d w (n + 1) es' hs') → ArePairsWithin m w n es hs →
    AllWithin m w x → AllWithin (2 ^ 27) w y → ArePairsWithin m w (n + 1) es' hs'
ArePairsWithin-turn m w n es hs es' hs' x y turned some wx wy = ∥∥₁_map some (λ (pairs : PairsWithin m w n es hs). record {
  low = continued pairs.low n x;
  high = continued pairs.high n y;
  hold = turned (continued pairs.low n x) (continued pairs.high n y) (HoldPairs-continued pairs.low pairs.high w n es hs x y pairs.hold)
      (continued-here pairs.low w n x) (continued-here pairs.high w n y);
  low_within = EachWithin-continued m w n pairs.low x pairs.low_within wx;
  high_within = EachWithin-continued (2 ^ 27) w n pairs.high y pairs.high_within wy;
})

pub ArePairsWithin-more : (b m w n : ℕ) (es hs : List (List ℤ)) → b ≤ m → ArePairsWithin b w n es hs → ArePairsWithin m w n es hs
ArePairsWithin-more b m w n es hs le some = ∥∥₁_map some (λ (pairs : PairsWithin b w n es hs). record {
  low = pairs.low;
  high = pairs.high;
  hold = pairs.hold;
  low_within = EachWithin-more b m n n w w _ le (omega arith) (omega arith) pairs.low_within;
  high_within = pairs.high_within;
})

AllWithin-prop : (m w : ℕ) (x : ℕ → ℤ) → IsProp (AllWithin m w x)
AllWithin-prop m w x = Prim.hlevel T_prop

-- a flag and what follows from it
pub both_true : (a b : Bool) → (a && b) ≡ true → (a ≡ true) × (b ≡ true)
both_true a b e = grind (arith, nat_tests)

pub on_true : {P : Type 0} (b : Bool) → (b ≡ true → P) → OnTrue b P
on_true true f = f refl
on_true false f = tt

-- the even rows of the rings
pub evens-within : (m w n t k : ℕ) (es hs : List (List ℤ)) → length es ≡ 4 → t < 4 → k < n → n + t ≡ k + 4 → ArePairsWithin m w n es hs →
    AllWithin (m + (2 ^ 26 + 1)) w (signal (get_or es t []))
evens-within m w n t k es hs four ht hk e some = ∥∥₁_elim some (AllWithin-prop (m + (2 ^ 26 + 1)) w (signal (get_or es t [])))
    (λ (pairs : PairsWithin m w n es hs).
    let here = newest_at (columns_even pairs.low pairs.high) w n t k es pairs.hold.evens (omega arith) (omega arith) in
    let bound = columns_even-bound m (2 ^ 27) n w k pairs.low pairs.high hk pairs.low_within pairs.high_within in
    record { at = λ j h. rw (here.at j h) (IsWithin-more _ (m + (2 ^ 26 + 1)) _ (omega arith) (bound.at j h)) })

-- one of them, by its number and within a wider bound
pub even-fits : (b m w v n t k : ℕ) (es hs : List (List ℤ)) (x : List ℤ) → v ≡ w → x ≡ get_or es t [] → length es ≡ 4 → t < 4 → k < n → n + t ≡ k + 4 →
    m + (2 ^ 26 + 1) ≤ b → ArePairsWithin m w n es hs → AllWithin b v (signal x)
even-fits b m w v n t k es hs x ev ex four ht hk e le some =
    let row = evens-within m w n t k es hs four ht hk e some in
    rw (ev, ex) (AllWithin-more _ b w _ le row)

-- a row of the columns
pub row-within : (m w n i : ℕ) (es hs : List (List ℤ)) (x : ℕ → ℤ) → 3 ≤ n → i < 2 * n →
    ((c d : ℕ → ℕ → ℤ) → HoldPairs c d w n es hs → Agrees w x (columns_merged c d n i)) → ArePairsWithin m w n es hs → AllWithin (column_bound m) w x
row-within m w n i es hs x long inside made some = ∥∥₁_elim some (AllWithin-prop (column_bound m) w x) (λ (pairs : PairsWithin m w n es hs).
    let row = made pairs.low pairs.high pairs.hold in
    let bound = columns_merged-bound m (2 ^ 27) n w i pairs.low pairs.high long inside pairs.low_within pairs.high_within in
    record { at = λ j h. rw (row.at j h) (IsWithin-more _ (column_bound m) _ (omega arith) (bound.at j h)) })

-- no pair is within each bound
HoldPairs-none : (w : ℕ) (c d : ℕ → ℕ → ℤ) (es hs : List (List ℤ)) → HoldPairs c d w 0 es hs
HoldPairs-none w c d es hs = record {
  evens = record { at = λ t h le. absurd (omega arith) };
  highs = record { at = λ t h le. absurd (omega arith) };
}

pub ArePairsWithin-none : (m w : ℕ) (es hs : List (List ℤ)) → ArePairsWithin m w 0 es hs
ArePairsWithin-none m w es hs = ∣ (record {
  low = λ i j. pos 0;
  high = λ i j. pos 0;
  hold = HoldPairs-none w _ _ es hs;
  low_within = record { at = λ i j hi hj. absurd (omega arith) };
  high_within = record { at = λ i j hi hj. absurd (omega arith) };
}) ∣₁
