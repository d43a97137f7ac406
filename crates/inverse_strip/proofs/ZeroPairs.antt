-- Rings in which all numbers are 0: they stay as they are after more rows of zeros, and the rows that they give are 0.
use Rattle.std.proofs.Common.{◌≡◌, ℕ, ◌+◌, ◌-◌, ◌*◌, ◌/◌, ◌%◌, ◌==◌, ◌^◌, ◌<◌, ◌≤◌, ◌≢◌, ℤ, pos, List, length, if◌then◌else◌, true, false}
use Rattle.std.proofs.Common.{refl, sym, ap, subst, ◌∙◌, ⊎_elim, arith}
use Rattle.std.proofs.lemmas.Int.{ints}
use Rattle.std.proofs.lemmas.Bool.{cases_lt, cases_eq}
use Rattle.wave_defs.specs.Line.{merged, even_before, even_within}
use Rattle.wave_defs.specs.Lifted.{plus_predicted, plus_correction, columns_even}
use Rattle.wave_defs.specs.Level.{Quarters, joined, columns_merged}
use Rattle.wave_defs.specs.Within.{AllWithin}
use Rattle.wave_defs.specs.Held.{Agrees}
use Rattle.wave_defs.specs.Rings.{AreNewest}
use Rattle.wave_defs.proofs.LiftLaws.{Agrees-columns_even, Agrees-columns_odd}
use Rattle.wave_defs.proofs.RingLaws.{newest_at}
use Rattle.wave_defs.proofs.Equations.{plus_predicted-is, plus_correction-is, predicted-is, correction-is, prediction-is, even_of-is, odd_of-is, merged-is}
use Rattle.inverse_strip.specs.Kept.{AreRings, HoldPairs, HasRow, ArePairsWithin}
use Rattle.inverse_strip.specs.Zeros.{zeros, AreZeroRows}
use Rattle.inverse_strip.proofs.LevelLemmas.{joined-row, joined-height}
use Rattle.inverse_strip.proofs.PairLemmas.{ArePairsWithin-turn}
use Rattle.inverse_strip.proofs.RingLemmas.{columns_merged-even, columns_merged-odd}

pub zeros-within : (m w : ℕ) → AllWithin m w zeros
zeros-within m w = record { at = λ k h. record { above = omega (arith, ints); below = omega (arith, ints) } }

-- ---- rings

-- row i of the sequence is 0, if the ring holds it
pub newest-zero : (f : ℕ → ℕ → ℤ) (w n t i : ℕ) (rows : List (List ℤ)) → AreZeroRows rows → AreNewest f w n rows → t < length rows →
    n + t ≡ i + length rows → Agrees w zeros (f i)
newest-zero f w n t i rows zero newest h e =
    let row = newest_at f w n t i rows newest h e in
    record { at = λ j hj. sym (zero.at t j) ∙ row.at j hj }

-- k more rows of zeros
pub AreNewest-zeros : (f : ℕ → ℕ → ℤ) (w n k : ℕ) (rows : List (List ℤ)) → AreZeroRows rows → AreNewest f w n rows →
    ((y : ℕ) → y < k → Agrees w zeros (f (n + y))) → AreNewest f w (n + k) rows
AreNewest-zeros f w n k rows zero newest more = record {
  at = λ t h le. ⊎_elim
      (λ (l : t + k < length rows).
      let here = newest-zero f w n (t + k) (n + k + t - length rows) rows zero newest l (omega arith) in
      record { at = λ j hj. zero.at t j ∙ here.at j hj })
      (λ (l : length rows ≤ t + k).
      let y = t + k - length rows in
      let same : n + y ≡ n + k + t - length rows = omega arith in
      let here = more y (omega arith) in
      record { at = λ j hj. zero.at t j ∙ here.at j hj ∙ ap (λ (i : ℕ). f i j) same })
      (cases_lt (t + k) (length rows));
}

-- ---- pairs

even-lifted : (w : ℕ) → Agrees w zeros (plus_correction zeros zeros zeros)
even-lifted w = record { at = λ j h. rw (plus_correction-is, correction-is) refl }

odd-lifted : (w : ℕ) → Agrees w zeros (plus_predicted zeros zeros zeros zeros zeros)
odd-lifted w = record { at = λ j h. rw (plus_predicted-is, predicted-is) refl }

-- the high row before the next one, or that one if none was taken
high-before : (d : ℕ → ℕ → ℤ) (w n : ℕ) (highs : List (List ℤ)) → length highs ≡ 3 → AreZeroRows highs → AreNewest d w n highs → Agrees w zeros (d n) →
    Agrees w zeros (d (n - 1))
high-before d w n highs three zero newest here =
    ⊎_elim
    (λ (none : n < 1). let e : n ≡ n - 1 = omega arith in record { at = λ j h. here.at j h ∙ ap (λ (i : ℕ). d i j) e })
    (λ (some : 1 ≤ n). newest-zero d w n 2 (n - 1) highs zero newest (omega arith) (omega arith))
    (cases_lt n 1)

module _ (c d : ℕ → ℕ → ℤ) (w n : ℕ) (evens highs : List (List ℤ)) (s : AreRings w evens highs) (zero_evens : AreZeroRows evens)
    (zero_highs : AreZeroRows highs)
    (hold : HoldPairs c d w n evens highs) where
  pub HoldPairs-zero : Agrees w zeros (c n) → Agrees w zeros (d n) → HoldPairs c d w (n + 1) evens highs
  HoldPairs-zero low high =
      let three = s.highs.count_is in
      let before = high-before d w n highs three zero_highs hold.highs high in
      let even = Agrees-columns_even c d w w n (n - 1) zeros zeros zeros zeros refl refl (even-lifted w) low before high in
      let here = λ (f : ℕ → ℕ → ℤ) (a : Agrees w zeros (f n)) (y : ℕ) (l : y < 1).
      let e : n ≡ n + y = omega arith in
      subst (λ (i : ℕ). Agrees w zeros (f i)) e a in
      record {
        evens = AreNewest-zeros (columns_even c d) w n 1 evens zero_evens hold.evens (here (columns_even c d) even);
        highs = AreNewest-zeros d w n 1 highs zero_highs hold.highs (here d high);
      }

  -- row i of the columns
  pub columns_merged-zero : (i : ℕ) → 3 ≤ n → i < 2 * n → n ≤ i / 2 + 3 → Agrees w zeros (columns_merged c d n i)
  columns_merged-zero i three inside kept =
      let four = s.evens.count_is in
      let count = s.highs.count_is in
      let k = i / 2 in
      let even = λ (t m : ℕ) (h : t < 4) (e : n + t ≡ m + 4). newest-zero (columns_even c d) w n t m evens zero_evens hold.evens (omega arith) (omega arith) in
      ⊎_elim
      (λ (e : i % 2 ≡ 0). columns_merged-even c d n i w zeros (omega arith) (even (k + 4 - n) k (omega arith) (omega arith)))
      (λ (o : i % 2 ≢ 0). columns_merged-odd c d n i w zeros (omega arith)
      (Agrees-columns_odd (columns_even c d) d w w n k (even_before k) (even_within n (k + 1)) (even_within n (k + 2)) zeros zeros zeros zeros zeros zeros refl
      refl refl refl (odd-lifted w)
      (newest-zero d w n (k + 3 - n) k highs zero_highs hold.highs (omega arith) (omega arith))
      (even (even_before k + 4 - n) (even_before k) (omega arith) (omega arith))
      (even (k + 4 - n) k (omega arith) (omega arith))
      (even (even_within n (k + 1) + 4 - n) (even_within n (k + 1)) (omega arith) (omega arith))
      (even (even_within n (k + 2) + 4 - n) (even_within n (k + 2)) (omega arith) (omega arith))))
      (cases_eq (i % 2) 0)

-- one more pair within each bound
pub ArePairsWithin-zero : (m w n : ℕ) (evens highs : List (List ℤ)) → AreRings w evens highs → AreZeroRows evens → AreZeroRows highs →
    ArePairsWithin m w n evens highs → ArePairsWithin m w (n + 1) evens highs
ArePairsWithin-zero m w n evens highs s zero_evens zero_highs some = ArePairsWithin-turn m w n evens highs evens highs zeros zeros
    (λ c d hold low high. HoldPairs-zero c d w n evens highs s zero_evens zero_highs hold low high) some (zeros-within m w) (zeros-within (2 ^ 27) w)

-- ---- rows of a level

zeros-merged : (w : ℕ) → Agrees (2 * w) zeros (merged zeros zeros w)
zeros-merged w = record {
  at = λ i h. rw (merged-is, even_of-is, odd_of-is, prediction-is) (simp (even_of-is, correction-is, predicted-is) (
      elim (i % 2 == 0) as (λ v. pos 0 ≡ (if v then pos 0 else pos 0)) [ true ↦ refl | false ↦ refl ]));
}

pub joined-zero : (q : Quarters) (n n' h w i : ℕ) → 2 ≤ w → HasRow n i h → n ≤ n' → (n ≡ h → n' ≡ h) → Agrees w zeros (columns_merged q.ll q.lh n i) →
    Agrees w zeros (columns_merged q.hl q.hh n i) → Agrees (2 * w) zeros (joined q n' w i)
joined-zero q n n' h w i two row more end left right =
    joined-height q n n' h w i zeros two row more end (joined-row q n w i zeros zeros zeros two left right (zeros-merged w))
