-- The rings of a level's columns that take a pair, and the row that they give.
use Rattle.std.proofs.Common.{◌≡◌, ℕ, ◌+◌, ◌*◌, ◌/◌, ℤ, List, [], ◌∷◌, ◌++◌, length, drop, ap, ◌∙◌, sym, subst, arith}
use Rattle.wave_defs.specs.Lifted.{columns_even, columns_odd}
use Rattle.wave_defs.specs.Level.{columns_merged}
use Rattle.wave_defs.specs.Held.{Agrees, signal}
use Rattle.wave_defs.specs.Rings.{AreNewest}
use Rattle.wave_defs.proofs.LineLaws.{even_of-merged, odd_of-merged}
use Rattle.wave_defs.proofs.RingLaws.{AreRows-turn, AreNewest-turn}
use Rattle.wave_defs.proofs.Equations.{columns_even-is, columns_odd-is, columns_merged-is, odd_of-is, prediction-is}
use Rattle.inverse_strip.specs.Kept.{AreRings, HoldPairs}

module _ (w : ℕ) (evens highs : List (List ℤ)) (row high : List ℤ) (s : AreRings w evens highs) (lr : length row ≡ w) (lh : length high ≡ w) where
  pub AreRings-turn : AreRings w (drop 1 evens ++ row ∷ []) (drop 1 highs ++ high ∷ [])
  AreRings-turn = record {
    evens = AreRows-turn 4 w evens row (omega arith) s.evens lr;
    highs = AreRows-turn 3 w highs high (omega arith) s.highs lh;
  }

  pub HoldPairs-turn : (c d : ℕ → ℕ → ℤ) (n : ℕ) → HoldPairs c d w n evens highs → Agrees w (signal row) (columns_even c d n) →
      Agrees w (signal high) (d n) → HoldPairs c d w (n + 1) (drop 1 evens ++ row ∷ []) (drop 1 highs ++ high ∷ [])
  HoldPairs-turn c d n hold even odd =
      let four = s.evens.count_is in
      let three = s.highs.count_is in
      record {
        evens = AreNewest-turn (columns_even c d) w n evens row (omega arith) hold.evens even;
        highs = AreNewest-turn d w n highs high (omega arith) hold.highs odd;
      }

-- the rings after a push, whose even row was made in place of the low one
pub HoldPairs-pushed : (w v n : ℕ) (es hs es' hs' : List (List ℤ)) (low start out made high : List ℤ) → AreRings w es hs → v ≡ w → length out ≡ w →
    length high ≡ w → start ≡ low → made ≡ out → es' ≡ drop 1 es ++ made ∷ [] → hs' ≡ drop 1 hs ++ high ∷ []
    → ((c d : ℕ → ℕ → ℤ) → AreNewest d v n hs → Agrees v (signal start) (c n) → Agrees v (signal high) (d n) → Agrees v (signal out) (columns_even c d n))
    → (c d : ℕ → ℕ → ℤ) → HoldPairs c d w n es hs → Agrees w (signal low) (c n) → Agrees w (signal high) (d n) → HoldPairs c d w (n + 1) es' hs'
HoldPairs-pushed w v n es hs es' hs' low start out made high s ev lo lh is em ee eh even c d hold here_low here_high =
    let here = λ (P : ℕ → Type 0) (h : P w). subst P (sym ev) h in
    let row =
    even c d (here (λ (u : ℕ). AreNewest d u n hs) hold.highs)
    (here (λ (u : ℕ). Agrees u (signal start) (c n)) (rw is here_low))
    (here (λ (u : ℕ). Agrees u (signal high) (d n)) here_high) in
    rw (ee, eh, em) (HoldPairs-turn w es hs out high s lo lh c d n hold (subst (λ (u : ℕ). Agrees u (signal out) (columns_even c d n)) ev row) here_high)

-- the even and the odd rows of the columns
pub columns_merged-even : (c d : ℕ → ℕ → ℤ) (n i w : ℕ) (y : ℕ → ℤ) → i ≡ 2 * (i / 2) → Agrees w y (columns_even c d (i / 2)) →
    Agrees w y (columns_merged c d n i)
columns_merged-even c d n i w y e a = record {
  at = λ j h.
      a.at j h ∙ columns_even-is c d (i / 2) j ∙ sym (even_of-merged (λ r. c r j) (λ r. d r j) n (i / 2))
      ∙ sym (columns_merged-is c d n (2 * (i / 2)) j) ∙ ap (λ (k : ℕ). columns_merged c d n k j) (sym e);
}

odd_of-row : (c d : ℕ → ℕ → ℤ) (n k j : ℕ) → columns_merged c d n (2 * k + 1) j ≡ columns_odd (columns_even c d) d n k j
odd_of-row c d n k j =
    columns_merged-is c d n (2 * k + 1) j ∙ odd_of-merged (λ r. c r j) (λ r. d r j) n k
    ∙ grind (arith, odd_of-is, prediction-is, columns_odd-is, columns_even-is)

pub columns_merged-odd : (c d : ℕ → ℕ → ℤ) (n i w : ℕ) (y : ℕ → ℤ) → i ≡ 2 * (i / 2) + 1 → Agrees w y (columns_odd (columns_even c d) d n (i / 2)) →
    Agrees w y (columns_merged c d n i)
columns_merged-odd c d n i w y e a = record {
  at = λ j h. a.at j h ∙ sym (odd_of-row c d n (i / 2) j) ∙ ap (λ (k : ℕ). columns_merged c d n k j) (sym e);
}

pub columns_merged-odd_at : (c d : ℕ → ℕ → ℤ) (n k w : ℕ) (y : ℕ → ℤ) → Agrees w y (columns_odd (columns_even c d) d n k) →
    Agrees w y (columns_merged c d n (2 * k + 1))
columns_merged-odd_at c d n k w y a = record { at = λ j h. a.at j h ∙ sym (odd_of-row c d n k j) }
