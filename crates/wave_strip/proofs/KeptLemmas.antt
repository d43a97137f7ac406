-- Rings that take a row.
use Rattle.std.proofs.Common.{◌≡◌, ℕ, ◌+◌, ◌*◌, ◌≤◌, ℤ, List, [], ◌∷◌, ◌++◌, length, drop, subst, arith}
use Rattle.wave_defs.specs.Within.{AllWithin}
use Rattle.wave_defs.specs.Held.{Agrees, signal}
use Rattle.wave_defs.specs.Rolling.{open_high, open_low}
use Rattle.wave_defs.specs.Rings.{RowsWithin, even_rows, odd_rows}
use Rattle.wave_defs.proofs.LevelWithin.{IsWithin-more}
use Rattle.wave_defs.proofs.RingLaws.{AreRows-turn, RowsWithin-turn, AreNewest-turn}
use Rattle.wave_strip.specs.Kept.{AreRings, HoldPairs, AreSmall}

-- a row that becomes the newest of the even or of the odd rows
module _ (w kept : ℕ) (es os ls hs : List (List ℤ)) (row : List ℤ) (s : AreRings w kept es os ls hs) where
  pub AreRings-even : length row ≡ w → AreRings w kept (drop 1 es ++ row ∷ []) os ls hs
  AreRings-even lr = record { evens = AreRows-turn 4 w es row (omega arith) s.evens lr; odds = s.odds; lows = s.lows; highs = s.highs; two = s.two }

  pub AreSmall-even : (m : ℕ) → AreSmall m w es os ls hs → AllWithin (2 * m) w (signal row) → AreSmall m w (drop 1 es ++ row ∷ []) os ls hs
  AreSmall-even m b br = let n = s.evens.count_is in record {
    evens = RowsWithin-turn (2 * m) w es row (omega arith) b.evens br;
    odds = b.odds;
    lows =
        b.lows;
    highs = b.highs;
  }

  pub HoldPairs-even : (a : ℕ → ℕ → ℤ) (e o p : ℕ) → HoldPairs a w e o p es os ls hs → Agrees w (signal row) (a (2 * e)) →
      HoldPairs a w (e + 1) o p (drop 1 es ++ row ∷ []) os ls hs
  HoldPairs-even a e o p f new = let n = s.evens.count_is in record {
    evens = AreNewest-turn (even_rows a) w e es row (omega arith) f.evens new;
    odds =
        f.odds;
    lows = f.lows;
    highs = f.highs;
  }

  pub AreSmall-odd : (m : ℕ) → AreSmall m w es os ls hs → AllWithin (2 * m) w (signal row) → AreSmall m w es (drop 1 os ++ row ∷ []) ls hs
  AreSmall-odd m b br = let n = s.odds.count_is in record {
    evens = b.evens;
    odds = RowsWithin-turn (2 * m) w os row (omega arith) b.odds br;
    lows =
        b.lows;
    highs = b.highs;
  }

  pub HoldPairs-odd : (a : ℕ → ℕ → ℤ) (e o p : ℕ) → HoldPairs a w e o p es os ls hs → Agrees w (signal row) (a (2 * o + 1)) →
      HoldPairs a w e (o + 1) p es (drop 1 os ++ row ∷ []) ls hs
  HoldPairs-odd a e o p f new = let n = s.odds.count_is in record {
    evens = f.evens;
    odds = AreNewest-turn (odd_rows a) w o os row (omega arith) f.odds new;
    lows = f.lows;
    highs = f.highs;
  }

-- a pair that becomes the newest
module _ (w kept : ℕ) (es os ls hs : List (List ℤ)) (low high : List ℤ) (s : AreRings w kept es os ls hs) where
  pub AreRings-pair : length low ≡ w → length high ≡ w → AreRings w kept es os (drop 1 ls ++ low ∷ []) (drop 1 hs ++ high ∷ [])
  AreRings-pair ll lh =
      let two = s.two in
      record {
        evens = s.evens;
        odds = s.odds;
        lows = AreRows-turn kept w ls low (omega arith) s.lows ll;
        highs =
            AreRows-turn kept w hs high (omega arith) s.highs lh;
        two = s.two;
      }

  pub AreSmall-pair : (m : ℕ) → AreSmall m w es os ls hs → AllWithin (5 * m) w (signal low) → AllWithin (5 * m) w (signal high) →
      AreSmall m w es os (drop 1 ls ++ low ∷ []) (drop 1 hs ++ high ∷ [])
  AreSmall-pair m b bl bh =
      let two = s.two in
      let n = s.lows.count_is in
      let k = s.highs.count_is in
      record {
        evens = b.evens;
        odds = b.odds;
        lows = RowsWithin-turn (5 * m) w ls low (omega arith) b.lows bl;
        highs =
            RowsWithin-turn (5 * m) w hs high (omega arith) b.highs bh;
      }

  pub HoldPairs-pair : (a : ℕ → ℕ → ℤ) (e o p : ℕ) → HoldPairs a w e o p es os ls hs → Agrees w (signal low) (open_low a p) →
      Agrees w (signal high) (open_high a p) → HoldPairs a w e o (p + 1) es os (drop 1 ls ++ low ∷ []) (drop 1 hs ++ high ∷ [])
  HoldPairs-pair a e o p f fl fh =
      let two = s.two in
      let n = s.lows.count_is in
      let k = s.highs.count_is in
      record {
        evens = f.evens;
        odds = f.odds;
        lows = AreNewest-turn (open_low a) w p ls low (omega arith) f.lows fl;
        highs =
            AreNewest-turn (open_high a) w p hs high (omega arith) f.highs fh;
      }

-- other counts of the same rows
pub HoldPairs-counts : (a : ℕ → ℕ → ℤ) (w e o p e' o' p' : ℕ) (es os ls hs : List (List ℤ)) → e ≡ e' → o ≡ o' → p ≡ p' → HoldPairs a w e o p es os ls hs →
    HoldPairs a w e' o' p' es os ls hs
HoldPairs-counts a w e o p e' o' p' es os ls hs ee eo ep f =
    let f1 = subst (λ (k : ℕ). HoldPairs a w k o p es os ls hs) ee f in
    let f2 = subst (λ (k : ℕ). HoldPairs a w e' k p es os ls hs) eo f1 in
    subst (λ (k : ℕ). HoldPairs a w e' o' k es os ls hs) ep f2

-- a wider bound on a row
pub AllWithin-more : (b c w : ℕ) (x : ℕ → ℤ) → b ≤ c → AllWithin b w x → AllWithin c w x
AllWithin-more b c w x le s = record { at = λ k h. IsWithin-more b c _ le (s.at k h) }

pub RowsWithin-more : (b c w : ℕ) (rows : List (List ℤ)) → b ≤ c → RowsWithin b w rows → RowsWithin c w rows
RowsWithin-more b c w rows le s = record { at = λ t h. AllWithin-more b c w _ le (s.at t h) }

-- ---- rows of zeros
