-- Rows that the code reads as parts of a slice, and column passes by whole rows.
use Rattle.std.proofs.lemmas.Nat.{rows}
use Rattle.std.proofs.Common.{◌≡◌, ℕ, ◌+◌, ◌*◌, ◌/◌, ◌%◌, ◌<◌, ◌≤◌, ℤ, List, refl, ◌∙◌, subst, arith, slice_range}
use Rattle.std.proofs.lemmas.Int.{ints}
use Rattle.wave_defs.specs.Held.{Agrees, SameWithin, signal, grid}
use Rattle.wave_defs.specs.Line.{merged}
use Rattle.wave_defs.specs.Level.{columns_high, rows_merged}
use Rattle.wave_defs.specs.Within.{AllWithin, EachWithin}
use Rattle.wave_defs.proofs.GridLaws.{Agrees-row}
use Rattle.wave_defs.proofs.Floors.{high_of-within}
use Rattle.wave_defs.proofs.LineLaws.{merged-same}
use Rattle.wave_defs.proofs.Equations.{columns_high-is}

pub Agrees-part : (w i : ℕ) (ys xs : List ℤ) → ys ≡ slice_range xs (i * w) (i * w + w) → Agrees w (signal ys) (grid w xs i)
Agrees-part w i ys xs e = rw e (Agrees-row w i (i * w + w) xs refl)

-- a high row that was computed and is read again
pub AllWithin-high : (m n w v k i : ℕ) (a g : ℕ → ℕ → ℤ) (b : ℕ → ℤ) → 2 ≤ m → 2 ≤ n → i < n → n ≤ k → v ≡ w → EachWithin (2 * m) (2 * n) w a →
    SameWithin k w g (columns_high a n) → Agrees w b (g i) → AllWithin (8 * m) v b
AllWithin-high m n w v k i a g b two long hi all ev bounded same row = record {
  at = λ j h.
      let x = high_of-within m n i (λ r. a r j) two long hi (record { at = λ r hr. bounded.at r j hr (omega arith) }) in
      let y = same.at i j (omega arith) (omega arith) in
      let z = row.at j (omega arith) in
      record { above = grind (arith, ints, columns_high-is); below = grind (arith, ints, columns_high-is) };
}

-- the cells of a bounded image, one after the other
pub AllWithin-whole : (b r w n : ℕ) (ys xs : List ℤ) → n ≡ r * w → ys ≡ xs → EachWithin b r w (grid w xs) → AllWithin b n (signal ys)
AllWithin-whole b r w n ys xs e same each = record {
  at = λ k h.
      let low : k % w < w = grind (arith, rows) in
      let row : k / w < r = grind (arith, rows) in
      let back : k / w * w + k % w ≡ k = grind (arith, rows) in
      rw (same, ← back) (each.at (k / w) (k % w) row low);
}

-- a row of the inverse along rows
pub Agrees-rows_merged : (n m i : ℕ) (c d : ℕ → ℕ → ℤ) (l h y : ℕ → ℤ) → m ≡ n → 2 ≤ n → Agrees (2 * m) y (merged l h m) → Agrees n l (c i) →
    Agrees n h (d i) → Agrees (2 * n) y (rows_merged c d n i)
unfolding rows_merged
Agrees-rows_merged n m i c d l h y e two made low high =
    let made' = subst (λ (k : ℕ). Agrees (2 * k) y (merged l h k)) e made in
    let same = merged-same n l (c i) h (d i) two low high in
    record { at = λ j hj. made'.at j hj ∙ same.at j hj }
