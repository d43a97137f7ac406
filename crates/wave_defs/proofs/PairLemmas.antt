-- A high and a low row that a kernel computed from rows of the rings.
use Rattle.std.proofs.Common.{◌≡◌, ℕ, ◌+◌, ◌-◌, ◌*◌, ◌<◌, ◌≤◌, ℤ, pos, ◌+ℤ◌, ◌-ℤ◌, List, [], length, get_or, arith}
use Rattle.std.proofs.lemmas.Int.{ints}
use Rattle.wave_defs.specs.Line.{even_before, correction}
use Rattle.wave_defs.specs.Lifted.{less_predicted, less_correction}
use Rattle.wave_defs.specs.Within.{IsWithin, AllWithin}
use Rattle.wave_defs.specs.Held.{Agrees, signal}
use Rattle.wave_defs.specs.Rolling.{open_high, open_low}
use Rattle.wave_defs.specs.Rings.{RowsWithin, AreNewest, even_rows, odd_rows}
use Rattle.wave_defs.proofs.Floors.{predicted-within, floor_4}
use Rattle.wave_defs.proofs.RingLaws.{newest_at}
use Rattle.wave_defs.proofs.Equations.{correction-is, less_predicted-is, open_high-is, less_correction-is, open_low-is}

-- the high row j from the odd row at 0 and the even rows at f, 1, 2 and 3
pub Agrees-open_high : (a : ℕ → ℕ → ℤ) (w j f : ℕ) (evens odds : List (List ℤ)) (y : ℕ → ℤ) → length evens ≡ 4 → length odds ≡ 2
    → f < 4 → j + 3 + f ≡ even_before j + 4
    → Agrees w y (less_predicted (signal (get_or odds 0 [])) (signal (get_or evens f [])) (signal (get_or evens 1 [])) (signal (get_or evens 2 []))
    (signal (get_or evens 3 [])))
    → AreNewest (even_rows a) w (j + 3) evens → AreNewest (odd_rows a) w (j + 2) odds → Agrees w y (open_high a j)
Agrees-open_high a w j f evens odds y four two hf ef lifted e o =
    let r0 = newest_at (even_rows a) w (j + 3) f (even_before j) evens e (omega arith) (omega arith) in
    let r1 = newest_at (even_rows a) w (j + 3) 1 j evens e (omega arith) (omega arith) in
    let r2 = newest_at (even_rows a) w (j + 3) 2 (j + 1) evens e (omega arith) (omega arith) in
    let r3 = newest_at (even_rows a) w (j + 3) 3 (j + 2) evens e (omega arith) (omega arith) in
    let ro = newest_at (odd_rows a) w (j + 2) 0 j odds o (omega arith) (omega arith) in
    record {
      at = λ k h.
          let p0 = r0.at k h in
          let p1 = r1.at k h in
          let p2 = r2.at k h in
          let p3 = r3.at k h in
          let po = ro.at k h in
          let is = lifted.at k h in
          grind (arith, less_predicted-is, open_high-is);
    }

-- and its bound
pub less_predicted-within : (m w f : ℕ) (evens odds : List (List ℤ)) (y : ℕ → ℤ) → length evens ≡ 4 → length odds ≡ 2 → f < 4 → 2 ≤ m
    → Agrees w y (less_predicted (signal (get_or odds 0 [])) (signal (get_or evens f [])) (signal (get_or evens 1 [])) (signal (get_or evens 2 []))
    (signal (get_or evens 3 [])))
    → RowsWithin (2 * m) w evens → RowsWithin (2 * m) w odds → AllWithin (5 * m) w y
less_predicted-within m w f evens odds y four two hf hm lifted e o = record {
  at = λ k h.
      let p0 = (e.at f (omega arith)).at k h in
      let p1 = (e.at 1 (omega arith)).at k h in
      let p2 = (e.at 2 (omega arith)).at k h in
      let p3 = (e.at 3 (omega arith)).at k h in
      let po = (o.at 0 (omega arith)).at k h in
      let p = predicted-within m _ _ _ _ hm p0 p1 p2 p3 in
      let is = lifted.at k h in
      record { above = grind (arith, ints, less_predicted-is); below = grind (arith, ints, less_predicted-is) };
}

-- the low row j from the even row at 1 and the high rows at f and at the end
pub Agrees-open_low : (a : ℕ → ℕ → ℤ) (w n j f : ℕ) (evens highs : List (List ℤ)) (y : ℕ → ℤ) → length evens ≡ 4 → length highs ≡ n → 2 ≤ n
    → f < n → j + 1 + f ≡ (j - 1) + n
    → Agrees w y (less_correction (signal (get_or evens 1 [])) (signal (get_or highs f [])) (signal (get_or highs (n - 1) [])))
    → AreNewest (even_rows a) w (j + 3) evens → AreNewest (open_high a) w (j + 1) highs → Agrees w y (open_low a j)
Agrees-open_low a w n j f evens highs y four long two hf ef lifted e d =
    let r = newest_at (even_rows a) w (j + 3) 1 j evens e (omega arith) (omega arith) in
    let before = newest_at (open_high a) w (j + 1) f (j - 1) highs d (omega arith) (omega arith) in
    let after = newest_at (open_high a) w (j + 1) (n - 1) j highs d (omega arith) (omega arith) in
    record {
      at = λ k h.
          let p = r.at k h in
          let q = before.at k h in
          let s = after.at k h in
          let is = lifted.at k h in
          grind (arith, less_correction-is, open_low-is);
    }

correction-half_more : (m : ℕ) (x a b : ℤ) → 2 ≤ m → IsWithin (2 * m) x → IsWithin (5 * m) a → IsWithin (5 * m) b → IsWithin (5 * m) (x -ℤ correction a b)
correction-half_more m x a b two wx wa wb =
    rw correction-is (
    let f = floor_4 (pos 2 -ℤ (a +ℤ b)) in
    record { above = omega (arith, ints); below = omega (arith, ints) }
    )

pub less_correction-within : (m w n f : ℕ) (evens highs : List (List ℤ)) (y : ℕ → ℤ) → length evens ≡ 4 → length highs ≡ n → 2 ≤ n → f < n → 2 ≤ m
    → Agrees w y (less_correction (signal (get_or evens 1 [])) (signal (get_or highs f [])) (signal (get_or highs (n - 1) [])))
    → RowsWithin (2 * m) w evens → RowsWithin (5 * m) w highs → AllWithin (5 * m) w y
unfolding less_correction
less_correction-within m w n f evens highs y four long two hf hm lifted e d = record {
  at = λ k h.
      let p = (e.at 1 (omega arith)).at k h in
      let q = (d.at f (omega arith)).at k h in
      let s = (d.at (n - 1) (omega arith)).at k h in
      rw (lifted.at k h) (correction-half_more m _ _ _ hm p q s);
}
