-- Samples that the inverse reads and writes, in 64 bits.
use Rattle.std.proofs.Common.{◌≡◌, ℕ, ◌+◌, ◌-◌, ◌^◌, ◌<◌, ◌≤◌, ℤ, List, ◌+ℤ◌, arith, w64, to_z, of_z}
use Rattle.std.proofs.lemmas.Int.{ints}
use Rattle.wave_defs.specs.Line.{predicted, correction, even_before, even_within, even_of, odd_of}
use Rattle.wave_defs.specs.Within.{IsWithin, AllWithin}
use Rattle.wave_defs.specs.Held.{Agrees}
use Rattle.lift_rows.specs.Back.{IsValid}
use Rattle.wave_defs.proofs.Shifts.{kept}
use Rattle.wave_defs.proofs.Floors.{even_of-within}
use Rattle.wave_defs.proofs.Equations.{even_of-is, odd_of-is, prediction-is}

abbrev read : ℤ → ℤ
read z = to_z w64 (of_z w64 z)

-- an even sample from the low sample and the high ones on both sides
pub even_is : (c d : ℕ → ℤ) (n k b : ℕ) (r : ℤ) → k < n → b ≡ k - 1 → AllWithin (2 ^ 38) n c → AllWithin (2 ^ 38) n d →
    r ≡ (read (c k) +ℤ correction (read (d b)) (read (d k))) → (IsWithin (2 ^ 40) r) × (r ≡ even_of c d k)
even_is c d n k b r h eb wc wd er =
    let vc = kept w64 (2 ^ 38) (c k) (omega arith) (wc.at k h) in
    let vb = kept w64 (2 ^ 38) (d b) (omega arith) (wd.at b (omega arith)) in
    let vd = kept w64 (2 ^ 38) (d k) (omega arith) (wd.at k h) in
    let is : r ≡ even_of c d k = grind (arith, even_of-is) in
    let w = even_of-within (2 ^ 38) n k c d (omega arith) h wc wd in
    (record { above = grind (arith, ints, even_of-is); below = grind (arith, ints, even_of-is) }, is)

-- one of the first m even samples, which was stored and is read again
pub stored_even : (c d e : ℕ → ℤ) (n m k : ℕ) → m ≤ n → k < m → AllWithin (2 ^ 38) n c → AllWithin (2 ^ 38) n d → Agrees m e (even_of c d) →
    (IsWithin (2 ^ 40) (read (e k))) × (read (e k) ≡ even_of c d k)
stored_even c d e n m k le h wc wd a =
    let is = a.at k h in
    let b = even_of-within (2 ^ 38) n k c d (omega arith) (omega arith) wc wd in
    (record { above = omega (arith, ints); below = omega (arith, ints) }, omega (arith, ints))

-- an odd sample from the high sample and the even ones round it
pub odd_is : (c d : ℕ → ℤ) (n j p q s : ℕ) (r vp vj vq vs : ℤ) → j < n → AllWithin (2 ^ 38) n d → p ≡ even_before j → q ≡ even_within n (j + 1) →
    s ≡ even_within n (j + 2) → vp ≡ even_of c d p → vj ≡ even_of c d j → vq ≡ even_of c d q → vs ≡ even_of c d s →
    r ≡ (read (d j) +ℤ predicted vp vj vq vs) → r ≡ odd_of c d n j
odd_is c d n j p q s r vp vj vq vs h wd ep eq es vap vaj vaq vas er =
    rw (odd_of-is, prediction-is) (
    let o = kept w64 (2 ^ 38) (d j) (omega arith) (wd.at j h) in
    cc
    )

-- the same samples under other counts
pub as_many : (a b i j : ℕ) (low high row : List ℤ) → i ≤ a → j ≤ b → IsValid a b low high row → IsValid i j low high row
as_many a b i j low high row h k s = record {
  even = record { at = λ x l. s.even.at x (omega arith) };
  odd = record { at = λ x l. s.odd.at x (omega arith) };
}
