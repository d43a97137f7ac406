-- From the halves of a line to its low and high samples.
use Rattle.std.proofs.Common.{◌≡◌, ℕ, ◌+◌, ◌*◌, ◌^◌, ◌≤◌, ℤ, arith}
use Rattle.std.proofs.lemmas.Int.{ints}
use Rattle.wave_defs.specs.Line.{high_of, low_of}
use Rattle.wave_defs.specs.Within.{AllWithin}
use Rattle.wave_defs.specs.Held.{Agrees}
use Rattle.wave_defs.proofs.LineLaws.{prediction-same}
use Rattle.wave_defs.proofs.Floors.{high_of-within}
use Rattle.lift_rows.specs.Halves.{evens, odds, high_half, low_half}
use Rattle.wave_defs.proofs.Equations.{high_of-is, low_of-is}
use Rattle.std.proofs.lemmas.Bool.Decides.{nat_tests}

pub evens-within : (n m k : ℕ) (x e : ℕ → ℤ) → m ≡ n → k ≡ n → AllWithin (2 ^ 24) (2 * n) x → Agrees k e (evens x) → AllWithin (2 ^ 26) m e
unfolding evens
evens-within n m k x e em ek w a = record {
  at = λ j h.
      let v = w.at (2 * j) (omega arith) in
      let s = a.at j (omega arith) in
      record { above = omega (arith, ints); below = omega (arith, ints) };
}

pub odds-within : (n m k : ℕ) (x o : ℕ → ℤ) → m ≡ n → k ≡ n → AllWithin (2 ^ 24) (2 * n) x → Agrees k o (odds x) → AllWithin (2 ^ 26) m o
unfolding odds
odds-within n m k x o em ek w a = record {
  at = λ j h.
      let v = w.at (2 * j + 1) (omega arith) in
      let s = a.at j (omega arith) in
      record { above = omega (arith, ints); below = omega (arith, ints) };
}

-- k, b and m are the lengths of the slices, all of them n
pub high_half-is : (n k b m : ℕ) (x o e h : ℕ → ℤ) → 2 ≤ n → k ≡ n → b ≡ n → m ≡ n → Agrees k e (evens x) → Agrees k o (odds x) →
    Agrees b h (high_half o e b) → Agrees m h (high_of x m)
unfolding evens odds high_half
high_half-is n k b m x o e h two ek eb em ae ao ah = record {
  at = λ j l.
      let p = prediction-same n j e (λ k. x (2 * k)) two (omega arith) (record { at = λ i li. ae.at i (omega arith) }) in
      let q = ao.at j (omega arith) in
      let r = ah.at j (omega arith) in
      grind (arith, high_of-is);
}

pub high-within : (n m k : ℕ) (x h : ℕ → ℤ) → 2 ≤ n → m ≡ n → k ≡ n → AllWithin (2 ^ 24) (2 * n) x → Agrees k h (high_of x k) → AllWithin (2 ^ 26) m h
high-within n m k x h two em ek w a = record {
  at = λ j l.
      let v = high_of-within (2 ^ 23) n j x (omega arith) two (omega arith) w in
      let s = a.at j (omega arith) in
      let t : h j ≡ high_of x n j = cc in
      record { above = omega (arith, ints); below = omega (arith, ints) };
}

pub low_half-is : (n k b m : ℕ) (x e d l : ℕ → ℤ) → k ≡ n → b ≡ n → m ≡ n → Agrees k e (evens x) → Agrees n d (high_of x n) → Agrees b l (low_half e d) →
    Agrees m l (low_of x m)
unfolding evens low_half
low_half-is n k b m x e d l ek eb em ae ad al = grind (arith, nat_tests, low_of-is)
