-- A number with one more bit.
use Rattle.std.proofs.Common.{◌≡◌, ℕ, zero, suc, ◌+◌, ◌-◌, ◌*◌, ◌/◌, ◌%◌, ◌^◌, ◌<◌, ◌≤◌, ◌==◌, ◌&&◌, ◌||◌, not, nat_lt, nat_le, Bool, true, false}
use Rattle.std.proofs.Common.{if◌then◌else◌, ap, sym, ◌∙◌, arith, pos, pow-suc, pow_pos, inl, inr}
use Rattle.std.specs.Prelude.{◌-ℤ◌}
use Rattle.std.specs.Int.RustNames.{unsigned_abs}
use Rattle.std.proofs.lemmas.Bool.{cases_lt}
use Rattle.std.proofs.lemmas.Bool.Decides.{nat_tests}
use Rattle.std.proofs.lemmas.Nat.{pow-add, div-mul-add}
use Rattle.std.proofs.Math.Nat.{div-div-eq-div-mul, lt-div-mul-add, div-mul-le_self}
use Rattle.plane_defs.specs.Entries.{negative}
use Rattle.item_defs.specs.Bits.{bit}

pub doubled : (b : ℕ) → 2 ^ (b + 1) ≡ 2 ^ b * 2
doubled b = let e : b + 1 ≡ suc b = omega arith in ap (λ k. 2 ^ k) e ∙ pow-suc 2 b

pub next_half : (m b : ℕ) → m / 2 ^ (b + 1) ≡ m / 2 ^ b / 2
next_half m b = ap (λ k. m / k) (doubled b) ∙ sym (div-div-eq-div-mul m (2 ^ b) 2)

-- the bits of a plane and above are those above, and the plane's
pub one_bit_more : (m b : ℕ) → m / 2 ^ (b + 1) * 2 ^ (b + 1) + (if bit m b then 2 ^ b else 0) ≡ m / 2 ^ b * 2 ^ b
one_bit_more m b =
    let d = m / 2 ^ b in
    let k = 2 ^ b in
    ap (λ x. x * 2 ^ (b + 1) + (if bit m b then k else 0)) (next_half m b) ∙ ap (λ x. d / 2 * x + (if bit m b then k else 0)) (doubled b) ∙
    ap (λ x. d / 2 * (k * 2) + x) (by_bit (d % 2) k (let e : d % 2 < 2 = omega arith in e)) ∙ two_parts (d / 2) k (d % 2) ∙
    ap (λ x. x * k) (let e : d / 2 * 2 + d % 2 ≡ d = omega arith in e)
  where
    two_parts : (h k x : ℕ) → h * (k * 2) + x * k ≡ (h * 2 + x) * k
    two_parts h k x = omega arith

    by_bit : (r k : ℕ) → r < 2 → (if r == 1 then k else 0) ≡ r * k
    by_bit zero k lt = omega arith
    by_bit (suc zero) k lt = omega arith
    by_bit (suc (suc r)) k lt = absurd (omega (arith, lt))

-- a multiple of a power of two has no bit below it
pub bit_below : (m b shift part : ℕ) → m ≡ 2 ^ shift * part → b < shift → bit m b ≡ false
bit_below m b shift part e lt =
    let k = 2 ^ (shift - b - 1) in
    let halves : 2 ^ shift ≡ 2 ^ b * (2 * k) = grind (arith, nat_tests, pow-add) in
    let f : m ≡ (2 * (k * part)) * 2 ^ b + 0 = e ∙ ap (λ x. x * part) halves ∙ product (2 ^ b) k part in
    ap (λ x. x == 1) (ap (λ x. x / 2 ^ b % 2) f ∙ ap (λ x. x % 2) (div-mul-add (2 * (k * part)) (2 ^ b) 0 (pow_pos b)) ∙ twice (k * part))
  where
    product : (w k t : ℕ) → w * (2 * k) * t ≡ (2 * (k * t)) * w + 0
    product w k t = omega arith

    twice : (x : ℕ) → (2 * x) % 2 ≡ 0
    twice x = omega arith

-- a number below two to the next plane has the bit exactly if it reaches the plane
pub bit_reached : (m b : ℕ) → nat_le (2 ^ (b + 1)) m ≡ false → nat_le (2 ^ b) m ≡ bit m b
bit_reached m b e =
    let small : m < 2 ^ b * 2 = below (2 ^ (b + 1)) (2 ^ b * 2) m (doubled b) e in
    elim (cases_lt m (2 ^ b)) [
      | inl lt ↦
          let f : (0 * 2 ^ b + m) / 2 ^ b ≡ 0 = div-mul-add 0 (2 ^ b) m lt in
          let g : 0 * 2 ^ b + m ≡ m = omega arith in
          not_reached (2 ^ b) m lt ∙ sym (ap (λ x. x % 2 == 1) (ap (λ x. x / 2 ^ b) (sym g) ∙ f))
      | inr ge ↦
          let f : (1 * 2 ^ b + (m - 2 ^ b)) / 2 ^ b ≡ 1 = div-mul-add 1 (2 ^ b) (m - 2 ^ b) (omega (arith, small, ge)) in
          let g : 1 * 2 ^ b + (m - 2 ^ b) ≡ m = omega (arith, ge) in
          reached (2 ^ b) m ge ∙ sym (ap (λ x. x % 2 == 1) (ap (λ x. x / 2 ^ b) (sym g) ∙ f))
    ]
  where
    below : (a c m : ℕ) → a ≡ c → nat_le a m ≡ false → m < c
    below a c m e f = grind (arith, nat_tests)

    not_reached : (k m : ℕ) → m < k → nat_le k m ≡ false
    not_reached k m lt = grind (arith, nat_tests)

    reached : (k m : ℕ) → k ≤ m → nat_le k m ≡ true
    reached k m le = grind (arith, nat_tests)

-- what is above a plane reaches it exactly if the number does
pub reach_same : (k m : ℕ) → 0 < k → nat_le k (m / k * k) ≡ nat_le k m
reach_same k m some = by (m / k) (lt-div-mul-add some) (div-mul-le_self m k)
  where
    by : (q : ℕ) → m < q * k + k → q * k ≤ m → nat_le k (q * k) ≡ nat_le k m
    by zero a c = let z : zero * k ≡ 0 = omega arith in grind (arith, nat_tests)
    by (suc q) a c = let f : k ≤ suc q * k = omega arith in let g : k ≤ m = omega (arith, f, c) in grind (arith, nat_tests)

-- ---- signs

pub signed_size : (s : Bool) (m : ℕ) → unsigned_abs (if s then pos 0 -ℤ pos m else pos m) ≡ m
signed_size s m = grind (arith, nat_tests)

pub signed_negative : (s : Bool) (m : ℕ) → negative (if s then pos 0 -ℤ pos m else pos m) ≡ (s && nat_lt 0 m)
signed_negative s m = grind (arith, nat_tests)

-- ---- truth values: significant above, coded, significant here, the bit, negative

pub bits_all : (a c x z : Bool) → (c ≡ false → z ≡ false) → (a ≡ false → x ≡ z) → (((not a && c) && x) || ((a && c) && z)) ≡ z
bits_all a c x z h1 h2 = grind (arith, nat_tests)

pub signs_all : (a c x n : Bool) → (a ≡ true → x ≡ true) → (c ≡ false → x ≡ a) → (((a && n) || (((not a && c) && x) && n)) && x) ≡ (x && n)
signs_all a c x n h1 h2 = grind (arith, nat_tests)
