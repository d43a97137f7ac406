-- A restored number is a multiple of its weight, by at most 2 ^ 27 in magnitude, if the number is and has room above the bits that are given.
use Rattle.std.proofs.Common.{◌≡◌, ◌≤◌, ◌<◌, ℕ, zero, suc, ◌+◌, ◌-◌, ◌*◌, ◌/◌, ◌^◌, refl, ap, sym, ◌∙◌, subst, arith}
use Rattle.std.proofs.Common.{Option, Some, None, ℤ, pos, negsuc, ◌+ℤ◌, ◌*ℤ◌, ◌≤ℤ◌, neg_ℤ, pow_pos, pow_mono, inl, inr}
use Rattle.std.specs.Int.RustNames.{unsigned_abs}
use Rattle.std.proofs.Math.IntN.{suc_ℤ, suc_ℤ-*ℤ, +ℤ-suc_ℤ}
use Rattle.std.proofs.Math.Nat.{mul-le-mul_right}
use Rattle.std.proofs.lemmas.Bool.{cases_lt}
use Rattle.std.proofs.lemmas.Int.{ints}
use Rattle.std.proofs.lemmas.Nat.{pow-add}
use Rattle.item_defs.proofs.Room.{Room}
use Rattle.base_122.specs.Restored.{restored_dc}
use Rattle.plane_defs.specs.Restored.{ac_rest, restored_ac}
use Rattle.plane_defs.proofs.NumbersLeft.{whole_size}
use Rattle.plane_defs.proofs.LowsRoom.{AcRoom}
use Rattle.segment_defs.specs.Parts.{IsWeighted}
use Rattle.segment_defs.proofs.TextNumbers.{weighted}

-- a part of 2 ^ u, in steps of 2 ^ s, is at most 2 ^ low
part_below : (s low part : ℕ) → part ≤ 2 ^ (low - s) → (low - s ≡ 0 → part ≡ 0) → 2 ^ s * part ≤ 2 ^ low
part_below s low part le none = elim (cases_lt low s) [
  | inl lt ↦
      let u : low - s ≡ 0 = omega (arith, lt) in
      let z = none u in
      subst (λ n. 2 ^ s * n ≤ 2 ^ low) (sym z) (omega arith)
  | inr ge ↦
      let e : s + (low - s) ≡ low = omega (arith, ge) in
      let all : 2 ^ s * 2 ^ (low - s) ≡ 2 ^ low = sym (pow-add 2 s (low - s)) ∙ ap (λ n. 2 ^ n) e in
      let f : part * 2 ^ s ≤ 2 ^ (low - s) * 2 ^ s = mul-le-mul_right (2 ^ s) le in
      let g : part * 2 ^ s ≡ 2 ^ s * part = omega arith in
      let h : 2 ^ (low - s) * 2 ^ s ≡ 2 ^ s * 2 ^ (low - s) = omega arith in
      omega (arith, all, f, g, h)
]

half_part : (u : ℕ) → 2 ^ u / 2 ≤ 2 ^ u
half_part u = omega arith

half_none : (u : ℕ) → u ≡ 0 → 2 ^ u / 2 ≡ 0
half_none u e = rw e refl

eighths_part : (u : ℕ) → 3 * 2 ^ u / 8 ≤ 2 ^ u
eighths_part u = omega arith

eighths_none : (u : ℕ) → u ≡ 0 → 3 * 2 ^ u / 8 ≡ 0
eighths_none u e = rw e refl

-- ---- an AC number

ac_size : (s low : ℕ) (z : ℤ) → (z ≡ pos 0 → ⊥) → unsigned_abs (restored_ac s (Some low) z) ≡ unsigned_abs z + ac_rest s low
ac_size s low (pos zero) some = absurd (some refl)
ac_size s low (pos (suc n)) some = refl
ac_size s low (negsuc n) some = omega arith

pub ac_restored : (s depth : ℕ) (low : Option ℕ) (z : ℤ) → depth ≤ 27 → IsWeighted s z → AcRoom depth 0 low (unsigned_abs z) →
    IsWeighted s (restored_ac s low z)
ac_restored s depth None z few w room = w
ac_restored s depth (Some low) z few w room = by z w room
  where
    moved : (z : ℤ) → (z ≡ pos 0 → ⊥) → IsWeighted s z → AcRoom depth 0 (Some low) (unsigned_abs z) → IsWeighted s (restored_ac s (Some low) z)
    moved z some w room =
        let x = 3 * 2 ^ (low - s) / 8 in
        let e = ac_size s low z some in
        let whole : unsigned_abs z ≡ 2 ^ s * unsigned_abs w.part = whole_size z s (w.part, w.is) in
        let grouped : 2 ^ s * unsigned_abs w.part + 2 ^ s * x ≡ 2 ^ s * (unsigned_abs w.part + x) = grind arith in
        let below = part_below s low x (eighths_part (low - s)) (eighths_none (low - s)) in
        let most : 2 ^ depth ≤ 2 ^ 27 = pow_mono few in
        let up = room.1 in
        weighted s (2 ^ 27) (restored_ac s (Some low) z) (omega arith)
        (record { part = unsigned_abs w.part + x; is = omega (arith, e, whole, grouped); small = omega (arith, e, below, up, most) })

    by : (z : ℤ) → IsWeighted s z → AcRoom depth 0 (Some low) (unsigned_abs z) → IsWeighted s (restored_ac s (Some low) z)
    by (pos zero) w room = w
    by (pos (suc n)) w room = moved (pos (suc n)) (λ e. absurd cc) w room
    by (negsuc n) w room = moved (negsuc n) (λ e. absurd cc) w room

-- ---- a DC number

add_times : (m : ℤ) (x K : ℕ) → (m +ℤ pos x) *ℤ pos K ≡ m *ℤ pos K +ℤ pos (x * K)
add_times m zero K =
    let e : m +ℤ pos 0 ≡ m = omega (arith, ints) in
    let f : 0 * K ≡ 0 = omega arith in
    ap (λ z. z *ℤ pos K) e ∙ (let g : m *ℤ pos K ≡ m *ℤ pos K +ℤ pos 0 = omega (arith, ints) in g) ∙ ap (λ n. m *ℤ pos K +ℤ pos n) (sym f)
add_times m (suc x) K =
    let e : m +ℤ pos (suc x) ≡ suc_ℤ (m +ℤ pos x) = +ℤ-suc_ℤ m (pos x) in
    let f : suc x * K ≡ x * K + K = omega arith in
    ap (λ z. z *ℤ pos K) e ∙ suc_ℤ-*ℤ (m +ℤ pos x) (pos K) ∙ ap (λ z. z +ℤ pos K) (add_times m x K) ∙
    (let g : m *ℤ pos K +ℤ pos (x * K) +ℤ pos K ≡ m *ℤ pos K +ℤ pos (x * K + K) = omega (arith, ints) in g) ∙ ap (λ n. m *ℤ pos K +ℤ pos n) (sym f)

size_below : (z : ℤ) (n : ℕ) → neg_ℤ (pos n) ≤ℤ z → z ≤ℤ pos n → unsigned_abs z ≤ n
size_below (pos a) n low high = omega (arith, ints, high)
size_below (negsuc a) n low high = omega (arith, ints, low)

pub dc_restored : (s : ℕ) (low : Option ℕ) (z : ℤ) → IsWeighted s z → Room 27 0 low z → IsWeighted s (restored_dc s low z)
dc_restored s None z w room = w
dc_restored s (Some low) z w room =
    let x = 2 ^ (low - s) / 2 in
    let now = z +ℤ pos (2 ^ s * x) in
    let part = w.part +ℤ pos x in
    let turned : x * 2 ^ s ≡ 2 ^ s * x = omega arith in
    let is : now ≡ part *ℤ pos (2 ^ s) =
    (λ i. w.is i +ℤ pos (sym turned i)) ∙ sym (add_times w.part x (2 ^ s)) in
    let below = part_below s low x (half_part (low - s)) (half_none (low - s)) in
    let from = room.1 in
    let to = room.2 in
    let size : unsigned_abs now ≤ 2 ^ 27 = size_below now (2 ^ 27) (omega (arith, ints, from)) (omega (arith, ints, to, below)) in
    record { part = part; is = is; small = less (2 ^ s) (unsigned_abs part) (unsigned_abs now) (pow_pos s) (whole_size now s (part, is)) size }
  where
    less : (k y m : ℕ) → 0 < k → m ≡ k * y → m ≤ 2 ^ 27 → y ≤ 2 ^ 27
    less k y m some e small = let f : 1 * y ≤ k * y = mul-le-mul_right y some in omega (arith, f, e, small)
