-- Numbers that are cut are multiples of their weights, and no greater.
use Rattle.std.proofs.Common.{◌≡◌, ◌⊎◌, ℕ, suc, ◌+◌, ◌-◌, ◌*◌, ◌/◌, ◌^◌, ◌≤◌, ◌<◌, ◌==◌, ◌&&◌, ◌||◌, nat_lt, Bool, true, false, if◌then◌else◌, List, refl}
use Rattle.std.proofs.Common.{ap, sym, ◌∙◌, subst, arith, ℤ, pos, negsuc, ◌*ℤ◌, inl, inr, pow_pos}
use Rattle.std.specs.Int.{int_shr}
use Rattle.std.specs.Int.RustNames.{unsigned_abs}
use Rattle.std.proofs.Math.Nat.{div-mul-le_self, lt-div-mul-add, mul-le-mul_right}
use Rattle.std.proofs.lemmas.Bool.{cases_lt}
use Rattle.std.proofs.lemmas.Bool.Decides.{nat_tests}
use Rattle.std.proofs.lemmas.Int.{ints}
use Rattle.std.proofs.lemmas.Nat.{pow-add, shr_below}
use lib.ListN.{get_or}
use Rattle.item_defs.specs.Bits.{bit}
use Rattle.plane_defs.specs.Sets.{magnitude, significant}
use Rattle.plane_defs.specs.Entries.{negative}
use Rattle.plane_defs.proofs.SpanLists.{get_or-map-span}
use Rattle.plane_defs.specs.Cuts.{Reach, cut_size, cut_number, cut_dc, cut_block}
use Rattle.plane_defs.proofs.NumberParts.{bit_below, one_bit_more, signed_size}
use Rattle.plane_defs.proofs.NumbersLeft.{weight, part_of, multiple_step}

-- a multiple of 2 ^ s, at most so great
pub record IsTimes (s most : ℕ) (z : ℤ) : Type 0 where
  pub part : ℕ
  pub is : unsigned_abs z ≡ 2 ^ s * part
  pub small : unsigned_abs z ≤ most

module _ (M b s part : ℕ) (whole : M ≡ 2 ^ s * part) (y : Bool) where
  abbrev A : ℕ
  A = M / 2 ^ (b + 1) * 2 ^ (b + 1)

  -- the bits above a plane, and the plane's if it is given
  part_times : (k : ℕ) × (A + weight b (y && bit M b) ≡ 2 ^ s * k)
  part_times = elim (cases_lt (b + 1) s) [
    | inl high ↦
        let none : bit M b ≡ false = bit_below M b s part whole (omega (arith, high)) in
        let e : 2 ^ s ≡ 2 ^ (s - (b + 1)) * 2 ^ (b + 1) = (let f : s ≡ (s - (b + 1)) + (b + 1) = omega (arith, high) in ap (λ n. 2 ^ n) f ∙
        pow-add 2 (s - (b + 1)) (b + 1)) in
        let same : M ≡ A = part_of (b + 1) (part * 2 ^ (s - (b + 1))) M (whole ∙ ap (λ x. x * part) e ∙ turned (2 ^ (s - (b + 1))) (2 ^ (b + 1)) part) in
        (part, (λ i. sym same i + weight b (y && none i)) ∙ ap (λ (x : Bool). M + weight b x) (no_bit y) ∙ (let z : M + 0 ≡ M = omega arith in z) ∙ whole)
    | inr low ↦
        let e : 2 ^ (b + 1) ≡ 2 ^ s * 2 ^ ((b + 1) - s) = (let f : b + 1 ≡ s + ((b + 1) - s) = omega (arith, low) in ap (λ n. 2 ^ n) f ∙
        pow-add 2 s ((b + 1) - s)) in
        multiple_step b s (M / 2 ^ (b + 1) * 2 ^ ((b + 1) - s)) A (y && bit M b)
        (ap (λ x. M / 2 ^ (b + 1) * x) e ∙ grouped (M / 2 ^ (b + 1)) (2 ^ s) (2 ^ ((b + 1) - s))) (λ g. inside (cases_lt b s) g)
  ]
    where
      turned : (u w p : ℕ) → u * w * p ≡ p * u * w
      turned u w p = grind arith

      grouped : (m u w : ℕ) → m * (u * w) ≡ u * (m * w)
      grouped m u w = grind arith

      no_bit : (x : Bool) → (x && false) ≡ false
      no_bit x = grind (arith, nat_tests)

      has : (x z : Bool) → (x && z) ≡ true → z ≡ true
      has x z h1 = grind (arith, nat_tests)

      clash : (z : Bool) → z ≡ true → z ≡ false → ⊥
      clash true e f = cc
      clash false e f = cc

      inside : (b < s) ⊎ (s ≤ b) → (y && bit M b) ≡ true → s ≤ b
      inside (inl lt) g = absurd (clash (bit M b) (has y (bit M b) g) (bit_below M b s part whole lt))
      inside (inr le) g = le

  part_small : A + weight b (y && bit M b) ≤ M
  part_small = grind (arith, nat_tests, one_bit_more, div-mul-le_self, weight)

pub number_times : (v : List ℤ) (plane : ℕ) (reach : Reach) (p s part : ℕ) → magnitude v p ≡ 2 ^ s * part →
    IsTimes s (magnitude v p) (cut_number v plane reach p)
number_times v plane reach p s part whole =
    let y : Bool = if significant v (plane + 1) p then nat_lt p reach.bits else nat_lt p reach.types in
    let w = part_times (magnitude v p) plane s part whole y in
    let size : unsigned_abs (cut_number v plane reach p) ≡ cut_size v plane reach p =
    signed_size ((significant v (plane + 1) p || (nat_lt p reach.signs && significant v plane p)) && negative (get_or v p (pos 0)))
    (cut_size v plane reach p) in
    record { part = w.0; is = size ∙ w.1; small = subst (λ n. n ≤ magnitude v p) (sym size) (part_small (magnitude v p) plane s part whole y) }

-- a number of at most this many bits below its sign, rounded down to a multiple of a power of two
pub dc_times : (z : ℤ) (low s most : ℕ) → s ≤ low → low ≤ most → (int_shr z most ≡ pos 0) ⊎ (int_shr z most ≡ negsuc 0) →
    IsTimes s (2 ^ most) (int_shr z low *ℤ pos (2 ^ low))
dc_times z low s most le few is = record {
  part = unsigned_abs (int_shr z low) * 2 ^ (low - s);
  is = size (int_shr z low) (2 ^ low) ∙ ap (λ x. unsigned_abs (int_shr z low) * x) parts ∙ grouped (unsigned_abs (int_shr z low)) (2 ^ s) (2 ^ (low - s));
  small = subst (λ n. n ≤ 2 ^ most) (sym (size (int_shr z low) (2 ^ low))) (by z is);
}
  where
    parts : 2 ^ low ≡ 2 ^ s * 2 ^ (low - s)
    parts = let f : low ≡ s + (low - s) = omega (arith, le) in ap (λ n. 2 ^ n) f ∙ pow-add 2 s (low - s)

    grouped : (m u w : ℕ) → m * (u * w) ≡ u * (m * w)
    grouped m u w = grind arith

    size : (y : ℤ) (n : ℕ) → unsigned_abs (y *ℤ pos n) ≡ unsigned_abs y * n
    size (pos a) n = refl
    size (negsuc a) n = grind (arith, nat_tests, ints)

    room : 2 ^ most ≡ 2 ^ (most - low) * 2 ^ low
    room = let f : most ≡ (most - low) + low = omega (arith, few) in ap (λ n. 2 ^ n) f ∙ pow-add 2 (most - low) low

    below : (a : ℕ) → a / 2 ^ most ≡ 0 → a / 2 ^ low < 2 ^ (most - low)
    below a e = grind (arith, nat_tests, lt-div-mul-add, pow_pos, shr_below)

    by : (z : ℤ) → (int_shr z most ≡ pos 0) ⊎ (int_shr z most ≡ negsuc 0) → unsigned_abs (int_shr z low) * 2 ^ low ≤ 2 ^ most
    by (pos a) (inl e) =
        let lt = below a (zero_of (a / 2 ^ most) e) in
        subst (λ n. a / 2 ^ low * 2 ^ low ≤ n) (sym room) (mul-le-mul_right (2 ^ low) (omega (arith, lt)))
      where
        zero_of : (n : ℕ) → pos n ≡ pos 0 → n ≡ 0
        zero_of n e = cc
    by (pos a) (inr e) = absurd cc
    by (negsuc a) (inl e) = absurd cc
    by (negsuc a) (inr e) =
        let lt = below a (zero_of (a / 2 ^ most) e) in
        subst (λ n. suc (a / 2 ^ low) * 2 ^ low ≤ n) (sym room) (mul-le-mul_right (2 ^ low) (omega (arith, lt)))
      where
        zero_of : (n : ℕ) → negsuc n ≡ negsuc 0 → n ≡ 0
        zero_of n e = cc

pub block_at : (weights : List ℕ) (q : ℕ) (v : List ℤ) (plane : ℕ) (reach : Reach) (p : ℕ) → p < 64 →
    get_or (cut_block weights q v plane reach) p (pos 0) ≡ (if p == 0 then cut_dc weights q v plane reach else cut_number v plane reach p)
block_at weights q v plane reach p lt =
    get_or-map-span (λ i. if i == 0 then cut_dc weights q v plane reach else cut_number v plane reach i) 64 p (pos 0) lt
