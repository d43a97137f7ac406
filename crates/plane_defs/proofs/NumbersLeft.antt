-- A number before its bit of a plane and after it, and what it is of the number at the end.
use Rattle.std.proofs.Common.{◌≡◌, ℕ, zero, suc, ◌+◌, ◌-◌, ◌*◌, ◌/◌, ◌^◌, ◌<◌, ◌≤◌, ◌==◌, Bool, true, false, if◌then◌else◌, refl, ap, sym, ◌∙◌, subst}
use Rattle.std.proofs.Common.{arith, ℤ, pos, negsuc, ◌+ℤ◌, ◌*ℤ◌, neg_ℤ, pow_pos}
use Rattle.std.specs.Int.{int_shr}
use Rattle.std.specs.Int.RustNames.{unsigned_abs}
use Rattle.std.proofs.lemmas.Bool.Decides.{nat_tests}
use Rattle.std.proofs.lemmas.Int.{ints}
use Rattle.std.proofs.lemmas.Nat.{pow-add, div-mul-add, shr-shr}
use Rattle.item_defs.specs.Bits.{bit, digit}
use Rattle.item_defs.specs.TwosComplement.{complement}
use Rattle.plane_defs.specs.Entries.{twos_bit}
use Rattle.item_defs.proofs.TwosComplement.{twice, step_value, shr_step, bit_below, twice_same, shr_multiple}
use Rattle.plane_defs.proofs.NumberParts.{doubled, one_bit_more}

-- ---- magnitudes

abbrev pub weight : (b : ℕ) → Bool → ℕ
weight b x = if x then 2 ^ b else 0

-- no bit below plane b
abbrev pub IsPart : (b m : ℕ) → Type 0
IsPart b m = m ≡ m / 2 ^ b * 2 ^ b

pub part_of : (b k m : ℕ) → m ≡ k * 2 ^ b → IsPart b m
part_of b k m e =
    let f : m ≡ k * 2 ^ b + 0 = e ∙ (let z : k * 2 ^ b ≡ k * 2 ^ b + 0 = omega arith in z) in
    e ∙ ap (λ x. x * 2 ^ b) (sym (ap (λ x. x / 2 ^ b) f ∙ div-mul-add k (2 ^ b) 0 (pow_pos b)))

module _ (m b : ℕ) (x : Bool) (is : IsPart (b + 1) m) where
  abbrev k : ℕ
  k = m / 2 ^ (b + 1)

  with_bit : m + weight b x ≡ (2 * k + digit x) * 2 ^ b
  with_bit = ap (λ y. y + weight b x) (is ∙ ap (λ y. k * y) (doubled b)) ∙ by x (2 ^ b)
    where
      by : (x : Bool) (w : ℕ) → k * (w * 2) + (if x then w else 0) ≡ (2 * k + digit x) * w
      by x w = grind (arith, nat_tests)

  pub part_step : IsPart b (m + weight b x)
  part_step = part_of b (2 * k + digit x) (m + weight b x) with_bit

  -- the bits from the plane up are those of this number: so are those above, and the plane's
  pub split_back : (M : ℕ) → m + weight b x ≡ M / 2 ^ b * 2 ^ b → (m ≡ M / 2 ^ (b + 1) * 2 ^ (b + 1)) × (x ≡ bit M b)
  split_back M e =
      let f : (2 * k + digit x) * 2 ^ b ≡ (2 * (M / 2 ^ (b + 1)) + digit (bit M b)) * 2 ^ b =
      sym with_bit ∙ e ∙ sym (one_bit_more M b) ∙ ap (λ y. M / 2 ^ (b + 1) * y + weight b (bit M b)) (doubled b) ∙ by (bit M b) (M / 2 ^ (b + 1)) (2 ^ b) in
      let g : 2 * k + digit x ≡ 2 * (M / 2 ^ (b + 1)) + digit (bit M b) = cancel_right (2 * k + digit x) (2 * (M / 2 ^ (b + 1)) + digit (bit M b)) f in
      let w = halves x (bit M b) (M / 2 ^ (b + 1)) g in
      (is ∙ ap (λ y. y * 2 ^ (b + 1)) w.0, w.1)
    where
      by : (x : Bool) (k w : ℕ) → k * (w * 2) + (if x then w else 0) ≡ (2 * k + digit x) * w
      by x k w = grind (arith, nat_tests)

      cancel_right : (a c : ℕ) → a * 2 ^ b ≡ c * 2 ^ b → a ≡ c
      cancel_right a c e = grind (arith, nat_tests, div-mul-add, pow_pos)

      halves : (x y : Bool) (j : ℕ) → 2 * k + digit x ≡ 2 * j + digit y → (k ≡ j) × (x ≡ y)
      halves true true j e = (omega (arith, e), refl)
      halves false false j e = (omega (arith, e), refl)
      halves true false j e = absurd (omega (arith, e))
      halves false true j e = absurd (omega (arith, e))

  -- it stays below a power of two that is above the plane
  pub small_step : (d : ℕ) → m < 2 ^ d → (x ≡ true → b < d) → m + weight b x < 2 ^ d
  small_step d lt inside = by x inside
    where
      over : (K c e P : ℕ) → P ≡ K * c → e * K < P → e * K + K ≤ P
      over K c e P f lt = let g : e < c = below K e c (omega (arith, f, lt)) in grind arith
        where
          below : (K e c : ℕ) → e * K < K * c → e < c
          below K e c lt = grind arith

      by : (x : Bool) → (x ≡ true → b < d) → m + weight b x < 2 ^ d
      by false inside = omega (arith, lt)
      by true inside =
          let low : b < d = inside refl in
          let parts : 2 ^ d ≡ 2 ^ (b + 1) * 2 ^ (d - (b + 1)) = (let s : d ≡ (b + 1) + (d - (b + 1)) = omega (arith, low) in ap (λ n. 2 ^ n) s ∙
          pow-add 2 (b + 1) (d - (b + 1))) in
          let room : k * 2 ^ (b + 1) + 2 ^ (b + 1) ≤ 2 ^ d = over (2 ^ (b + 1)) (2 ^ (d - (b + 1))) k (2 ^ d) parts (subst (λ y. y < 2 ^ d) is lt) in
          let half : 2 ^ (b + 1) ≡ 2 ^ b * 2 = doubled b in
          let some = pow_pos b in
          omega (arith, is, room, half, some)

-- a multiple of a smaller power of two stays one
pub multiple_step : (b s part m : ℕ) (x : Bool) → m ≡ 2 ^ s * part → (x ≡ true → s ≤ b) → (k : ℕ) × (m + weight b x ≡ 2 ^ s * k)
multiple_step b s part m false e inside = (part, (let z : m + 0 ≡ m = omega arith in z) ∙ e)
multiple_step b s part m true e inside =
    let le : s ≤ b = inside refl in
    let f : 2 ^ b ≡ 2 ^ s * 2 ^ (b - s) = (let z : b ≡ s + (b - s) = omega (arith, le) in ap (λ n. 2 ^ n) z ∙ pow-add 2 s (b - s)) in
    (part + 2 ^ (b - s), ap (λ y. m + y) f ∙ ap (λ y. y + 2 ^ s * 2 ^ (b - s)) e ∙ both (2 ^ s) part (2 ^ (b - s)))
  where
    both : (w x y : ℕ) → w * x + w * y ≡ w * (x + y)
    both w x y = omega arith

-- ---- DC numbers

-- no bit below place k
abbrev pub IsWhole : (k : ℕ) → ℤ → Type 0
IsWhole k z = (y : ℤ) × (z ≡ y *ℤ pos (2 ^ k))

pub shr_more : (z : ℤ) (m n : ℕ) → int_shr z (m + n) ≡ int_shr (int_shr z m) n
shr_more (pos a) m n = ap pos (sym (shr-shr a m n))
shr_more (negsuc a) m n = ap negsuc (sym (shr-shr a m n))

pub twos : (z : ℤ) (b : ℕ) → twos_bit z b ≡ (complement 1 (int_shr z b) == 1)
twos z b = grind (arith, nat_tests)

-- from a place on the bits are the same if they are from a lower one on
pub same_from : (y z : ℤ) (k c : ℕ) → int_shr y k ≡ int_shr z k → k ≤ c → int_shr y c ≡ int_shr z c
same_from y z k c e le =
    let f : c ≡ k + (c - k) = omega (arith, le) in
    ap (int_shr y) f ∙ shr_more y k (c - k) ∙ ap (λ x. int_shr x (c - k)) e ∙ sym (shr_more z k (c - k)) ∙ ap (int_shr z) (sym f)

module _ (z : ℤ) (b : ℕ) (x : Bool) (whole : IsWhole (b + 1) z) where
  abbrev now : ℤ
  now = z +ℤ pos (weight b x)

  pub value : now ≡ twice whole.0 (digit x) *ℤ pos (2 ^ b)
  value =
      let two : 2 ^ (b + 1) ≡ 2 * 2 ^ b = doubled b ∙ (let y : 2 ^ b * 2 ≡ 2 * 2 ^ b = omega arith in y) in
      ap (λ y. y +ℤ pos (weight b x)) (whole.1 ∙ ap (λ y. whole.0 *ℤ pos y) two) ∙ ap (λ y. (whole.0 *ℤ pos (2 * 2 ^ b)) +ℤ y) (weight_is x) ∙
      step_value whole.0 (digit x) (2 ^ b) (few x)
    where
      few : (x : Bool) → digit x < 2
      few true = omega arith
      few false = omega arith

      weight_is : (x : Bool) → pos (weight b x) ≡ pos (digit x) *ℤ pos (2 ^ b)
      weight_is x = grind (arith, nat_tests)

  pub whole_step : IsWhole b now
  whole_step = (twice whole.0 (digit x), value)

  here : int_shr now b ≡ twice whole.0 (digit x)
  here = ap (λ y. int_shr y b) value ∙ shr_multiple (twice whole.0 (digit x)) b

  parts : (whole.0 ≡ int_shr now (suc b)) × (digit x ≡ complement 1 (int_shr now b))
  parts = twice_same whole.0 (int_shr now (suc b)) (digit x) (complement 1 (int_shr now b)) (few x) (bit_below (int_shr now b)) (sym here ∙ shr_step now b)
    where
      few : (x : Bool) → digit x < 2
      few true = omega arith
      few false = omega arith

  pub above_same : int_shr now (b + 1) ≡ int_shr z (b + 1)
  above_same =
      let e : b + 1 ≡ suc b = omega arith in
      ap (int_shr now) e ∙ sym parts.0 ∙ sym (shr_multiple whole.0 (b + 1)) ∙ ap (λ y. int_shr y (b + 1)) (sym whole.1)

  -- another number with the same bits from the plane up has this bit of the plane
  pub bit_back : (v : ℤ) → int_shr v b ≡ int_shr now b → twos_bit v b ≡ x
  bit_back v e = twos v b ∙ ap (λ y. complement 1 y == 1) e ∙ ap (λ n. n == 1) (sym parts.1) ∙ is x
    where
      is : (x : Bool) → (digit x == 1) ≡ x
      is x = grind (arith, nat_tests)

below_zero : (x n : ℕ) → neg_ℤ (pos x) *ℤ pos n ≡ neg_ℤ (pos (x * n))
below_zero zero n = let e : 0 * n ≡ 0 = omega arith in ap pos e ∙ sym (ap (λ x. neg_ℤ (pos x)) e)
below_zero (suc y) n = refl

pub whole_lower : (z : ℤ) (c s : ℕ) → s ≤ c → IsWhole c z → IsWhole s z
whole_lower z c s le w =
    let f : c ≡ (c - s) + s = omega (arith, le) in
    (w.0 *ℤ pos (2 ^ (c - s)), w.1 ∙ ap (λ n. w.0 *ℤ pos n) (ap (λ n. 2 ^ n) f ∙ pow-add 2 (c - s) s) ∙ sym (assoc w.0 (2 ^ (c - s)) (2 ^ s)))
  where
    assoc : (z : ℤ) (m n : ℕ) → (z *ℤ pos m) *ℤ pos n ≡ z *ℤ pos (m * n)
    assoc (pos a) m n = ap pos (let e : a * m * n ≡ a * (m * n) = omega arith in e)
    assoc (negsuc a) m n = below_zero (suc a * m) n ∙ ap (λ x. neg_ℤ (pos x)) (let e : suc a * m * n ≡ suc a * (m * n) = grind arith in e)

pub whole_size : (z : ℤ) (k : ℕ) → (w : IsWhole k z) → unsigned_abs z ≡ 2 ^ k * unsigned_abs w.0
whole_size z k w = grind (arith, nat_tests, negsuc, ints)

-- a number of this magnitude is its own part from the place on
pub whole_part : (z : ℤ) (k part : ℕ) → unsigned_abs z ≡ 2 ^ k * part → z ≡ int_shr z k *ℤ pos (2 ^ k)
whole_part z k part e = let w = multiple z e in w.1 ∙ ap (λ y. y *ℤ pos (2 ^ k)) (sym (shr_multiple w.0 k) ∙ ap (λ y. int_shr y k) (sym w.1))
  where
    multiple : (z : ℤ) → unsigned_abs z ≡ 2 ^ k * part → IsWhole k z
    multiple (pos a) e = (pos part, ap pos (e ∙ (let f : 2 ^ k * part ≡ part * 2 ^ k = omega arith in f)))
    multiple (negsuc a) e =
        let f : suc a ≡ part * 2 ^ k = e ∙ (let g : 2 ^ k * part ≡ part * 2 ^ k = omega arith in g) in
        (neg_ℤ (pos part), ap (λ x. neg_ℤ (pos x)) f ∙ sym (below_zero part (2 ^ k)))

-- a DC with its bit of the plane is the DC from that bit up
pub dc_step : (z v : ℤ) (b : ℕ) (x : Bool) → z ≡ int_shr v (b + 1) *ℤ pos (2 ^ (b + 1)) → x ≡ twos_bit v b →
    z +ℤ pos (weight b x) ≡ int_shr v b *ℤ pos (2 ^ b)
dc_step z v b x is e =
    let f : suc b ≡ b + 1 = omega arith in
    value z b x (int_shr v (b + 1), is) ∙
    ap (λ y. y *ℤ pos (2 ^ b)) (ap (twice (int_shr v (b + 1))) (ap digit (e ∙ twos v b) ∙ one (complement 1 (int_shr v b)) (bit_below (int_shr v b))) ∙
    ap (λ n. twice (int_shr v n) (complement 1 (int_shr v b))) (sym f) ∙ sym (shr_step v b))
  where
    one : (n : ℕ) → n < 2 → digit (n == 1) ≡ n
    one zero lt = refl
    one (suc zero) lt = refl
    one (suc (suc n)) lt = absurd (omega (arith, lt))
