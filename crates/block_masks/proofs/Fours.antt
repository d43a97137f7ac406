-- Which fours of positions have a member in a mask.
use Rattle.std.proofs.Common.{◌≡◌, ℕ, zero, suc, ◌+◌, ◌*◌, ◌/◌, ◌%◌, ◌^◌, ◌<◌, Bool, true, false, ◌&&◌, ◌||◌, bit_and, bit_or, refl, ap, sym, ◌∙◌, arith}
use Rattle.std.proofs.Common.{shr-shr, ◌==◌}
use Rattle.std.specs.List.{list_any}
use Rattle.std.proofs.lemmas.Bool.Decides.{nat_tests}
use Rattle.std.proofs.Math.Bool.{or-false}
use Rattle.item_defs.specs.Bits.{bit}
use Rattle.plane_defs.specs.Spans.{span}
use Rattle.plane_defs.proofs.SpanLists.{list_any-span-suc, list_any-span-none}
use Rattle.block_masks.proofs.Maskings.{bit_both, bit_either}

bit_up : (m s k : ℕ) → bit (m / 2 ^ s) k ≡ bit m (s + k)
bit_up m s k = ap (λ n. n % 2 == 1) (shr-shr m s k)

abbrev pairs_in : ℕ → ℕ
pairs_in here = bit_or here (here / 2)

pair_bit : (here k : ℕ) → bit (pairs_in here) k ≡ (bit here k || bit here (1 + k))
pair_bit here k = bit_either here (here / 2) k ∙ ap (λ t. bit here k || t) (bit_up here 1 k)

abbrev any_in : ℕ → ℕ
any_in here = bit_or (pairs_in here) (pairs_in here / 4)

any_bit : (here k : ℕ) → bit (any_in here) k ≡ ((bit here k || bit here (1 + k)) || (bit here (2 + k) || bit here (1 + (2 + k))))
any_bit here k =
    bit_either (pairs_in here) (pairs_in here / 4) k ∙ ap (λ t. t || bit (pairs_in here / 4) k) (pair_bit here k)
    ∙ ap (λ t. (bit here k || bit here (1 + k)) || t) (bit_up (pairs_in here) 2 k ∙ pair_bit here (2 + k))

-- the first bits of the fours
abbrev firsts_in : ℕ → ℕ
firsts_in here = bit_and (any_in here) 4369

and_true : (b : Bool) → (b && true) ≡ b
and_true b = grind (arith, nat_tests)

and_false : (b : Bool) → (b && false) ≡ false
and_false b = grind (arith, nat_tests)

first_there : (here k : ℕ) → bit 4369 k ≡ true → bit (firsts_in here) k ≡ bit (any_in here) k
first_there here k e = bit_both (any_in here) 4369 k ∙ ap (λ t. bit (any_in here) k && t) e ∙ and_true (bit (any_in here) k)

first_none : (here k : ℕ) → bit 4369 k ≡ false → bit (firsts_in here) k ≡ false
first_none here k e = bit_both (any_in here) 4369 k ∙ ap (λ t. bit (any_in here) k && t) e ∙ and_false (bit (any_in here) k)

regrouped : (a b c d : Bool) → ((a || b) || (c || d)) ≡ (((a || b) || c) || d)
regrouped a b c d = grind (arith, nat_tests)

abbrev near_in : ℕ → ℕ
near_in x = bit_or x (x / 8)

near_bit : (x j : ℕ) → bit (near_in x) j ≡ (bit x j || bit x (3 + j))
near_bit x j = bit_either x (x / 8) j ∙ ap (λ t. bit x j || t) (bit_up x 3 j)

abbrev together : ℕ → ℕ
together x = bit_or (near_in x) (near_in x / 64)

together_bit : (x j : ℕ) → bit (together x) j ≡ (((bit x j || bit x (3 + j)) || bit x (6 + j)) || bit x (3 + (6 + j)))
together_bit x j =
    bit_either (near_in x) (near_in x / 64) j ∙ ap (λ t. t || bit (near_in x / 64) j) (near_bit x j)
    ∙ ap (λ t. (bit x j || bit x (3 + j)) || t) (bit_up (near_in x) 6 j ∙ near_bit x (6 + j)) ∙ regrouped (bit x j) (bit x (3 + j)) (bit x (6 + j))
    (bit x (3 + (6 + j)))

abbrev pub fours_in : ℕ → ℕ
fours_in here = bit_and (together (firsts_in here)) 15

joined : {a b c d : Bool} (p q r s : Bool) → a ≡ p → b ≡ q → c ≡ r → d ≡ s → (((a || b) || c) || d) ≡ (((p || q) || r) || s)
joined {a} {b} {c} {d} p q r s e f g h = ap (λ t. ((t || b) || c) || d) e ∙ ap (λ t. ((p || t) || c) || d) f ∙ ap (λ t. ((p || q) || t) || d) g
    ∙ ap (λ t. ((p || q) || r) || t) h

first_of_four : (b : Bool) → (((b || false) || false) || false) ≡ b
first_of_four b = grind (arith, nat_tests)

four_bit : (here j : ℕ) → j < 4 → bit (fours_in here) j ≡ bit (any_in here) (4 * j)
four_bit here zero lt =
    let x = firsts_in here in let b = bit (any_in here) 0 in
    bit_both (together x) 15 0 ∙ and_true (bit (together x) 0) ∙ together_bit x 0 ∙ joined b false false false (first_there here 0 refl)
    (first_none here 3 refl) (first_none here 6 refl) (first_none here 9 refl) ∙ first_of_four b
four_bit here (suc zero) lt =
    let x = firsts_in here in let b = bit (any_in here) 4 in
    bit_both (together x) 15 1 ∙ and_true (bit (together x) 1) ∙ together_bit x 1 ∙ joined false b false false (first_none here 1 refl)
    (first_there here 4 refl) (first_none here 7 refl) (first_none here 10 refl) ∙ or-false (b || false) ∙ or-false b
four_bit here (suc (suc zero)) lt =
    let x = firsts_in here in let b = bit (any_in here) 8 in
    bit_both (together x) 15 2 ∙ and_true (bit (together x) 2) ∙ together_bit x 2 ∙ joined false false b false (first_none here 2 refl)
    (first_none here 5 refl) (first_there here 8 refl) (first_none here 11 refl) ∙ or-false b
four_bit here (suc (suc (suc zero))) lt =
    let x = firsts_in here in let b = bit (any_in here) 12 in
    bit_both (together x) 15 3 ∙ and_true (bit (together x) 3) ∙ together_bit x 3 ∙ joined false false false b (first_none here 3 refl)
    (first_none here 6 refl) (first_none here 9 refl) (first_there here 12 refl)
four_bit here (suc (suc (suc (suc j)))) lt = absurd (omega (arith, lt))

four_any : (f : ℕ → Bool) (s : ℕ) → list_any f (span s 4) ≡ (((f (s + 0) || f (s + 1)) || f (s + 2)) || f (s + 3))
four_any f s =
    list_any-span-suc f s 3 ∙ ap (λ t. t || f (s + 3))
    (list_any-span-suc f s 2 ∙ ap (λ t. t || f (s + 2))
    (list_any-span-suc f s 1 ∙ ap (λ t. t || f (s + 1)) (list_any-span-suc f s 0 ∙ ap (λ t. t || f (s + 0)) (list_any-span-none f s))))

-- a four has a member exactly if its first bit is set
pub four_known : (mask at j : ℕ) → j < 4 → bit (fours_in (mask / 2 ^ at)) j ≡ list_any (bit mask) (span (at + 4 * j) 4)
four_known mask at j lt =
    let here = mask / 2 ^ at in
    let n = 4 * j in
    let s = at + n in
    let e0 : at + n ≡ s + 0 = omega arith in
    let e1 : at + (1 + n) ≡ s + 1 = omega arith in
    let e2 : at + (2 + n) ≡ s + 2 = omega arith in
    let e3 : at + (1 + (2 + n)) ≡ s + 3 = omega arith in
    four_bit here j lt ∙ any_bit here n ∙ regrouped (bit here n) (bit here (1 + n)) (bit here (2 + n)) (bit here (1 + (2 + n)))
    ∙ joined (bit mask (s + 0)) (bit mask (s + 1)) (bit mask (s + 2)) (bit mask (s + 3)) (bit_up mask at n ∙ ap (bit mask) e0)
    (bit_up mask at (1 + n) ∙ ap (bit mask) e1) (bit_up mask at (2 + n) ∙ ap (bit mask) e2) (bit_up mask at (1 + (2 + n)) ∙ ap (bit mask) e3)
    ∙ sym (four_any (bit mask) s)
