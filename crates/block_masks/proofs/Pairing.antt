-- Octets of four positions of each of two masks.
use Rattle.std.proofs.Common.{◌≡◌, ◌<◌, ◌≤◌, ℕ, zero, suc, ◌+◌, ◌*◌, ◌/◌, ◌%◌, ◌^◌, Bool, true, ◌==◌, bit_and, refl, ap, sym, ◌∙◌, subst, arith}
use Rattle.std.specs.List.{list_all}
use Rattle.std.proofs.lemmas.Bool.{eqb-true}
use Rattle.std.proofs.lemmas.Nat.{and_shr, and_mod, and_mask, shr-shr}
use Rattle.std.proofs.Math.Pow.{mod-mod-pow}
use Rattle.plane_defs.specs.Spans.{span}
use Rattle.plane_defs.proofs.Tables.{list_all-span-zero}
use Rattle.block_masks.specs.Masks.{Shows}
use Rattle.block_masks.specs.Paired.{AreOctets}
use Rattle.block_masks.proofs.Maskings.{part_is, shows_part}
use Rattle.block_masks.proofs.Viewing.{from_zero}

-- the first four of each eight positions
abbrev pub firsts : ℕ
firsts = 0x0f0f_0f0f_0f0f_0f0f

all_firsts : list_all (λ j. firsts / 2 ^ (8 * j) % 2 ^ 8 == 15) (span 0 8) ≡ true
unfolding span
all_firsts = refl

firsts_at : (j : ℕ) → j < 8 → firsts / 2 ^ (8 * j) % 2 ^ 8 ≡ 15
firsts_at j low = eqb-true _ _ (list_all-span-zero (λ j. firsts / 2 ^ (8 * j) % 2 ^ 8 == 15) 8 j all_firsts low)

fours_at : (x j : ℕ) → j < 8 → bit_and x firsts / 2 ^ (8 * j) % 2 ^ 8 ≡ x / 2 ^ (8 * j) % 2 ^ 4
fours_at x j low =
    ap (λ n. n % 2 ^ 8) (and_shr x firsts (8 * j)) ∙ and_mod (x / 2 ^ (8 * j)) (firsts / 2 ^ (8 * j)) 8 ∙
    ap (bit_and (x / 2 ^ (8 * j) % 2 ^ 8)) (firsts_at j low) ∙ and_mask (x / 2 ^ (8 * j) % 2 ^ 8) 4 ∙ mod-mod-pow (x / 2 ^ (8 * j)) 4 4

next_octet : (x j : ℕ) → x / 2 ^ 8 / 2 ^ (8 * j) ≡ x / 2 ^ (8 * suc j)
next_octet x j = let e : 8 + 8 * j ≡ 8 * suc j = omega arith in shr-shr x 8 (8 * j) ∙ ap (λ n. x / 2 ^ n) e

octet_joined : (j a b : ℕ) → ((i : ℕ) → i ≤ j → a / 2 ^ (8 * i) % 2 ^ 8 < 16) → ((i : ℕ) → i ≤ j → b / 2 ^ (8 * i) % 2 ^ 8 < 16) →
    (16 * a + b) / 2 ^ (8 * j) % 2 ^ 8 ≡ 16 * (a / 2 ^ (8 * j) % 2 ^ 8) + b / 2 ^ (8 * j) % 2 ^ 8
octet_joined zero a b low_a low_b =
    let first : a / 2 ^ (8 * 0) % 2 ^ 8 < 16 = low_a 0 (omega arith) in
    let second : b / 2 ^ (8 * 0) % 2 ^ 8 < 16 = low_b 0 (omega arith) in
    omega (arith, first, second)
octet_joined (suc j) a b low_a low_b =
    let first : a / 2 ^ (8 * 0) % 2 ^ 8 < 16 = low_a 0 (omega arith) in
    let second : b / 2 ^ (8 * 0) % 2 ^ 8 < 16 = low_b 0 (omega arith) in
    let apart : (16 * a + b) / 2 ^ 8 ≡ 16 * (a / 2 ^ 8) + b / 2 ^ 8 = omega (arith, first, second) in
    let rest = octet_joined j (a / 2 ^ 8) (b / 2 ^ 8)
    (λ i le. subst (λ n. n % 2 ^ 8 < 16) (sym (next_octet a i)) (low_a (suc i) (omega (arith, le))))
    (λ i le. subst (λ n. n % 2 ^ 8 < 16) (sym (next_octet b i)) (low_b (suc i) (omega (arith, le)))) in
    ap (λ n. n % 2 ^ 8) (sym (next_octet (16 * a + b) j)) ∙ ap (λ n. n / 2 ^ (8 * j) % 2 ^ 8) apart ∙ rest ∙
    ap (λ n. 16 * (n % 2 ^ 8) + b / 2 ^ 8 / 2 ^ (8 * j) % 2 ^ 8) (next_octet a j) ∙
    ap (λ n. 16 * (a / 2 ^ (8 * suc j) % 2 ^ 8) + n % 2 ^ 8) (next_octet b j)

pub are_octets : (high low : ℕ) → AreOctets high low (16 * bit_and high firsts + bit_and low firsts)
are_octets high low j lt =
    let few : (x i : ℕ) → i ≤ j → bit_and x firsts / 2 ^ (8 * i) % 2 ^ 8 < 16 = λ x i le. omega (arith, fours_at x i (omega (arith, le, lt))) in
    octet_joined j (bit_and high firsts) (bit_and low firsts) (few high) (few low) ∙
    ap (λ n. 16 * n + bit_and low firsts / 2 ^ (8 * j) % 2 ^ 8) (fours_at high j lt) ∙
    ap (λ n. 16 * (high / 2 ^ (8 * j) % 2 ^ 4) + n) (fours_at low j lt)

-- four positions of a mask
pub shows_some : {mask start whole : ℕ} {f : ℕ → Bool} (at : ℕ) → at + 4 ≤ whole → Shows mask f start whole → Shows (mask / 2 ^ at % 2 ^ 4) f (start + at) 4
shows_some {mask} {start} {whole} {f} at within p =
    subst (λ m. Shows m f (start + at) 4) (part_is mask at 4 (omega arith)) (shows_part at 4 (omega arith) p within)

-- the four positions of an octet
pub shows_four : {mask : ℕ} {f : ℕ → Bool} (at shift : ℕ) → shift ≡ at → at + 4 ≤ 64 → Shows mask f 0 64 → Shows (mask / 2 ^ shift % 2 ^ 4) f at 4
shows_four {mask} {f} at shift same within p =
    subst (λ n. Shows (mask / 2 ^ n % 2 ^ 4) f at 4) (sym same) (from_zero at (shows_some at within p))

pub shows_octet : {due bits : ℕ} {f g : ℕ → Bool} (octet k shift : ℕ) → shift ≡ 4 * k → k < 16 →
    octet ≡ 16 * (due / 2 ^ shift % 2 ^ 4) + bits / 2 ^ shift % 2 ^ 4 → Shows due g 0 64 → Shows bits f 0 64 →
    (Shows (octet / 16) g (4 * k) 4) × (Shows (octet % 16) f (4 * k) 4)
shows_octet {due} {bits} {f} {g} octet k shift same low is dues ones =
    let high : due / 2 ^ shift % 2 ^ 4 ≡ octet / 16 = omega (arith, is) in
    let rest : bits / 2 ^ shift % 2 ^ 4 ≡ octet % 16 = omega (arith, is) in (
      subst (λ m. Shows m g (4 * k) 4) high (shows_four (4 * k) shift same (omega (arith, low)) dues),
      subst (λ m. Shows m f (4 * k) 4) rest (shows_four (4 * k) shift same (omega (arith, low)) ones),
    )

-- the octet of four positions of odd number
pub odd_octet : (due bits octet j : ℕ) → octet ≡ 16 * (due / 2 ^ 4 / 2 ^ (8 * j) % 2 ^ 4) + bits / 2 ^ 4 / 2 ^ (8 * j) % 2 ^ 4 →
    octet ≡ 16 * (due / 2 ^ (4 + 8 * j) % 2 ^ 4) + bits / 2 ^ (4 + 8 * j) % 2 ^ 4
odd_octet due bits octet j is =
    is ∙ ap (λ n. 16 * (n % 2 ^ 4) + bits / 2 ^ 4 / 2 ^ (8 * j) % 2 ^ 4) (shr-shr due 4 (8 * j)) ∙
    ap (λ n. 16 * (due / 2 ^ (4 + 8 * j) % 2 ^ 4) + n % 2 ^ 4) (shr-shr bits 4 (8 * j))
