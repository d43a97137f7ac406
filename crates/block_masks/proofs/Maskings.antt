-- Masks of masks, bit by bit.
use Rattle.std.proofs.Common.{◌≡◌, ℕ, zero, suc, ◌+◌, ◌-◌, ◌*◌, ◌/◌, ◌%◌, ◌<◌, ◌≤◌, ◌^◌, inl, inr, min, max, Bool, true, false, not, ◌&&◌, ◌||◌, nat_eq}
use Rattle.std.proofs.Common.{bit_and, bit_or, bit_xor, ap, sym, ◌∙◌, subst, arith, w64, shr-shr, eq-zero-or-pos, add-one, ◌==◌}
use Rattle.std.specs.Int.{trailing_zeros}
use Rattle.std.specs.List.{list_any}
use Rattle.std.proofs.Math.Bool.{and-true}
use Rattle.std.proofs.lemmas.Bool.{cases_lt}
use Rattle.std.proofs.lemmas.Nat.{and_le_l, and_le_r, xor_lt, or_lt, and_mask, one_shl, mod_below, pow_pos, shl_whole, or_shifted, pow-add, mul-add-lt}
use Rattle.std.proofs.lemmas.Nat.Bits.{bit_at_and, bit_at_xor, bit_at_or, bit_at_cat_low, bit_at_cat_high, bit_at-trailing_zeros, bit_at-zero, bit_at_ones}
use Rattle.std.proofs.lemmas.Nat.Bits.{bit_at_above}
use Rattle.std.proofs.lemmas.Bool.Decides.{nat_tests}
use Rattle.item_defs.specs.Bits.{bit}
use Rattle.plane_defs.specs.Spans.{span}
use Rattle.plane_defs.proofs.SpanLists.{list_any-span-suc, list_any-span-none}
use Rattle.plane_defs.proofs.Determined.{list_any-span-here}
use Rattle.block_masks.specs.Masks.{Shows}

both_ones : (x y : ℕ) → x < 2 → y < 2 → (min x y == 1) ≡ ((x == 1) && (y == 1))
both_ones x y hx hy = grind (arith, nat_tests)

only_second : (x y : ℕ) → x < 2 → y < 2 → ((y + min x y) % 2 == 1) ≡ (not (x == 1) && (y == 1))
only_second x y hx hy = grind (arith, nat_tests)

pub bit_both : (a b k : ℕ) → bit (bit_and a b) k ≡ (bit a k && bit b k)
bit_both a b k = ap (λ n. n == 1) (bit_at_and a b k) ∙ both_ones (a / 2 ^ k % 2) (b / 2 ^ k % 2) (omega arith) (omega arith)

either_one : (x y : ℕ) → x < 2 → y < 2 → (max x y == 1) ≡ ((x == 1) || (y == 1))
either_one x y hx hy = grind (arith, nat_tests)

pub bit_either : (a b k : ℕ) → bit (bit_or a b) k ≡ (bit a k || bit b k)
bit_either a b k = ap (λ n. n == 1) (bit_at_or a b k) ∙ either_one (a / 2 ^ k % 2) (b / 2 ^ k % 2) (omega arith) (omega arith)

bit_beside : (a b k : ℕ) → bit (bit_xor b (bit_and a b)) k ≡ (not (bit a k) && bit b k)
bit_beside a b k = grind (arith, nat_tests, bit_at_xor, bit_and, bit_at_and, only_second)

module _ {a b start count : ℕ} {f g : ℕ → Bool} where
  pub shows_both : Shows a f start count → Shows b g start count → Shows (bit_and a b) (λ p. f p && g p) start count
  shows_both p q = record {
    at = λ k below. bit_both a b k ∙ ap (λ x. x && bit b k) (p.at k below) ∙ ap (λ y. f (start + k) && y) (q.at k below);
    small = let le : bit_and a b ≤ a = and_le_l a b in omega (arith, le, p.small);
  }

  pub shows_either : Shows a f start count → Shows b g start count → Shows (bit_or a b) (λ p. f p || g p) start count
  shows_either p q = record {
    at = λ k below. bit_either a b k ∙ ap (λ x. x || bit b k) (p.at k below) ∙ ap (λ y. f (start + k) || y) (q.at k below);
    small = or_lt count a b p.small q.small;
  }

  pub shows_beside : Shows a f start count → Shows b g start count → Shows (bit_xor b (bit_and a b)) (λ p. not (f p) && g p) start count
  shows_beside p q = record {
    at = λ k below. bit_beside a b k ∙ ap (λ x. not x && bit b k) (p.at k below) ∙ ap (λ y. not (f (start + k)) && y) (q.at k below);
    small = let le : bit_and a b ≤ a = and_le_l a b in xor_lt count b (bit_and a b) q.small (omega (arith, le, p.small));
  }

-- ---- some positions of a mask, and two masks side by side

bit_low : (m n k : ℕ) → k < n → bit (m % 2 ^ n) k ≡ bit m k
bit_low m n k low = ap (λ x. bit x k) (sym (and_mask m n)) ∙ bit_both m (2 ^ n - 1) k ∙ ap (λ x. bit m k && (x == 1)) (bit_at_ones n k low) ∙ and-true (bit m k)

-- the part as the code makes it
pub part_is : (mask at n : ℕ) → n < 64 → bit_and (mask / 2 ^ at) ((1 * 2 ^ n) % 2 ^ 64 - 1) ≡ mask / 2 ^ at % 2 ^ n
part_is mask at n lt = ap (λ m. bit_and (mask / 2 ^ at) (m - 1)) (one_shl n 64 lt) ∙ and_mask (mask / 2 ^ at) n

pub part_within : (mask at n : ℕ) → n < 64 → bit_and (mask / 2 ^ at) ((1 * 2 ^ n) % 2 ^ 64 - 1) < 2 ^ n
part_within mask at n lt = rw (part_is mask at n lt) (mod_below (mask / 2 ^ at) (2 ^ n) (pow_pos n))

pub shows_part : {mask start whole : ℕ} {f : ℕ → Bool} (at n : ℕ) → n < 64 → Shows mask f start whole → at + n ≤ whole →
    Shows (bit_and (mask / 2 ^ at) ((1 * 2 ^ n) % 2 ^ 64 - 1)) f (start + at) n
shows_part {mask} {start} {whole} {f} at n lt p within = record {
  at = λ k low.
      let there : start + (at + k) ≡ (start + at) + k = omega arith in
      ap (λ x. bit x k) (part_is mask at n lt) ∙ bit_low (mask / 2 ^ at) n k low ∙ ap (λ n. n % 2 == 1) (shr-shr mask at k) ∙ p.at (at + k) (omega arith)
      ∙ ap f there;
  small = part_within mask at n lt;
}

joined_is : {low high : ℕ} (at : ℕ) → at < 64 → low < 2 ^ at → high < 2 ^ (64 - at) → bit_or ((high * 2 ^ at) % 2 ^ 64) low ≡ high * 2 ^ at + low
joined_is {low} {high} at lt fits room = ap (λ x. bit_or x low) (shl_whole high (64 - at) at 64 room (omega arith)) ∙ or_shifted high at low fits

pub joined_within : {low high : ℕ} (at n : ℕ) → at < 64 → low < 2 ^ at → high < 2 ^ (64 - at) → high < 2 ^ n →
    bit_or ((high * 2 ^ at) % 2 ^ 64) low < 2 ^ (at + n)
joined_within at n lt fits room small = grind (arith, nat_tests, pow-add, joined_is, mul-add-lt)

pub shows_joined : {low high start n : ℕ} {f : ℕ → Bool} (at : ℕ) → at < 64 → low < 2 ^ at → high < 2 ^ (64 - at) → Shows low f start at →
    Shows high f (start + at) n → Shows (bit_or ((high * 2 ^ at) % 2 ^ 64) low) f start (at + n)
shows_joined {low} {high} {start} {n} {f} at lt fits room p q = record {
  at = λ k below. ap (λ x. bit x k) (joined_is at lt fits room) ∙ elim (cases_lt k at) [
    | inl h ↦ ap (λ x. x == 1) (bit_at_cat_low high at low k h) ∙ p.at k h
    | inr h ↦
        let there : (start + at) + (k - at) ≡ start + k = omega arith in
        ap (λ x. x == 1) (bit_at_cat_high high at low k fits h) ∙ q.at (k - at) (omega arith) ∙ ap f there
  ];
  small = joined_within at n lt fits room q.small;
}

pub beside_within : (a b n : ℕ) → b < 2 ^ n → bit_xor b (bit_and a b) < 2 ^ n
beside_within a b n fits = let le : bit_and a b ≤ b = and_le_r a b in xor_lt n b (bit_and a b) fits (omega arith)

-- ---- some position

none_there : (f : ℕ → Bool) (start count : ℕ) → ((k : ℕ) → k < count → f (start + k) ≡ false) → list_any f (span start count) ≡ false
none_there f start zero none = list_any-span-none f start
none_there f start (suc count) none =
    let step : list_any f (span start (count + 1)) ≡ false =
    list_any-span-suc f start count ∙ ap (λ b. b || f (start + count)) (none_there f start count (λ k below. none k (omega arith)))
    ∙ none count (omega arith) in
    subst (λ n. list_any f (span start n) ≡ false) (add-one count) step

pub any_shown : {mask start count : ℕ} {f : ℕ → Bool} → mask < 2 ^ 64 → Shows mask f start count → not (nat_eq mask 0) ≡ list_any f (span start count)
any_shown {mask} {start} {count} {f} fits p =
    elim (eq-zero-or-pos mask) [
      | inl none ↦
          let empty : not (nat_eq mask 0) ≡ false = grind arith in
          empty ∙ sym (none_there f start count (λ k below. sym (p.at k below) ∙ ap (λ m. m / 2 ^ k % 2 == 1) none ∙ ap (λ n. n == 1) (bit_at-zero k)))
      | inr some ↦
          let first = bit_at-trailing_zeros w64 mask some fits in
          let k = trailing_zeros w64 mask in
          let full : not (nat_eq mask 0) ≡ true = grind arith in
          let below : k < count = within k (first.1) in
          full ∙ sym (list_any-span-here f start count k below (sym (p.at k below) ∙ ap (λ n. n == 1) first.1))
    ]
  where
    within : (k : ℕ) → mask / 2 ^ k % 2 ≡ 1 → k < count
    within k set = elim (cases_lt k count) [ inl h ↦ h | inr h ↦ let none = bit_at_above mask count k p.small h in absurd (omega (arith, set, none)) ]
