-- The groups that have bits.
use Rattle.std.proofs.Common.{◌≡◌, ℕ, ◌+◌, ◌*◌, ◌<◌, ◌≤◌, ◌^◌, Bool, true, false, ◌&&◌, ◌||◌, refl, ap, sym, ◌∙◌, arith, ◌==◌, pow_pos}
use Rattle.std.specs.List.{list_any}
use Rattle.std.proofs.lemmas.Nat.Bits.{bit_at_above}
use Rattle.std.proofs.lemmas.Bool.Decides.{nat_tests}
use Rattle.item_defs.specs.Bits.{bit}
use Rattle.plane_defs.specs.Spans.{span}
use Rattle.plane_defs.proofs.Determined.{list_any-span-here}
use Rattle.plane_defs.proofs.Tables.{and-left}
use Rattle.block_masks.specs.Masks.{Shows}
use Rattle.plane_reader.specs.Groups.{Covers}
use Rattle.plane_reader.proofs.SmallTests.{never}
use Rattle.plane_reader.proofs.SmallTests.{neither_left, neither_right}

-- whether a type of group n is due
abbrev due_in : ℕ → ℕ → ℕ → Bool
due_in first due n = list_any (bit due) (span (first + 4 * n) 4)

right_none : (a b : Bool) → (a && b) ≡ false → a ≡ true → b ≡ false
right_none a b e h = grind (arith, nat_tests, never)

none_there : (f : ℕ → Bool) (start count : ℕ) → list_any f (span start count) ≡ false → (k : ℕ) → k < count → f (start + k) ≡ false
none_there f start count none k lt = by_test (f (start + k)) refl
  where
    by_test : (b : Bool) → f (start + k) ≡ b → b ≡ false
    by_test true e = absurd (never (sym (list_any-span-here f start count k lt e) ∙ none))
    by_test false e = refl

pub covers_with : {first count due now_mask wanted_mask either result : ℕ} {now wanted : ℕ → Bool} (some : ℕ) → count ≤ 4 → Shows now_mask now 0 count →
    Shows wanted_mask wanted 0 count →
    Shows result (λ p. bit now_mask p && bit either p) 0 64 → Shows either (λ p. bit some p || bit wanted_mask p) 0 64 → ((n : ℕ) → n < 4 →
    bit some n ≡ due_in first due n) → result < 2 ^ count → Covers first count now wanted due result
covers_with {first} {count} {due} {now_mask} {wanted_mask} {either} {result} {now} {wanted} some few now_shown wanted_shown both_shown either_shown some_known
    small = record {
      small = small;
      sent = λ n lt h. sym (now_is n lt) ∙ and-left (bit now_mask n) (bit either n) (sym (both_is n lt) ∙ h);
      others = λ n lt h is_sent.
          let neither = sym (either_is n lt) ∙ right_none (bit now_mask n) (bit either n) (sym (both_is n lt) ∙ h) (now_is n lt ∙ is_sent) in
          record {
            unwanted = sym (wanted_is n lt) ∙ neither_right (bit some n) (bit wanted_mask n) neither;
            none = record {
              at = λ k below. zero_bit k ∙ sym (none_there (bit due) (first + 4 * n) 4 (sym (some_is n lt) ∙ neither_left (bit some n)
                  (bit wanted_mask n) neither) k below);
              small = pow_pos 4;
            };
          };
    }
  where
    zero_bit : (k : ℕ) → bit 0 k ≡ false
    zero_bit k = ap (λ x. x == 1) (bit_at_above 0 0 k (omega arith) (omega arith))

    there : (n : ℕ) → 0 + n ≡ n
    there n = omega arith

    now_is : (n : ℕ) → n < count → bit now_mask n ≡ now n
    now_is n lt = now_shown.at n lt ∙ ap now (there n)

    wanted_is : (n : ℕ) → n < count → bit wanted_mask n ≡ wanted n
    wanted_is n lt = wanted_shown.at n lt ∙ ap wanted (there n)

    both_is : (n : ℕ) → n < count → bit result n ≡ (bit now_mask n && bit either n)
    both_is n lt = both_shown.at n (omega (arith, lt, few)) ∙ ap (λ p. bit now_mask p && bit either p) (there n)

    either_is : (n : ℕ) → n < count → bit either n ≡ (bit some n || bit wanted_mask n)
    either_is n lt = either_shown.at n (omega (arith, lt, few)) ∙ ap (λ p. bit some p || bit wanted_mask p) (there n)

    some_is : (n : ℕ) → n < count → bit some n ≡ due_in first due n
    some_is n lt = some_known n (omega (arith, lt, few))
