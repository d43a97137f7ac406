-- The numbers that masks represent, if some masks are changed.
use Rattle.std.proofs.Common.{◌≡◌, inl, inr, ℕ, ◌+◌, ◌*◌, ◌%◌, ◌<◌, ◌≤◌, ◌^◌, max, Bool, true, not, ◌==◌, List, length, ap, sym, ◌∙◌, subst, arith, ℤ}
use Rattle.std.proofs.Common.{unsigned_abs, if◌then◌else◌}
use Rattle.std.specs.Int.{bit_at}
use Rattle.std.specs.Prelude.{bit_or}
use Rattle.std.specs.Int.Bits.{or_add_and}
use Rattle.std.proofs.lemmas.Bool.{cases_lt, cases_eq}
use Rattle.std.proofs.lemmas.Bool.Decides.{nat_tests}
use Rattle.std.proofs.lemmas.Nat.Bits.{and_pow, bit_at_or, bit_at-pow_same, bit_at-pow_other, bit_at_above, bit_at-lt, same_from_bits}
use Rattle.item_defs.specs.Bits.{bit}
use Rattle.wave_defs.specs.Held.{block_at}
use Rattle.plane_defs.specs.Entries.{negative}
use Rattle.plane_defs.specs.Sets.{magnitude}
use Rattle.plane_defs.specs.StepLaws.{IsAc}
use Rattle.block_masks.specs.Slices.{mask_in, minus_slot, number_in, numbers_in}
use Rattle.block_masks.specs.MaskedNumbers.{size_in}
use Rattle.block_masks.proofs.SliceNumbers.{ac_number, block_number}
use Rattle.block_masks.proofs.MaskedNumbers.{signed, bits_below-same, size_small, size_bit}
use Rattle.item_defs.specs.Bits.{value_of}

-- ---- a number

abs_signed : (b : Bool) (n : ℕ) → unsigned_abs (signed b n) ≡ n
abs_signed b n = grind (arith, nat_tests)

pub below_zero : (b : Bool) (n : ℕ) → (b ≡ true → 0 < n) → negative (signed b n) ≡ b
below_zero b n some = grind (arith, nat_tests)

pub ac_size : (cells : List ℤ) (r k : ℕ) → 1 ≤ k → unsigned_abs (number_in cells r k) ≡ size_in (mask_in cells r) k
ac_size cells r k first = ap unsigned_abs (ac_number cells r k first) ∙ abs_signed (bit (mask_in cells r minus_slot) k) (size_in (mask_in cells r) k)

-- the magnitude of a number of a block
pub block_size : (cells : List ℤ) (r k : ℕ) → length cells % 64 ≡ 0 → 64 * r < length cells → IsAc k → magnitude (block_at (numbers_in cells) r) k ≡ size_in
    (mask_in cells r) k
block_size cells r k whole known ac = ap unsigned_abs (block_number cells r k whole known ac.1) ∙ ac_size cells r k ac.0

-- ---- a plane's mask that gets bits

-- a bit is 0 or 1
bit_there : (n i : ℕ) → bit n i ≡ true → bit_at n i ≡ 1
bit_there n i e = grind (arith, nat_tests)

bits_alike : (a b i : ℕ) → bit a i ≡ bit b i → bit_at a i ≡ bit_at b i
bits_alike a b i e = two (bit_at a i) (bit_at b i) (bit_at-lt a i) (bit_at-lt b i) e
  where
    two : (x y : ℕ) → x < 2 → y < 2 → (x == 1) ≡ (y == 1) → x ≡ y
    two x y p q e = grind (arith, nat_tests)

max_one : (x : ℕ) → x < 2 → max x 1 ≡ 1
max_one x lt = omega arith

max_none : (x : ℕ) → max x 0 ≡ x
max_none x = omega arith

-- the weight of a bit that is missing
missing : (n plane : ℕ) → bit_at n plane * 2 ^ plane + (if not (bit n plane) then 2 ^ plane else 0) ≡ 2 ^ plane
missing n plane = grind (arith, nat_tests)

size_set : (n plane : ℕ) → bit_or n (2 ^ plane) ≡ n + (if not (bit n plane) then 2 ^ plane else 0)
size_set n plane = omega (arith, or_add_and n (2 ^ plane), and_pow n plane, missing n plane)

module _ (old new : List ℤ) (r plane k : ℕ) (low : plane < 27) (others : (p : ℕ) → p < 27 → (p ≡ plane → ⊥) → bit (mask_in new r p) k ≡ bit (mask_in
    old r p) k) where
  -- the number has the plane's bit
  pub size_given : bit (mask_in new r plane) k ≡ true → size_in (mask_in new r) k ≡ size_in (mask_in old r) k + (if not (bit (size_in (mask_in
      old r) k) plane) then 2 ^ plane else 0)
  size_given has = sym (same_from_bits (bit_or (size_in (mask_in old r) k) (2 ^ plane)) (size_in (mask_in new r) k) each) ∙ size_set (size_in (mask_in
      old r) k) plane
    where
      each : (i : ℕ) → bit_at (bit_or (size_in (mask_in old r) k) (2 ^ plane)) i ≡ bit_at (size_in (mask_in new r) k) i
      each i = elim (cases_lt i 27) [
        | inl lt ↦ elim (cases_eq i plane) [
          | inl e ↦
              subst (λ j. bit_at (bit_or (size_in (mask_in old r) k) (2 ^ plane)) j ≡ bit_at (size_in (mask_in new r) k) j) (sym e)
              (bit_at_or (size_in (mask_in old r) k) (2 ^ plane) plane ∙ ap (max (bit_at (size_in (mask_in old r) k) plane)) (bit_at-pow_same plane) ∙
              max_one (bit_at (size_in (mask_in old r) k) plane) (bit_at-lt (size_in (mask_in old r) k) plane) ∙ sym (bit_there (size_in (mask_in
              new r) k) plane (size_bit (mask_in new r) k plane low ∙ has)))
          | inr apart ↦
              bit_at_or (size_in (mask_in old r) k) (2 ^ plane) i ∙ ap (max (bit_at (size_in (mask_in old r) k) i)) (bit_at-pow_other plane i apart) ∙
              max_none (bit_at (size_in (mask_in old r) k) i) ∙
              bits_alike (size_in (mask_in old r) k) (size_in (mask_in new r) k) i (size_bit (mask_in old r) k i lt ∙ sym (others i lt apart) ∙
              sym (size_bit (mask_in new r) k i lt))
        ]
        | inr past ↦
            bit_at_or (size_in (mask_in old r) k) (2 ^ plane) i ∙ ap (max (bit_at (size_in (mask_in old r) k) i)) (bit_at-pow_other plane i (λ e. omega
            (arith, e, low, past))) ∙ max_none (bit_at (size_in (mask_in old r) k) i) ∙
            bit_at_above (size_in (mask_in old r) k) 27 i (size_small (mask_in old r) k) past ∙ sym (bit_at_above (size_in (mask_in
            new r) k) 27 i (size_small (mask_in new r) k) past)
      ]

  -- the number keeps its bits
  pub size_kept : bit (mask_in new r plane) k ≡ bit (mask_in old r plane) k → size_in (mask_in new r) k ≡ size_in (mask_in old r) k
  size_kept same = ap value_of (bits_below-same (mask_in new r) (mask_in old r) k 27 (λ p lt. elim (cases_eq p plane) [
    | inl e ↦ subst (λ j. bit (mask_in new r j) k ≡ bit (mask_in old r j) k) (sym e) same
    | inr apart ↦ others p lt apart
  ]))
