-- A mask to which nothing is added.
use Rattle.std.proofs.Common.{◌≡◌, ℕ, ◌+◌, ◌<◌, ◌^◌, ◌&&◌, ◌||◌, false, ap, ◌∙◌, arith, ◌==◌}
use Rattle.std.proofs.lemmas.Bool.Decides.{nat_tests}
use Rattle.std.specs.Int.{bit_at}
use Rattle.std.proofs.Math.Bool.{and-false, or-false}
use Rattle.std.proofs.lemmas.Nat.Bits.{same_from_bits_below, bit_at-lt}
use Rattle.item_defs.specs.Bits.{bit}
use Rattle.block_masks.specs.Masks.{Shows}
use Rattle.block_masks.specs.Places.{inside}

pub nothing_added : (old new start : ℕ) → old < 2 ^ 64 → Shows new (λ p. bit old p || (inside start 0 p && false)) 0 64 → new ≡ old
nothing_added old new start fits shown = same_from_bits_below 64 new old shown.small fits (λ i lt. same_digit (bit_at new i) (bit_at old i) (bit_at-lt new i)
    (bit_at-lt old i) (same i lt))
  where
    same_digit : (a b : ℕ) → a < 2 → b < 2 → (a == 1) ≡ (b == 1) → a ≡ b
    same_digit a b low small e = grind (arith, nat_tests)

    same : (i : ℕ) → i < 64 → bit new i ≡ bit old i
    same i lt = let there : 0 + i ≡ i = omega arith in shown.at i lt ∙ ap (λ p. bit old p || (inside start 0 p && false)) there ∙
        ap (λ t. bit old i || t) (and-false (inside start 0 i)) ∙ or-false (bit old i)
