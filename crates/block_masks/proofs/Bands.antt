-- Positions of one band are coded together.
use Rattle.std.proofs.Common.{◌≡◌, ℕ, ◌+◌, ◌-◌, ◌^◌, ◌*◌, ◌%◌, ◌<◌, zero, suc, Bool, true, ◌&&◌, nat_le, List, slice_index, refl, ap, sym, ◌∙◌, subst}
use Rattle.std.proofs.Common.{arith, ◌==◌}
use Rattle.std.specs.List.{list_all, range_with_len}
use Rattle.std.proofs.lemmas.Nat.{one_shl, pow_pos}
use Rattle.std.proofs.lemmas.Nat.Bits.{bit_at_ones}
use Rattle.wave_defs.specs.Blocks.{place_of}
use Rattle.wave_defs.proofs.BlockLaws.{passes}
use Rattle.plane_defs.specs.Sets.{coded}
use Rattle.block_masks.specs.Masks.{Shows}
use Rattle.block_masks.specs.Places.{IsOneBand}

-- the same number of positions as the mask has
pub all_shown : (start count : ℕ) → count < 64 → Shows ((1 * 2 ^ count) % 2 ^ 64 - 1) (λ p. true) start count
all_shown start count few =
    let whole : (1 * 2 ^ count) % 2 ^ 64 ≡ 2 ^ count = one_shl count 64 few in
    let some : 0 < 2 ^ count = pow_pos count in
    subst (λ m. Shows (m - 1) (λ p. true) start count) (sym whole)
    (record { at = λ k below. ap (λ n. n == 1) (bit_at_ones count k below); small = omega arith })

-- what a mask says of the first position holds of all, since a band has one shift
pub band_shown : {mask : ℕ} {holds : Bool} (weights : List ℕ) (plane start count : ℕ) → IsOneBand start count → holds ≡ coded weights plane start →
    Shows mask (λ p. true && holds) start count → Shows mask (coded weights plane) start count
unfolding coded
band_shown {mask} {holds} weights plane start count band first p = record {
  at = λ k below. p.at k below ∙ first ∙ ap (λ b. nat_le (slice_index weights b) plane) (sym (band k below));
  small = p.small;
}

-- ---- the bands of a block

-- tested position by position
one_band : (start count : ℕ) → list_all (λ k. (place_of (start + k)).band == (place_of start).band) (range_with_len 0 count) ≡ true → IsOneBand start count
one_band start count all k below =
    let same = passes (λ k. (place_of (start + k)).band == (place_of start).band) count k all below in
    grind arith

pub child_bands : (i : ℕ) → i < 3 → IsOneBand (4 + i * 4) 4
unfolding place_of
child_bands zero below = one_band 4 4 refl
child_bands (suc zero) below = one_band 8 4 refl
child_bands (suc (suc zero)) below = one_band 12 4 refl
child_bands (suc (suc (suc i))) below = absurd (omega arith)

pub grandchild_bands : (i : ℕ) → i < 3 → IsOneBand (16 + i * 16) 16
unfolding place_of
grandchild_bands zero below = one_band 16 16 refl
grandchild_bands (suc zero) below = one_band 32 16 refl
grandchild_bands (suc (suc zero)) below = one_band 48 16 refl
grandchild_bands (suc (suc (suc i))) below = absurd (omega arith)
