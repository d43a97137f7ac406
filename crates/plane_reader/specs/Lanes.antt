-- Sixteen bits of the magnitudes of a block, and its numbers. (This project's own.)
use Rattle.std.specs.Prelude.{◌≡◌, ◌<◌, ◌≤◌, ℕ, ◌+◌, ◌*◌, ◌/◌, ◌^◌, ℤ, pos, neg_ℤ, List, length, map, bit_or, if◌then◌else◌}
use Rattle.std.specs.List.{range_with_len}
use lib.ListN.{get_or}
use Rattle.item_defs.specs.Bits.{bit, value_of}
use Rattle.block_masks.specs.Slices.{mask_in}
use Rattle.block_masks.specs.MaskedNumbers.{bits_below}
use Rattle.plane_reader.specs.declared.number_lanes.Halves.{Halves}

-- sixteen magnitudes from a position on: the bits of weight 2 ^ from and more that the planes from `from` on give, `planes` of them
abbrev pub part_in : List ℤ → (r start from planes : ℕ) → List ℕ
part_in cells r start from planes = map (λ k. value_of (bits_below (mask_in cells r) (start + k) (from + planes)) / 2 ^ from) (range_with_len 0 16)

-- all of them: the bits of weight 2 ^ from and more that the planes from `from` on give, `planes` of them
pub record HasPlanes (cells : List ℤ) (r from planes : ℕ) (halves : Halves) : Type 0 where
  pub first : halves.first ≡ part_in cells r 0 from planes
  pub second : halves.second ≡ part_in cells r 16 from planes
  pub third : halves.third ≡ part_in cells r 32 from planes
  pub fourth : halves.fourth ≡ part_in cells r 48 from planes

-- sixteen magnitudes each
pub record AreWhole (halves : Halves) : Type 0 where
  pub first : length halves.first ≡ 16
  pub second : length halves.second ≡ 16
  pub third : length halves.third ≡ 16
  pub fourth : length halves.fourth ≡ 16

-- sixteen magnitudes, of which those of a mask are given the bit of weight 2 ^ place
abbrev pub with_mask : List ℕ → (mask start place : ℕ) → List ℕ
with_mask part mask start place = map (λ k. bit_or (get_or part k 0) (if bit mask (start + k) then 2 ^ place else 0)) (range_with_len 0 16)

-- the magnitudes of a mask are given a bit
pub record AddsPlane (mask place : ℕ) (old new : Halves) : Type 0 where
  pub first : new.first ≡ with_mask old.first mask 0 place
  pub second : new.second ≡ with_mask old.second mask 16 place
  pub third : new.third ≡ with_mask old.third mask 32 place
  pub fourth : new.fourth ≡ with_mask old.fourth mask 48 place

-- a number of a sign and a magnitude, of which the low and the high half are known
abbrev pub number_of : (low high : List ℕ) → (minus start k : ℕ) → ℤ
number_of low high minus start k =
    let size = get_or low k 0 + 2 ^ 16 * get_or high k 0 in
    if bit minus (start + k) then neg_ℤ (pos size) else pos size

-- sixteen numbers of a block are those of their halves and signs, and all others stay
pub record PutsPart (low high : List ℕ) (minus start : ℕ) (old new : List ℤ) : Type 0 where
  pub long : length new ≡ length old
  pub here : (k : ℕ) → k < 16 → get_or new (start + k) (pos 0) ≡ number_of low high minus start k
  pub below : (p : ℕ) → p < start → get_or new p (pos 0) ≡ get_or old p (pos 0)
  pub above : (p : ℕ) → start + 16 ≤ p → get_or new p (pos 0) ≡ get_or old p (pos 0)
