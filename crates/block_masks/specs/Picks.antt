-- Some bits as one number, and a number spread over some places.
use Rattle.std.specs.Prelude.{◌≡◌, ◌<◌, ◌≤◌, ℕ, ◌+◌, ◌-◌, ◌*◌, ◌^◌, ◌&&◌, Bool, List, length, map, filter, count_ones}
use Rattle.item_defs.specs.Bits.{bit, value_of}
use Rattle.plane_defs.specs.Spans.{span}
use Rattle.block_masks.specs.Masks.{Shows}

-- up to four bits: sixteen times how many they are, plus the number that they make
unfoldable pub packed : List Bool → ℕ
packed bits = 16 * length bits + value_of bits

-- the places among the due ones whose bit in the word is 1
pub record AreSpread (due word places : ℕ) : Type 0 where
  pub small : places < 16
  pub if_known : (f g : ℕ → Bool) (start count : ℕ) → count ≤ 4 → Shows due g start count → value_of (map f (filter g (span start count))) ≡ word →
      Shows places (λ p. g p && f p) start count
  pub back : (g : ℕ → Bool) (start count : ℕ) → count ≤ 4 → Shows due g start count → word < 2 ^ count_ones due →
      value_of (map (λ p. bit places (p - start)) (filter g (span start count))) ≡ word
  pub ones : word < 2 ^ count_ones due → count_ones places ≡ count_ones word
