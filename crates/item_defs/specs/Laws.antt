-- The laws that the definitions keep.
use Rattle.std.specs.Prelude.{◌≡◌, ◌%◌, ◌+◌, ◌*◌, ◌/◌, ◌^◌, ℕ, List, ◌++◌, length, map, Bool}
use Rattle.item_defs.specs.Bits.{bits_of, value_of, AreOctets, bits_of_octets, octets_of}
use Rattle.item_defs.specs.Items.{Item}

abbrev pub said_of : List Item → List ℕ
said_of items = map (λ item. item.said) items

-- bits and numbers, and bits and octets, represent each other
pub record BitsUndo : Type 0 where
  pub number : (w n : ℕ) → value_of (bits_of w n) ≡ n % 2 ^ w
  pub bits : (bits : List Bool) → bits_of (length bits) (value_of bits) ≡ bits
  pub parts : (m n x : ℕ) → bits_of (m + n) x ≡ bits_of m (x / 2 ^ n) ++ bits_of n x
  pub octets : (octets : List ℕ) → AreOctets octets → octets_of (bits_of_octets octets) ≡ octets
  pub octet_bits : (bits : List Bool) (n : ℕ) → length bits ≡ 8 * n → bits_of_octets (octets_of bits) ≡ bits
