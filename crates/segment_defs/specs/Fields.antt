-- Fields by their place among the bits of octets, the highest bit of the first octet at place 0.
use Rattle.std.specs.Prelude.{ℕ, ◌==◌, Bool, List, take, drop}
use Rattle.item_defs.specs.Bits.{value_of, bits_of_octets}

-- the number in this number of bits from a place on
unfoldable pub number_in : List ℕ → (start width : ℕ) → ℕ
number_in octets start width = value_of (take width (drop start (bits_of_octets octets)))

-- the flag at a place
abbrev pub is_set : List ℕ → (place : ℕ) → Bool
is_set octets place = number_in octets place 1 == 1
