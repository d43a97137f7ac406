-- The zero bits after a text: up to whole words, then up to the limit if it is filled.
-- (CCSDS 122.0-B-2, section 4.2.3.2.5 and the fill bits of a segment; the words of 1 to 4 octets)
use Rattle.std.specs.Prelude.{ℕ, ◌+◌, ◌-◌, ◌*◌, ◌/◌, max, List, ◌++◌, length, Bool, false, if◌then◌else◌}
use Rattle.item_defs.specs.Bits.{copies}

-- the least multiple of the unit that is at least n
abbrev pub rounded : ℕ → ℕ → ℕ
rounded unit n = (n + (unit - 1)) / unit * unit

-- the number of bits of a text of `used` bits that is padded to words of `word` octets, and filled to the limit in octets
-- if that is wanted
abbrev pub padded_length : ℕ → ℕ → Bool → ℕ → ℕ
padded_length word limit fill used = max (rounded (8 * word) used) (if fill then 8 * limit else 0)

-- the number of zero bits after a number of bits
abbrev pub padding : ℕ → ℕ → Bool → ℕ → ℕ
padding word limit fill used = padded_length word limit fill used - used

abbrev pub padded : ℕ → ℕ → Bool → List Bool → List Bool
padded word limit fill bits = bits ++ copies (padding word limit fill (length bits)) false
