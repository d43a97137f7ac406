-- Bits that are available: those that are left of the last octet, and those of octets in memory.
use Rattle.std.specs.Prelude.{◌≡◌, ◌≤◌, ℕ, List, Bool, ◌+◌, ◌-◌, ◌/◌, ◌^◌, ◌++◌, length, take}
use Rattle.item_defs.specs.Bits.{bits_of, bits_of_octets, AreOctets}
use Rattle.bit_pipe.specs.Sources.{SourceOf}
use Rattle.bit_pipe.specs.SourceState.{SourceState}

-- the next seven octets in memory
abbrev pub seven_next : {I : Type 0} → SourceOf I → I → List ℕ
seven_next k s = take 7 (k.buffer s)

-- a number of 64 bits whose highest bits are those that are left and those of seven octets in memory; there is room for 56
pub record IsWindow {I : Type 0} (k : SourceOf I) (s : SourceState I) (window : ℕ) : Type 0 where
  pub room : 56 ≤ s.room
  pub many : 7 ≤ length (k.buffer s.source)
  pub small : AreOctets (seven_next k s.source)
  pub first : bits_of (length s.pending + 56) (window / 2 ^ (8 - length s.pending)) ≡ s.pending ++ bits_of_octets (seven_next k s.source)

-- the first bits of a window
abbrev pub first_of : (count window : ℕ) → List Bool
first_of count window = bits_of count (window / 2 ^ (64 - count))
