-- The octets of a text: its bits, padded to the code word and filled up to the limit if that is asked for, cut at the
-- limit (CCSDS 122.0-B-2, section 4.2; the exact places are this project's own).
use Rattle.std.specs.Prelude.{ℕ, ◌==◌, Bool, if◌then◌else◌, List, take}
use Rattle.item_defs.specs.Bits.{octets_of}
use Rattle.item_defs.specs.Padding.{padded}

-- the first octets up to the limit, if there is one
abbrev pub cut : (limit : ℕ) → List ℕ → List ℕ
cut limit octets = if limit == 0 then octets else take limit octets

-- the octets of a text with these bits
unfoldable pub text_octets : (word limit : ℕ) → (fill : Bool) → List Bool → List ℕ
text_octets word limit fill bits = cut limit (octets_of (padded word limit fill bits))
