-- What bits begin with: the number of an item, or an outcome of several items. (docs/formats.md, "Reading a segment"; this
-- project's own.)
use Rattle.std.specs.Prelude.{ℕ, zero, suc, ◌+◌, Bool, true, false, if◌then◌else◌, nat_le, List, [], ◌∷◌, length, take, drop, Option, Some, None}
use Rattle.item_defs.specs.Bits.{value_of}
use Rattle.item_defs.specs.Items.{Shape, fixed, zeros_to, coded, Refusal}

-- All was read, and these bits are left; or the bits end within an item, and this was given; or an item is refused: then this was given,
-- and these bits follow the item.
pub data Outcome (G A : Type 0) : Type 0 where
  whole : A → List Bool → Outcome G A
  cut : G → Outcome G A
  refused : G → Refusal → List Bool → Outcome G A

-- ---- one item: its number and the bits that are left; none if the bits end within it

abbrev pub first_fixed : (width : ℕ) → List Bool → Option (ℕ × List Bool)
first_fixed width bits = if nat_le width (length bits) then Some (value_of (take width bits), drop width bits) else None

-- at most this number of zeros more, and a one after fewer
abbrev pub first_zeros : (more n : ℕ) → List Bool → Option (ℕ × List Bool)
first_zeros zero n bits = Some (n, bits)
first_zeros (suc more) n [] = None
first_zeros (suc more) n (true ∷ bits) = Some (n, bits)
first_zeros (suc more) n (false ∷ bits) = first_zeros more (n + 1) bits

-- what is left after a code, if the bits begin with it
abbrev pub after_code : (code bits : List Bool) → Option (List Bool)
after_code [] bits = Some bits
after_code (c ∷ cs) [] = None
after_code (true ∷ cs) (b ∷ bits) = if b then after_code cs bits else None
after_code (false ∷ cs) (b ∷ bits) = if b then None else after_code cs bits

abbrev pub or_later : ℕ → Option (List Bool) → Option (ℕ × List Bool) → Option (ℕ × List Bool)
or_later n (Some left) later = Some (n, left)
or_later n None later = later

-- the number of the first of these codes that the bits begin with, counted from n
abbrev pub first_code : List (List Bool) → (n : ℕ) → List Bool → Option (ℕ × List Bool)
first_code [] n bits = None
first_code (c ∷ cs) n bits = or_later n (after_code c bits) (first_code cs (n + 1) bits)

abbrev pub first_number : Shape → List Bool → Option (ℕ × List Bool)
first_number (fixed width) bits = first_fixed width bits
first_number (zeros_to limit) bits = first_zeros limit 0 bits
first_number (coded codes) bits = first_code codes 0 bits
