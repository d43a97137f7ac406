-- The 64 numbers of a block, their magnitudes and shifts, and the sets of its positions: position 0 is
-- the DC, 1 to 3 the parents, 4 to 15 the children by families, 16 to 63 the grandchildren by families
-- and children. (CCSDS 122.0-B-2, sections 4.1 and 4.5.)
use Rattle.std.specs.Prelude.{⊤, ◌<◌, ℕ, ◌+◌, ◌*◌, ◌^◌, ℤ, pos, Bool, true, not, ◌&&◌, List, ◌++◌, nat_le, slice_index}
use Rattle.std.specs.Int.RustNames.{unsigned_abs}
use Rattle.std.specs.List.{list_any}
use lib.ListN.{get_or}
use Rattle.wave_defs.specs.Blocks.{place_of}
use Rattle.plane_defs.specs.declared.sets.Set.{Set}
use Rattle.plane_defs.specs.declared.sets.Set.TheVariants.{Descendants, Family, Grandchildren, Quad}
use Rattle.plane_defs.specs.Spans.{span}

abbrev pub magnitude : List ℤ → ℕ → ℕ
magnitude block position = unsigned_abs (get_or block position (pos 0))

-- the number at a position is at least 2 ^ plane in magnitude
unfoldable pub significant : List ℤ → ℕ → ℕ → Bool
significant block plane position = nat_le (2 ^ plane) (magnitude block position)

-- the weights are the shifts of the ten bands, in the order of their numbers
abbrev pub shift : List ℕ → ℕ → ℕ
shift weights position = slice_index weights (place_of position).band

-- a bit of this plane can be other than 0 there
unfoldable pub coded : List ℕ → ℕ → ℕ → Bool
coded weights plane position = nat_le (shift weights position) plane

-- there are three families, and four children in each
abbrev pub IsKnown : Set → Type 0
IsKnown Descendants = ⊤
IsKnown (Family i) = i < 3
IsKnown (Grandchildren i) = i < 3
IsKnown (Quad i j) = (i < 3) × (j < 4)

-- the first position of the grandchildren of a family, and of those below one of its children
abbrev pub children_of : ℕ → ℕ
children_of i = 4 + 4 * i

abbrev pub grandchildren_of : ℕ → ℕ
grandchildren_of i = 16 + 16 * i

abbrev pub quad_of : ℕ → ℕ → ℕ
quad_of i j = 16 + 16 * i + 4 * j

abbrev pub members : Set → List ℕ
members Descendants = span 4 60
members (Family i) = span (children_of i) 4 ++ span (grandchildren_of i) 16
members (Grandchildren i) = span (grandchildren_of i) 16
members (Quad i j) = span (quad_of i j) 4

unfoldable pub set_significant : List ℤ → ℕ → Set → Bool
set_significant block plane s = list_any (significant block plane) (members s)

-- some member can have a bit of this plane
unfoldable pub live : List ℕ → ℕ → Set → Bool
live weights plane s = list_any (coded weights plane) (members s)

-- the enclosing set is significant, if there is one
unfoldable pub enclosing_significant : List ℤ → ℕ → Set → Bool
enclosing_significant block plane Descendants = true
enclosing_significant block plane (Family i) = set_significant block plane Descendants
enclosing_significant block plane (Grandchildren i) = set_significant block plane (Family i)
enclosing_significant block plane (Quad i j) = set_significant block plane (Grandchildren i)

-- ---- what is due

unfoldable pub type_due : List ℤ → List ℕ → ℕ → ℕ → Bool
type_due block weights plane position = not (significant block (plane + 1) position) && coded weights plane position

unfoldable pub flag_due : List ℤ → List ℕ → ℕ → Set → Bool
flag_due block weights plane s =
    not (set_significant block (plane + 1) s) && live weights plane s && enclosing_significant block plane s

unfoldable pub newly_significant : List ℤ → List ℕ → ℕ → ℕ → Bool
newly_significant block weights plane position = type_due block weights plane position && significant block plane position

unfoldable pub refined : List ℤ → List ℕ → ℕ → ℕ → Bool
refined block weights plane position = significant block (plane + 1) position && coded weights plane position
