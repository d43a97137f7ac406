-- A text is a list of items before it is bits. An item has a number in a form, and the form determines which
-- strings of bits are possible there. (CCSDS 122.0-B-2, sections 4.3 to 4.5, names these parts of the coded
-- segment; to split them into items is this project's own.)
use Rattle.std.specs.Prelude.{◌<◌, ◌≤◌, ℕ, ◌^◌, ◌==◌, List, [], ◌∷◌, ◌++◌, length, slice_index_or, Bool, true, false, not, if◌then◌else◌, Option, None, Some}
use Rattle.std.specs.List.{flat_map}
use Rattle.item_defs.specs.Bits.{bits_of, copies}

-- the shapes of an item's bits
pub data Shape : Type 0 where
  fixed : ℕ → Shape  -- this number of bits
  zeros_to : ℕ → Shape  -- fewer zeros than this and a one, or exactly this number of zeros
  coded : List (List Bool) → Shape  -- one of these codes

-- the reasons for which a code that no values have is refused
pub data Refusal : Type 0 where
  bad_option : Refusal
  bad_delta : Refusal
  bad_depth : Refusal
  false_flag : Refusal

-- a shape, and which of its numbers are refused
pub record Form : Type 0 where
  pub shape : Shape
  pub refusal : ℕ → Option Refusal

pub record Item : Type 0 where
  pub form : Form
  pub said : ℕ

-- the numbers that a shape can have
abbrev pub IsSaid : Shape → ℕ → Type 0
IsSaid (fixed w) n = n < 2 ^ w
IsSaid (zeros_to limit) n = n ≤ limit
IsSaid (coded codes) n = n < length codes

-- the zeros of a unary part, and the one after fewer than `limit` zeros
abbrev pub zeros_and_one : ℕ → ℕ → List Bool
zeros_and_one limit n = copies n false ++ (if n == limit then [] else true ∷ [])

-- the bits of a number in a shape
abbrev pub spelling : Shape → ℕ → List Bool
spelling (fixed w) n = bits_of w n
spelling (zeros_to limit) n = zeros_and_one limit n
spelling (coded codes) n = slice_index_or codes n []

abbrev pub item_bits : Item → List Bool
item_bits item = spelling item.form.shape item.said

-- the bits of items, one after another
abbrev pub text : List Item → List Bool
text items = flat_map item_bits items

-- ---- the kinds of items

-- nothing is refused
abbrev pub any_number : ℕ → Option Refusal
any_number n = None

-- numbers for which the test holds are refused by this name
abbrev pub refused_where : (ℕ → Bool) → Refusal → ℕ → Option Refusal
refused_where test name n = if test n then Some name else None

-- a number of bits, of which every string is accepted
abbrev pub plain : ℕ → ℕ → Item
plain width value = record { form = record { shape = fixed width; refusal = any_number }; said = value }

-- a single bit
abbrev pub raw : ℕ → Item
raw b = plain 1 b

-- an option as a number of bits; numbers that have no option are refused
abbrev pub identifier : ℕ → (ℕ → Bool) → ℕ → Item
identifier width names option =
    record { form = record { shape = fixed width; refusal = refused_where (λ n. not (names n)) bad_option }; said = option }

-- the word of a code: its symbol in a table
abbrev pub code : List (List Bool) → ℕ → Item
code codes symbol = record { form = record { shape = coded codes; refusal = any_number }; said = symbol }
