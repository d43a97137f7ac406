-- Numbers by differences, gaggle by gaggle: each item is given by the place of its number.
-- (CCSDS 122.0-B-2, section 4.3.2; the greatest k and the test of what is refused are this project's own.)
use Rattle.std.specs.Prelude.{ℕ, zero, suc, ◌+◌, ◌-◌, ◌*◌, ◌/◌, ◌%◌, ◌^◌, ◌==◌, ◌||◌, min, max, List, [], ◌∷◌, ◌++◌, length, map, slice_index, Bool}
use Rattle.std.specs.Prelude.{if◌then◌else◌, nat_le, Option, Some, None}
use Rattle.std.specs.List.{range_with_len}
use Rattle.item_defs.specs.Items.{Item, Form, Refusal, bad_delta, bad_depth, fixed, zeros_to, identifier, refused_where}
use Rattle.number_defs.specs.Ranges.{negatives, number_at}
use Rattle.item_defs.specs.TwosComplement.{complement}
use Rattle.number_defs.specs.Mapping.{mapped, unmapped}

-- the kind of a list of numbers: their number of bits, signed or not; and the heights that are refused as too great
-- when they are read
pub record Kind : Type 0 where
  pub signed : Bool
  pub bits : ℕ
  pub too_great : ℕ → Bool

-- ---- options

abbrev pub identifier_bits : ℕ → ℕ
identifier_bits N = if nat_le N 2 then 1 else (if nat_le N 4 then 2 else (if nat_le N 8 then 3 else 4))

-- the option of mapped values as they are is all ones
abbrev pub uncoded : ℕ → ℕ
uncoded N = 2 ^ identifier_bits N - 1

-- any other option is k, the number of bits of each rest
abbrev pub is_option : ℕ → ℕ → Bool
is_option N option = (option == uncoded N) || nat_le option (N - 2)

-- ---- mapped values by place

abbrev pub number_before : List ℕ → ℕ → ℕ
number_before heights i = slice_index heights (i - 1)

-- the mapped value of the number at a place after the first
abbrev pub value_at : ℕ → List ℕ → ℕ → ℕ
value_at N heights i = mapped N (number_before heights i) (slice_index heights i)

-- the places of a gaggle of 16 numbers; the first number of all has no mapped value
abbrev pub first_place : ℕ → ℕ
first_place g = max (16 * g) 1

abbrev pub places : ℕ → ℕ → List ℕ
places count g = range_with_len (first_place g) (min count (16 * g + 16) - first_place g)

abbrev pub gaggle_values : ℕ → List ℕ → ℕ → List ℕ
gaggle_values N heights g = map (value_at N heights) (places (length heights) g)

-- ---- forms: the number before is known when a mapped value is read

-- a mapped value is refused if it makes its number too great
abbrev pub depth_refusal : Kind → ℕ → ℕ → Option Refusal
depth_refusal kind before value = refused_where (λ v. kind.too_great (unmapped kind.bits before v)) bad_depth value

abbrev pub uncoded_form : Kind → ℕ → Form
uncoded_form kind before = record { shape = fixed kind.bits; refusal = depth_refusal kind before }

-- too many zeros are refused, and if k is 0 fewer make the number whole
abbrev pub zeros_refusal : Kind → ℕ → ℕ → ℕ → Option Refusal
zeros_refusal kind k before zeros =
    if zeros == 2 ^ (kind.bits - k)
    then Some bad_delta
    else (if k == 0 then depth_refusal kind before zeros else None)

abbrev pub unary_form : Kind → ℕ → ℕ → Form
unary_form kind k before = record { shape = zeros_to (2 ^ (kind.bits - k)); refusal = zeros_refusal kind k before }

-- the rest makes the number whole, after a number of zeros
abbrev pub rest_form : Kind → ℕ → ℕ → ℕ → Form
rest_form kind k before zeros = record { shape = fixed k; refusal = λ rest. depth_refusal kind before (zeros * 2 ^ k + rest) }

-- the reference is in two's complement if signed
abbrev pub reference_refusal : Kind → ℕ → Option Refusal
reference_refusal kind value =
    refused_where (λ c. kind.too_great ((c + negatives kind.signed kind.bits) % 2 ^ kind.bits)) bad_depth value

abbrev pub reference_form : Kind → Form
reference_form kind = record { shape = fixed kind.bits; refusal = reference_refusal kind }

-- ---- items

abbrev pub reference : Kind → ℕ → Item
reference kind height =
    record { form = reference_form kind; said = complement kind.bits (number_at kind.signed kind.bits height) }

abbrev pub uncoded_value : Kind → List ℕ → ℕ → Item
uncoded_value kind heights i =
    record { form = uncoded_form kind (number_before heights i); said = value_at kind.bits heights i }

abbrev pub unary_part : Kind → List ℕ → ℕ → ℕ → Item
unary_part kind heights k i =
    record { form = unary_form kind k (number_before heights i); said = value_at kind.bits heights i / 2 ^ k }

abbrev pub rest_part : Kind → List ℕ → ℕ → ℕ → Item
rest_part kind heights k i = record {
  form = rest_form kind k (number_before heights i) (value_at kind.bits heights i / 2 ^ k);
  said = value_at kind.bits heights i % 2 ^ k;
}

-- the mapped values at these places: as they are, or all unary parts and then all rests
unfoldable pub value_items : Kind → List ℕ → ℕ → List ℕ → List Item
value_items kind heights option at =
    if option == uncoded kind.bits
    then map (uncoded_value kind heights) at
    else map (unary_part kind heights option) at ++ (if option == 0 then [] else map (rest_part kind heights option) at)

-- the first gaggle has the reference
abbrev pub lead_items : Kind → List ℕ → ℕ → List Item
lead_items kind heights zero = reference kind (slice_index heights 0) ∷ []
lead_items kind heights (suc g) = []

unfoldable pub gaggle_items : Kind → List ℕ → ℕ → ℕ → List Item
gaggle_items kind heights option g =
    identifier (identifier_bits kind.bits) (is_option kind.bits) option
    ∷ (lead_items kind heights g ++ value_items kind heights option (places (length heights) g))

-- the items of the first g gaggles, with one option for each gaggle
unfoldable pub items_before : Kind → List ℕ → (ℕ → ℕ) → ℕ → List Item
items_before kind heights options zero = []
items_before kind heights options (suc g) = items_before kind heights options g ++ gaggle_items kind heights (options g) g

-- the number of gaggles of `count` numbers
abbrev pub gaggle_count : ℕ → ℕ
gaggle_count count = (count + 15) / 16

-- all items of a list of numbers
abbrev pub number_items : Kind → List ℕ → (ℕ → ℕ) → List Item
number_items kind heights options = items_before kind heights options (gaggle_count (length heights))
