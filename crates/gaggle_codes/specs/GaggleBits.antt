-- The bits of the items of a list of numbers, by the numbers that represent the options. (This project's own.)
use Rattle.std.specs.Prelude.{ℕ, zero, suc, ◌/◌, ◌%◌, ◌^◌, ◌==◌, List, [], ◌∷◌, ◌++◌, slice_index, Bool, true, false, if◌then◌else◌}
use Rattle.std.specs.List.{flat_map}
use Rattle.item_defs.specs.Bits.{bits_of, copies}
use Rattle.number_defs.specs.Ranges.{number_at}
use Rattle.item_defs.specs.TwosComplement.{complement}
use Rattle.number_defs.specs.Gaggles.{identifier_bits, gaggle_values}
use Rattle.number_defs.specs.Choice.{choices}
use Rattle.base_122.specs.declared.setting.Select.{Select}
use Rattle.gaggle_codes.specs.Options.{choice_of, name_of}

abbrev pub unary_bits : ℕ → ℕ → List Bool
unary_bits k value = copies (value / 2 ^ k) false ++ true ∷ []

abbrev pub rest_bits : ℕ → ℕ → List Bool
rest_bits k value = bits_of k (value % 2 ^ k)

abbrev pub value_bits : ℕ → ℕ → List ℕ → List Bool
value_bits N name values =
    if name == 15
    then flat_map (bits_of N) values
    else flat_map (unary_bits name) values ++ (if name == 0 then [] else flat_map (rest_bits name) values)

abbrev pub lead_bits : Bool → ℕ → List ℕ → ℕ → List Bool
lead_bits signed N heights zero = bits_of N (complement N (number_at signed N (slice_index heights 0)))
lead_bits signed N heights (suc g) = []

abbrev pub gaggle_bits : Bool → ℕ → List ℕ → ℕ → ℕ → List Bool
gaggle_bits signed N heights name g =
    bits_of (identifier_bits N) name ++ (lead_bits signed N heights g ++ value_bits N name (gaggle_values N heights g))

-- the bits of the first g gaggles
unfoldable pub bits_before : Bool → ℕ → List ℕ → (ℕ → ℕ) → ℕ → List Bool
bits_before signed N heights names zero = []
bits_before signed N heights names (suc g) = bits_before signed N heights names g ++ gaggle_bits signed N heights (names g) g

-- the numbers of the options that a choice selects
abbrev pub chosen_names : Select → ℕ → List ℕ → ℕ → ℕ
chosen_names select N heights g = name_of N (choices (choice_of select) N heights g)
