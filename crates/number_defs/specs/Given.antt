-- The number of items of numbers by differences that make the number at a place whole, with all before it.
-- (CCSDS 122.0-B-2, section 4.3.2; that a number counts from the place at which it is whole is this project's
-- own.)
use Rattle.std.specs.Prelude.{ℕ, ◌+◌, ◌-◌, ◌/◌, ◌==◌, ◌||◌, if◌then◌else◌, List, length}
use Rattle.number_defs.specs.Gaggles.{Kind, uncoded, first_place, places, lead_items, items_before}

abbrev pub numbers_through : Kind → List ℕ → (ℕ → ℕ) → ℕ → ℕ
numbers_through kind heights options i =
    let g = i / 16 in
    let option = options g in
    let lead = length (items_before kind heights options g) + 1 + length (lead_items kind heights g) in
    let unary = if option == uncoded kind.bits || option == 0 then 0 else length (places (length heights) g) in
    if i == 0 then lead else lead + unary + (i - first_place g + 1)
