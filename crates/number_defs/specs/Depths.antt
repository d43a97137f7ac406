-- The block depths in a segment's text. (CCSDS 122.0-B-2, section 4.4; that a depth above the head's is
-- refused is this project's own.)
use Rattle.std.specs.Prelude.{ℕ, ◌+◌, ◌^◌, ◌==◌, List, [], map, find, unwrap_or, false, if◌then◌else◌, nat_le, nat_lt}
use Rattle.std.specs.List.{range_with_len}
use Rattle.item_defs.specs.Items.{Item, raw}
use Rattle.number_defs.specs.Gaggles.{Kind, number_items}
use Rattle.number_defs.specs.Choice.{choices}

-- the bits of each depth: the least w for which 2 ^ w is at least 1 + depth_ac
abbrev pub depth_bits : ℕ → ℕ
depth_bits depth_ac = unwrap_or (find (λ w. nat_le (1 + depth_ac) (2 ^ w)) (range_with_len 0 (depth_ac + 1))) 0

-- a depth above that of the head is refused
abbrev pub depth_kind : ℕ → Kind
depth_kind depth_ac = record { signed = false; bits = depth_bits depth_ac; too_great = λ depth. nat_lt depth_ac depth }

-- the block depths, with one option for each gaggle
unfoldable pub depth_items : ℕ → List ℕ → (ℕ → ℕ) → List Item
depth_items depth_ac depths options =
    if depth_ac == 0
    then []
    else (if depth_ac == 1 then map raw depths else number_items (depth_kind depth_ac) depths options)

-- the options that such a choice selects
abbrev pub depth_choices : (ℕ → List ℕ → ℕ) → ℕ → List ℕ → ℕ → ℕ
depth_choices choice depth_ac depths = choices choice (depth_bits depth_ac) depths
