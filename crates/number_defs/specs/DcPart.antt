-- The DC part of a segment's text. (CCSDS 122.0-B-2, section 4.3.2; the rule for q is this project's own.)
use Rattle.std.specs.Prelude.{ℕ, zero, suc, ◌+◌, ◌-◌, ◌/◌, ◌==◌, max, ℤ, List, [], ◌++◌, map, true, false, if◌then◌else◌, nat_le, nat_lt}
use Rattle.std.specs.Int.{int_shr}
use Rattle.item_defs.specs.Items.{Item, raw}
use Rattle.number_defs.specs.Ranges.{shifted_height}
use Rattle.item_defs.specs.TwosComplement.{complement}
use Rattle.number_defs.specs.Gaggles.{Kind, number_items}
use Rattle.number_defs.specs.Choice.{choices}

-- the number of low bits of each DC that BitDepthDC and BitDepthAC alone would leave for later
abbrev pub depth_q : ℕ → ℕ → ℕ
depth_q depth_dc depth_ac =
    let above = depth_dc - (1 + depth_ac / 2) in
    if nat_le depth_dc 3
    then 0
    else (if nat_le above 1
    then depth_dc - 3
    else (if nat_lt 10 above
    then depth_dc - 10
    else 1 + depth_ac / 2))

-- the number of low bits that are left; none of the others is 0 because of the weight of LL3
abbrev pub dc_q : ℕ → ℕ → ℕ → ℕ
dc_q depth_dc depth_ac shift = max (depth_q depth_dc depth_ac) shift

-- the bits of each number that is written first
abbrev pub dc_bits : ℕ → ℕ → ℕ → ℕ
dc_bits depth_dc depth_ac shift = max (depth_dc - dc_q depth_dc depth_ac shift) 1

-- no number is refused
abbrev pub dc_kind : ℕ → Kind
dc_kind N = record { signed = true; bits = N; too_great = λ height. false }

-- bit b of a DC's two's complement form
abbrev pub dc_bit : ℕ → ℤ → Item
dc_bit b dc = raw (complement 1 (int_shr dc b))

-- each DC over 2 ^ q, rounded down
abbrev pub high_items : ℕ → ℕ → List ℤ → (ℕ → ℕ) → List Item
high_items N q dcs options =
    if N == 1 then map (dc_bit q) dcs else number_items (dc_kind N) (map (shifted_height true N q) dcs) options

-- the n highest of the bit planes below q, one bit of each DC in each
unfoldable pub planes_before : ℕ → List ℤ → ℕ → List Item
planes_before q dcs zero = []
planes_before q dcs (suc n) = planes_before q dcs n ++ map (dc_bit (q - suc n)) dcs

-- the bit planes that are left, down to BitDepthAC, except those that are 0 because of the weight of LL3
abbrev pub dc_planes : ℕ → ℕ → ℕ → ℕ
dc_planes depth_dc depth_ac shift = dc_q depth_dc depth_ac shift - max depth_ac shift

-- the DC part, with one option for each gaggle
unfoldable pub dc_items : ℕ → ℕ → ℕ → List ℤ → (ℕ → ℕ) → List Item
dc_items depth_dc depth_ac shift dcs options =
    let q = dc_q depth_dc depth_ac shift in
    high_items (dc_bits depth_dc depth_ac shift) q dcs options ++ planes_before q dcs (dc_planes depth_dc depth_ac shift)

-- the options that such a choice selects
abbrev pub dc_choices : (ℕ → List ℕ → ℕ) → ℕ → ℕ → ℕ → List ℤ → ℕ → ℕ
dc_choices choice depth_dc depth_ac shift dcs =
    let N = dc_bits depth_dc depth_ac shift in
    choices choice N (map (shifted_height true N (dc_q depth_dc depth_ac shift)) dcs)
