-- What the definitions of items compute to: outside this crate these equations are cited, and nothing is unfolded.
use Rattle.std.proofs.Common.{◌≡◌, ℕ, suc, ◌+◌, ◌-◌, ◌*◌, ◌/◌, ◌^◌, List, [], ◌∷◌, ◌++◌, length, map, eqb, cond, refl, ℤ, true, arith, ◌≤◌, sum, sum_by}
use Rattle.std.proofs.Common.{find, unwrap_or}
use Rattle.std.specs.List.{range_with_len}
use Rattle.std.specs.Int.{div_ceil}
use Rattle.item_defs.specs.Items.{identifier, raw}
use Rattle.number_defs.specs.Gaggles.{Kind, identifier_bits, uncoded, is_option, uncoded_value, unary_part, rest_part, value_items, lead_items}
use Rattle.number_defs.specs.Gaggles.{gaggle_items, items_before, places, number_items}
use Rattle.number_defs.specs.Choice.{by_total, heuristic, coded_bits, candidates, is_least, optimal}
use Rattle.number_defs.specs.Cells.{cell_at, strided}
use Rattle.number_defs.specs.DcPart.{dc_q, dc_bits, dc_bit, high_items, planes_before, dc_planes, dc_items}
use Rattle.number_defs.specs.Depths.{depth_kind, depth_items}
use Rattle.std.proofs.lemmas.Bool.Decides.{nat_tests}

pub value_items-is : (kind : Kind) (heights : List ℕ) (option : ℕ) (at : List ℕ) →
    value_items kind heights option at ≡ cond (eqb option (uncoded kind.bits)) (map (uncoded_value kind heights) at)
    (map (unary_part kind heights option) at ++ cond (eqb option 0) [] (map (rest_part kind heights option) at))
unfolding value_items
value_items-is kind heights option at = refl

pub gaggle_items-is : (kind : Kind) (heights : List ℕ) (option g : ℕ) →
    gaggle_items kind heights option g ≡ identifier (identifier_bits kind.bits) (is_option kind.bits) option
    ∷ (lead_items kind heights g ++ value_items kind heights option (places (length heights) g))
unfolding gaggle_items
gaggle_items-is kind heights option g = refl

pub items_before-none : (kind : Kind) (heights : List ℕ) (options : ℕ → ℕ) → items_before kind heights options 0 ≡ []
unfolding items_before
items_before-none kind heights options = refl

pub items_before-more : (kind : Kind) (heights : List ℕ) (options : ℕ → ℕ) (g : ℕ) → items_before kind heights options (suc g)
    ≡ items_before kind heights options g ++ gaggle_items kind heights (options g) g
unfolding items_before
items_before-more kind heights options g = refl

pub planes_before-none : (q : ℕ) (dcs : List ℤ) → planes_before q dcs 0 ≡ []
unfolding planes_before
planes_before-none q dcs = refl

pub planes_before-more : (q : ℕ) (dcs : List ℤ) (n : ℕ) → planes_before q dcs (suc n) ≡ planes_before q dcs n ++ map (dc_bit (q - suc n)) dcs
unfolding planes_before
planes_before-more q dcs n = refl

pub dc_items-is : (depth_dc depth_ac shift : ℕ) (dcs : List ℤ) (options : ℕ → ℕ) →
    dc_items depth_dc depth_ac shift dcs options ≡ high_items (dc_bits depth_dc depth_ac shift) (dc_q depth_dc depth_ac shift) dcs options
    ++ planes_before (dc_q depth_dc depth_ac shift) dcs (dc_planes depth_dc depth_ac shift)
unfolding dc_items
dc_items-is depth_dc depth_ac shift dcs options = refl

pub depths_none : (depth_ac : ℕ) (depths : List ℕ) (options : ℕ → ℕ) → depth_ac ≡ 0 → depth_items depth_ac depths options ≡ []
unfolding depth_items
depths_none depth_ac depths options e = let t : eqb depth_ac 0 ≡ true = grind (arith, nat_tests) in rw t refl

pub depths_raw : (depth_ac : ℕ) (depths : List ℕ) (options : ℕ → ℕ) → depth_ac ≡ 1 → depth_items depth_ac depths options ≡ map raw depths
unfolding depth_items
depths_raw depth_ac depths options e = grind (arith, nat_tests)

pub depths_coded : (depth_ac : ℕ) (depths : List ℕ) (options : ℕ → ℕ) → 2 ≤ depth_ac → depth_items depth_ac depths options
    ≡ number_items (depth_kind depth_ac) depths options
unfolding depth_items
depths_coded depth_ac depths options low = grind (arith, nat_tests)

pub coded_bits-is : (N : ℕ) (values : List ℕ) (option : ℕ) →
    coded_bits N values option ≡ cond (eqb option (uncoded N)) (N * length values) (sum_by (λ v. (v / 2 ^ option + 1) + option) values)
unfolding coded_bits
coded_bits-is N values option = refl

pub optimal-is : (N : ℕ) (values : List ℕ) → optimal N values ≡ unwrap_or (find (is_least N values) (candidates N)) (uncoded N)
unfolding optimal
optimal-is N values = refl

pub heuristic-is : (N : ℕ) (values : List ℕ) → heuristic N values ≡ by_total N (length values) (sum values)
unfolding heuristic
heuristic-is N values = refl

pub strided-is : (stride : ℕ) (cells : List ℤ) → strided stride cells ≡ map (cell_at stride cells) (range_with_len 0 (div_ceil (length cells) stride))
unfolding strided
strided-is stride cells = refl
