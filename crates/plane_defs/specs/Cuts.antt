-- Values that are cut in a plane: what the text gives of them up to a place in its order. (docs/formats.md, "Bit planes" and "Stops, cut
-- and fill"; this project's own.)
use Rattle.std.specs.Prelude.{◌≡◌, ◌<◌, ℕ, zero, suc, ◌+◌, ◌-◌, ◌*◌, ◌/◌, ◌^◌, ◌==◌, ◌&&◌, ◌||◌, Bool, true, false, if◌then◌else◌, nat_lt, List, [], ◌++◌}
use Rattle.std.specs.Prelude.{length, map, ℤ, pos, ◌*ℤ◌, ◌-ℤ◌}
use Rattle.std.specs.Int.{int_shr}
use Rattle.std.specs.List.{flat_map}
use lib.ListN.{get_or}
use Rattle.item_defs.specs.Bits.{bit}
use Rattle.item_defs.specs.Items.{Item}
use Rattle.base_122.specs.declared.book.Book.{Book}
use Rattle.plane_defs.specs.Spans.{span}
use Rattle.plane_defs.specs.Sets.{magnitude, significant}
use Rattle.plane_defs.specs.Entries.{negative, stage_number}
use Rattle.plane_defs.specs.Planes.{Plane, before_stage}
use Rattle.plane_defs.specs.Reading.{steps_of_block, gaggle_reading, plane_reading, read_after}
use Rattle.plane_defs.specs.Written.{low_bits, planes_reading}

-- How far a block is given in a plane: whether with the DC's bit, and the places below which types, signs, and bits of numbers that
-- are significant above are given.
pub record Reach : Type 0 where
  pub dc : Bool
  pub types : ℕ
  pub signs : ℕ
  pub bits : ℕ

-- after the first stages
abbrev pub after_stages : ℕ → Reach
after_stages zero = record { dc = false; types = 1; signs = 1; bits = 1 }
after_stages (suc zero) = record { dc = true; types = 1; signs = 1; bits = 1 }
after_stages (suc (suc zero)) = record { dc = true; types = 4; signs = 4; bits = 1 }
after_stages (suc (suc (suc zero))) = record { dc = true; types = 16; signs = 16; bits = 1 }
after_stages (suc (suc (suc (suc zero)))) = record { dc = true; types = 64; signs = 64; bits = 1 }
after_stages (suc (suc (suc (suc (suc k))))) = record { dc = true; types = 64; signs = 64; bits = 64 }

-- a number has the bits above the plane, and that of the plane if it is given
abbrev pub cut_size : List ℤ → (plane : ℕ) → Reach → ℕ → ℕ
cut_size v plane reach p =
    magnitude v p / 2 ^ (plane + 1) * 2 ^ (plane + 1) +
    (if (if significant v (plane + 1) p then nat_lt p reach.bits else nat_lt p reach.types) && bit (magnitude v p) plane then 2 ^ plane else 0)

-- a number that is significant only in this plane has its sign if that is given
abbrev pub cut_number : List ℤ → (plane : ℕ) → Reach → ℕ → ℤ
cut_number v plane reach p =
    if (significant v (plane + 1) p || (nat_lt p reach.signs && significant v plane p)) && negative (get_or v p (pos 0))
    then pos 0 -ℤ pos (cut_size v plane reach p)
    else pos (cut_size v plane reach p)

-- the low bits of the DC that are not given are 0
abbrev pub cut_dc : (weights : List ℕ) → (q : ℕ) → List ℤ → (plane : ℕ) → Reach → ℤ
cut_dc weights q v plane reach =
    let low = low_bits weights q (if reach.dc then plane else plane + 1) in int_shr (get_or v 0 (pos 0)) low *ℤ pos (2 ^ low)

abbrev pub cut_block : (weights : List ℕ) → (q : ℕ) → List ℤ → (plane : ℕ) → Reach → List ℤ
cut_block weights q v plane reach = map (λ p. if p == 0 then cut_dc weights q v plane reach else cut_number v plane reach p) (span 0 64)

-- a place in a plane: a stage, a block, and how far this block is given
pub record Spot : Type 0 where
  pub stage : ℕ
  pub block : ℕ
  pub reach : Reach

-- the blocks before it are given with this stage, and those after it without
abbrev pub reach_of : Spot → ℕ → Reach
reach_of spot r = if nat_lt r spot.block then after_stages (spot.stage + 1) else if r == spot.block then spot.reach else after_stages spot.stage

-- after the first stages of all blocks
abbrev pub after_all : ℕ → Spot
after_all n = record { stage = n; block = 0; reach = after_stages n }

-- the items of a plane before the spot's stage of its block
abbrev pub items_before : Book → (ℕ → List ℕ) → Plane → Spot → List Item
items_before book options p spot =
    let k = spot.stage in
    let g = spot.block / 16 in
    plane_reading book options p k ++
    (flat_map (gaggle_reading book options p k) (span 0 g) ++
    read_after book (options g) (before_stage p k g) (flat_map (steps_of_block p (stage_number k)) (span (16 * g) (spot.block - 16 * g))))

-- values that are cut there
abbrev pub cut_blocks : (weights : List ℕ) → (q : ℕ) → List (List ℤ) → (plane : ℕ) → Spot → List (List ℤ)
cut_blocks weights q values plane spot = map (λ r. cut_block weights q (get_or values r []) plane (reach_of spot r)) (span 0 (length values))

-- blocks are these values, cut in one of the planes below this one
pub record AreCut (weights : List ℕ) (q : ℕ) (values : List (List ℤ)) (below : ℕ) (blocks : List (List ℤ)) : Type 0 where
  pub plane : ℕ
  pub inside : plane < below
  pub spot : Spot
  pub is : blocks ≡ cut_blocks weights q values plane spot

-- they are cut so after these items: those of the planes above, those before the spot, and some of the spot's own
pub record CutAfter (book : Book) (options : ℕ → ℕ → List ℕ) (values : List (List ℤ)) (depths weights : List ℕ) (q : ℕ) (stages : ℕ → ℕ) (below : ℕ)
    (items : List Item) (blocks : List (List ℤ)) : Type 0 where
  pub cut : AreCut weights q values below blocks
  pub above : List Item
  pub from : planes_reading book options values depths weights q stages below ≡
      above ++ planes_reading book options values depths weights q stages (suc cut.plane)
  pub some : List Item
  pub is : items ≡ above ++ (items_before book (options cut.plane)
      (record { blocks = values; depths = depths; weights = weights; number = cut.plane; q = q }) cut.spot ++ some)
