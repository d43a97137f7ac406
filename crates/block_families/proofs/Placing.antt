-- The places of a block are in its block row, and are different.
use Rattle.std.proofs.Common.{◌≡◌, ℕ, ◌+◌, ◌*◌, ◌/◌, ◌%◌, ◌<◌, ◌≤◌, true, refl, sym, ap, ◌∙◌, arith, ◌==◌, if◌then◌else◌, nat_lt, mul-le-mul_left}
use Rattle.std.specs.List.{list_all, range_with_len}
use Rattle.wave_defs.specs.Blocks.{place_of, block_side}
use Rattle.wave_defs.proofs.BlockLaws.{place_of-is_place, passes}
use Rattle.block_families.proofs.Passing.{same_from_test}
use Rattle.block_families.specs.Places.{place_in, IsWithin}
use Rattle.wave_defs.proofs.Equations.{place_of-is}

pub place_within : (columns column i : ℕ) → column < columns → i < 64 → IsWithin columns (place_in column i)
place_within columns column i inside below =
    let p = place_of-is_place i below in
    let side = block_side (place_of i).band in
    let whole : side * (column + 1) ≤ side * columns = mul-le-mul_left side (omega arith) in
    let more : side * (column + 1) ≡ side * column + side = grind arith in
    record { band = p.band; row = p.row; column = omega (arith, p.column) }

-- the position that has this place in a block
family_at : ℕ → ℕ
family_at band = (band % 3 + 2) % 3

position_at : ℕ → ℕ → ℕ → ℕ
position_at band row column =
    if band == 9 then 0 else
    (if nat_lt band 3 then 16 + 16 * family_at band + 4 * (2 * (row / 2) + column / 2) + (2 * (row % 2) + column % 2) else
    (if nat_lt band 6 then 4 + 4 * family_at band + (2 * row + column) else 1 + family_at band))

all_back : list_all (λ i. position_at (place_of i).band (place_of i).row (place_of i).column == i) (range_with_len 0 64) ≡ true
unfolding position_at family_at
all_back = simp place_of-is refl

back : (i : ℕ) → i < 64 → position_at (place_of i).band (place_of i).row (place_of i).column ≡ i
back i below =
    same_from_test _ _ (passes (λ i. position_at (place_of i).band (place_of i).row (place_of i).column == i) 64 i all_back below)

same_rest : (side s a b : ℕ) → side * s + a ≡ side * s + b → a ≡ b
same_rest side s a b h = omega arith

-- two positions with the same place are the same
pub one_place : (column i j : ℕ) → i < 64 → j < 64 → place_in column i ≡ place_in column j → i ≡ j
one_place column i j hi hj same =
    let p = place_of i in
    let q = place_of j in
    let band : p.band ≡ q.band = ap (λ x. x.band) same in
    let row : p.row ≡ q.row = ap (λ x. x.row) same in
    let columns : block_side p.band * column + p.column ≡ block_side q.band * column + q.column = ap (λ x. x.column) same in
    let rest : p.column ≡ q.column = same_rest (block_side q.band) column p.column q.column (ap (λ b. block_side b * column + p.column) (sym band) ∙ columns) in
    sym (back i hi) ∙ ap (λ b. position_at b p.row p.column) band ∙ ap (λ r. position_at q.band r p.column) row ∙ ap (λ c. position_at q.band q.row c) rest
    ∙ back j hj
