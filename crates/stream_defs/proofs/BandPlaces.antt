-- The numbers of a block in the bands of blocks that are counted in raster order.
use Rattle.std.proofs.Common.{◌≡◌, ◌<◌, ◌+◌, ◌*◌, ◌^◌, ◌==◌, ℕ, ℤ, true, List, get_or, ap, ◌∙◌, arith}
use Rattle.std.specs.List.{range_with_len, list_all}
use Rattle.std.proofs.lemmas.Nat.{div-mul-add, mod-mul-add}
use Rattle.std.proofs.lemmas.List.FromFn.{get_or-map-range_with_len}
use Rattle.std.proofs.lemmas.Bool.Decides.{nat_tests}
use Rattle.wave_defs.specs.Line.{floor_div}
use Rattle.wave_defs.specs.Pyramid.{band_of}
use Rattle.wave_defs.specs.Blocks.{Place, IsPlace, place_of, block_side, coefficient}
use Rattle.wave_defs.specs.Reach.{SameBlock}
use Rattle.wave_defs.proofs.Equations.{coefficient-is, place_of-is}
use Rattle.wave_defs.proofs.BlockLaws.{passes, place_of-is_place}
use Rattle.stream_defs.specs.Picture.{position_of, band_with, pyramid_with}

-- each position is that of its place
pub all_return : list_all (λ i. position_of (place_of i) == i) (range_with_len 0 64) ≡ true
unfolding position_of
all_return = simp place_of-is

pub returns : (i : ℕ) → i < 64 → position_of (place_of i) ≡ i
returns i lt =
    let e = passes (λ i. position_of (place_of i) == i) 64 i all_return lt in
    grind arith

-- a band by its number
pub band_there : (numbers : ℕ → ℕ → ℤ) (columns : ℕ) (weights : List ℕ) (band : ℕ) → band < 10 → band_of (pyramid_with numbers columns weights) band
    ≡ band_with numbers columns weights band
unfolding pyramid_with
band_there numbers columns weights band lt = grind (arith, nat_tests, get_or-map-range_with_len)

-- a number in a band, at a place of a block
pub placed : (numbers : ℕ → ℕ → ℤ) (columns : ℕ) (weights : List ℕ) (place : Place) (row column : ℕ) → IsPlace place →
    band_with numbers columns weights place.band (block_side place.band * row + place.row) (block_side place.band * column + place.column)
    ≡ floor_div (numbers (row * columns + column) (position_of place)) (2 ^ get_or weights place.band 0)
unfolding band_with
placed numbers columns weights place row column is = grind (arith, nat_tests, div-mul-add, mod-mul-add)

-- the coefficient at a position of a block
pub coefficient_with : (numbers : ℕ → ℕ → ℤ) (columns : ℕ) (weights : List ℕ) (row column i : ℕ) → i < 64 →
    coefficient (pyramid_with numbers columns weights) row column i ≡ floor_div (numbers (row * columns + column) i) (2 ^ get_or weights (place_of i).band 0)
coefficient_with numbers columns weights row column i lt =
    let place = place_of i in
    let is = place_of-is_place i lt in
    coefficient-is (pyramid_with numbers columns weights) row column i
    ∙ ap (λ (f : ℕ → ℕ → ℤ). f (block_side place.band * row + place.row) (block_side place.band * column + place.column))
    (band_there numbers columns weights place.band is.band)
    ∙ placed numbers columns weights place row column is
    ∙ ap (λ n. floor_div (numbers (row * columns + column) n) (2 ^ get_or weights place.band 0)) (returns i lt)

-- blocks with the same numbers are the same in the bands
pub same_block : (xs ys : ℕ → ℕ → ℤ) (columns : ℕ) (weights : List ℕ) (row column : ℕ) →
    ((i : ℕ) → i < 64 → xs (row * columns + column) i ≡ ys (row * columns + column) i) →
    SameBlock (pyramid_with xs columns weights) (pyramid_with ys columns weights) row column
same_block xs ys columns weights row column same = grind (arith, nat_tests, coefficient_with)
