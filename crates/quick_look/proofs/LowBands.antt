-- A look is the lowest band.
use Rattle.std.proofs.Common.{◌≡◌, ◌+◌, ◌*◌, ◌^◌, ℕ, ℤ, get_or, refl, sym, ap, ◌∙◌, arith}
use Rattle.base_122.specs.Sizes.{block_count}
use Rattle.base_122.specs.declared.geometry.Geometry.{Geometry}
use Rattle.wave_defs.specs.Line.{floor_div}
use Rattle.wave_defs.specs.Blocks.{coefficient, place_of}
use Rattle.wave_defs.specs.Pyramid.{Pyramid}
use Rattle.stream_defs.specs.Picture.{pyramid_with}
use Rattle.stream_defs.proofs.BandPlaces.{coefficient_with}
use Rattle.quick_look.specs.Look.{low_with}
use Rattle.wave_defs.proofs.Equations.{place_of-is, coefficient-is}

-- number 0 of a block is in the lowest band
first_band : (place_of 0).band ≡ 9
first_band = rw place_of-is refl

-- and is the coefficient there
pub first_is : (p : Pyramid) (r s : ℕ) → coefficient p r s 0 ≡ p.ll3 r s
first_is p r s =
    let row : 1 * r + 0 ≡ r = omega arith in
    let column : 1 * s + 0 ≡ s = omega arith in
    rw (coefficient-is, place_of-is) (ap (λ k. p.ll3 k (1 * s + 0)) row ∙ ap (p.ll3 r) column)

pub low_is : (g : Geometry) (numbers : ℕ → ℕ → ℤ) (r s : ℕ) → low_with g numbers r s ≡ (pyramid_with numbers (block_count g.width) g.weights.shifts).ll3 r s
unfolding low_with
low_is g numbers r s =
    let c = block_count g.width in
    let weights = g.weights.shifts in
    ap (λ b. floor_div (numbers (r * c + s) 0) (2 ^ get_or weights b 0)) (sym first_band)
    ∙ sym (coefficient_with numbers c weights r s 0 (omega arith)) ∙ first_is (pyramid_with numbers c weights) r s
