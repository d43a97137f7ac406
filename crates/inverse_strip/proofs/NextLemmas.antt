-- A block row whose blocks were set.
use Rattle.std.proofs.Common.{◌≡◌, ℕ, ◌+◌, ◌*◌, ◌/◌, ◌%◌, ◌<◌, ℤ, sym, ap, ◌∙◌, subst, arith}
use Rattle.std.proofs.lemmas.Bool.Decides.{nat_tests}
use Rattle.std.proofs.lemmas.Nat.{div-add-mod', div_below, mod_below}
use Rattle.wave_defs.specs.Pyramid.{Pyramid, band_of}
use Rattle.wave_defs.specs.Blocks.{Place, IsPlace, block_side, coefficient}
use Rattle.wave_defs.proofs.Equations.{coefficient-is}
use Rattle.wave_defs.proofs.BlockPlaces.{position-there}
use Rattle.block_families.specs.Places.{place_in}
use Rattle.inverse_strip.specs.declared.strip.StripInverse.{StripInverse}
use Rattle.inverse_strip.specs.Strip.{IsNext, numbers_of}

-- the number at a place is the number at the position of its block
number-there : (p : Pyramid) (t n : ℕ) (numbers : Place → ℤ) →
    ((column i : ℕ) → column < n → i < 64 → numbers (place_in column i) ≡ coefficient p t column i) → (band y column x : ℕ) →
    IsPlace (record { band = band; row = y; column = x }) → column < n → band_of p band (block_side band * t + y) (block_side band * column + x)
    ≡ numbers (record { band = band; row = y; column = block_side band * column + x })
number-there p t n numbers set band y column x is h =
    let at = position-there band y x is in
    let here = set column at.0 h at.1 ∙ coefficient-is p t column at.0 in
    let place = at.2 in
    let number = ap (λ (v : Place). band_of p v.band (block_side v.band * t + v.row) (block_side v.band * column + v.column)) place in
    let valid = ap (λ (v : Place). numbers (record { band = v.band; row = v.row; column = block_side v.band * column + v.column })) place in
    sym (sym valid ∙ here ∙ number)

pub IsNext-blocks : (p : Pyramid) (t : ℕ) (s : StripInverse) →
    ((column i : ℕ) → column < s.next.columns → i < 64 → numbers_of s (place_in column i) ≡ coefficient p t column i) → IsNext p t s
IsNext-blocks p t s set = record {
  band = λ b hb. record {
    at = λ y j hy hj.
        let side = block_side b in
        let some : 0 < side = grind (arith, nat_tests) in
        let column = j / side in
        let x = j % side in
        let whole = div-add-mod' j side in
        let turned : column * side ≡ side * column = omega arith in
        let e : side * column + x ≡ j = omega arith in
        let there = number-there p t s.next.columns (numbers_of s) set b y column x (record { band = hb; row = hy; column = mod_below j side some })
        (div_below j side s.next.columns some (omega arith)) in
        subst (λ (k : ℕ). band_of p b (side * t + y) k ≡ numbers_of s (record { band = b; row = y; column = k })) e there;
  };
}
