-- The weights of the ten bands.
use Rattle.std.specs.Prelude.{ℕ, List, [], ◌∷◌, ◌≤◌, Bool, nat_le, slice_index}
use Rattle.base_122.specs.declared.weights.Band.{Band}
use Rattle.base_122.specs.declared.weights.Band.TheVariants.{Hh1, Hl1, Lh1, Hh2, Hl2, Lh2, Hh3, Hl3, Lh3, Ll3}

-- the place of a band in a list of ten (this project's own order)
abbrev pub band_place : Band → ℕ
band_place Hh1 = 0
band_place Hl1 = 1
band_place Lh1 = 2
band_place Hh2 = 3
band_place Hl2 = 4
band_place Lh2 = 5
band_place Hh3 = 6
band_place Hl3 = 7
band_place Lh3 = 8
band_place Ll3 = 9

-- a band's exponent in a list of ten
abbrev pub shift_of : List ℕ → Band → ℕ
shift_of shifts band = slice_index shifts (band_place band)

-- an exponent in its range: two bits (CCSDS 122.0-B-2, Part 4 of the segment header)
abbrev pub IsShift : ℕ → Type 0
IsShift n = n ≤ 3

abbrev pub is_shift : ℕ → Bool
is_shift n = nat_le n 3

-- the usual exponents (CCSDS 122.0-B-2, subband weights)
abbrev pub usual_shifts : List ℕ
usual_shifts = 0 ∷ 1 ∷ 1 ∷ 1 ∷ 2 ∷ 2 ∷ 2 ∷ 3 ∷ 3 ∷ 3 ∷ []
