-- Each place of a block has a position among its 64 numbers, so blocks that are the same have the same numbers in each band.
use Rattle.std.proofs.Common.{◌≡◌, ℕ, zero, suc, Bool, true, ◌+◌, ◌*◌, ◌/◌, ◌%◌, ◌<◌, ◌≤◌, ◌==◌, if◌then◌else◌, refl, sym, ap, ◌∙◌, arith, List, nat_lt}
use Rattle.std.proofs.Common.{◌&&◌, ◌||◌, not}
use Rattle.std.specs.List.{range_with_len, list_all}
use Rattle.std.proofs.lemmas.Bool.Decides.{nat_tests}
use Rattle.wave_defs.specs.Pyramid.{Pyramid, band_of}
use Rattle.wave_defs.specs.Blocks.{Place, IsPlace, place_of, block_side, coefficient, block}
use Rattle.wave_defs.specs.Reach.{SameBlock}
use Rattle.std.proofs.lemmas.Nat.{rows}
use Rattle.wave_defs.specs.Held.{SameWithin, SamePyramid}
use Rattle.wave_defs.proofs.BlockLaws.{passes, place_of-is_place, length-block, get_or-block}
use Rattle.std.proofs.lemmas.List.{same_lists}
use Rattle.wave_defs.proofs.PyramidLaws.{SameWithin-part}

-- the family of a band: HH, HL and LH of each level are 2, 0 and 1
abbrev pub family_of : ℕ → ℕ
family_of band = (band + 2) % 3

-- the position of a place
abbrev pub position_of : (band row column : ℕ) → ℕ
position_of band row column =
    if band == 9 then 0 else
    (if nat_lt 5 band then 1 + family_of band else
    (if nat_lt 2 band then 4 + 4 * family_of band + 2 * row + column else
    16 + 16 * family_of band + 4 * (2 * (row / 2) + column / 2) + 2 * (row % 2) + column % 2))

is_found : (band row column : ℕ) → Bool
is_found band row column =
    let i = position_of band row column in
    let place = place_of i in
    not (nat_lt row (block_side band) && nat_lt column (block_side band))
    || (nat_lt i 64 && (place.band == band) && (place.row == row) && (place.column == column))

all_found : list_all (λ n. is_found (n / 16) (n / 4 % 4) (n % 4)) (range_with_len 0 160) ≡ true
unfolding place_of is_found
all_found = refl

record IsFound (band row column : ℕ) : Type 0 where
  within : position_of band row column < 64
  is : place_of (position_of band row column) ≡ record { band = band; row = row; column = column }

found : (band row column : ℕ) → IsPlace (record { band = band; row = row; column = column }) → IsFound band row column
unfolding is_found
found band row column is =
    let n = 16 * band + 4 * row + column in
    let small : block_side band < 5 = grind (arith, nat_tests) in
    let hb = is.band in
    let hr = is.row in
    let hc = is.column in
    let b : n / 16 ≡ band = omega arith in
    let r : n / 4 % 4 ≡ row = omega arith in
    let c : n % 4 ≡ column = omega arith in
    let e = passes (λ n. is_found (n / 16) (n / 4 % 4) (n % 4)) 160 n all_found (omega arith) in
    let t : is_found band row column ≡ true = cc in
    let at = place_of (position_of band row column) in
    let eb : at.band ≡ band = grind (arith, nat_tests) in
    let er : at.row ≡ row = grind (arith, nat_tests) in
    let ec : at.column ≡ column = grind (arith, nat_tests) in
    record {
      within = grind (arith, nat_tests);
      is = ap (λ (v : ℕ). record at { band = v }) eb ∙ ap (λ (v : ℕ). record at { band = band; row = v }) er ∙
          ap (λ (v : ℕ). record { band = band; row = row; column = v }) ec;
    }

-- the number at a place of block (t, s)
pub band-same : (p q : Pyramid) (t s k l b y x : ℕ) → SameBlock p q t s → IsPlace (record { band = b; row = y; column = x }) → k ≡ block_side b * t + y →
    l ≡ block_side b * s + x → band_of p b k l ≡ band_of q b k l
unfolding coefficient
band-same p q t s k l b y x same is ek el =
    let f = found b y x is in
    let place = f.is in
    let e = same.at (position_of b y x) f.within in
    let number = λ (w : Pyramid). ap (λ (v : Place). band_of w v.band (block_side v.band * t + v.row) (block_side v.band * s + v.column)) place in
    let left = number p in
    let right = number q in
    let goal : band_of p b (block_side b * t + y) (block_side b * s + x) ≡ band_of q b (block_side b * t + y) (block_side b * s + x) = sym left ∙ e ∙ right in
    rw (ek, el) goal

-- a row and a column of a band of the first, the second and the third level, whose block is the same
pub first-same : (p q : Pyramid) (b k l : ℕ) → b < 3 → SameBlock p q (k / 4) (l / 4) → band_of p b k l ≡ band_of q b k l
first-same p q b k l hb same =
    let side : block_side b ≡ 4 = grind (arith, nat_tests) in
    band-same p q (k / 4) (l / 4) k l b (k % 4) (l % 4) same (record { band = omega arith; row = rw side (omega arith); column = rw side (omega arith) })
    (rw side (omega arith)) (rw side (omega arith))

pub second-same : (p q : Pyramid) (b k l : ℕ) → 3 ≤ b → b < 6 → SameBlock p q (k / 2) (l / 2) → band_of p b k l ≡ band_of q b k l
second-same p q b k l lb hb same =
    let side : block_side b ≡ 2 = grind (arith, nat_tests) in
    band-same p q (k / 2) (l / 2) k l b (k % 2) (l % 2) same (record { band = omega arith; row = rw side (omega arith); column = rw side (omega arith) })
    (rw side (omega arith)) (rw side (omega arith))

pub third-same : (p q : Pyramid) (b k l : ℕ) → 6 ≤ b → b < 10 → SameBlock p q k l → band_of p b k l ≡ band_of q b k l
third-same p q b k l lb hb same =
    let side : block_side b ≡ 1 = grind (arith, nat_tests) in
    band-same p q k l k l b 0 0 same (record { band = omega arith; row = rw side (omega arith); column = rw side (omega arith) }) (rw side (omega arith))
    (rw side (omega arith))

-- ---- the reverse: bands that are the same have the same blocks

pub band_of-same : (p q : Pyramid) (r c : ℕ) → SamePyramid r c p q → (band : ℕ) → band < 10 →
    SameWithin (block_side band * r) (block_side band * c) (band_of p band) (band_of q band)
band_of-same p q r c s zero h = s.hh1
band_of-same p q r c s (suc zero) h = s.hl1
band_of-same p q r c s (suc (suc zero)) h = s.lh1
band_of-same p q r c s (suc (suc (suc zero))) h = s.hh2
band_of-same p q r c s (suc (suc (suc (suc zero)))) h = s.hl2
band_of-same p q r c s (suc (suc (suc (suc (suc zero))))) h = s.lh2
band_of-same p q r c s (suc (suc (suc (suc (suc (suc zero)))))) h = SameWithin-part _ _ _ _ _ _ (omega arith) (omega arith) s.hh3
band_of-same p q r c s (suc (suc (suc (suc (suc (suc (suc zero))))))) h = SameWithin-part _ _ _ _ _ _ (omega arith) (omega arith) s.hl3
band_of-same p q r c s (suc (suc (suc (suc (suc (suc (suc (suc zero)))))))) h = SameWithin-part _ _ _ _ _ _ (omega arith) (omega arith) s.lh3
band_of-same p q r c s (suc (suc (suc (suc (suc (suc (suc (suc (suc zero))))))))) h = SameWithin-part _ _ _ _ _ _ (omega arith) (omega arith) s.ll3
band_of-same p q r c s (suc (suc (suc (suc (suc (suc (suc (suc (suc (suc band)))))))))) h = absurd (omega arith)

pub SamePyramid-block : (p q : Pyramid) (r c t s : ℕ) → SamePyramid r c p q → t < r → s < c → SameBlock p q t s
unfolding coefficient
SamePyramid-block p q r c t s same ht hs = record {
  at = λ k hk.
      let place = place_of k in
      let side = block_side place.band in
      let is = place_of-is_place k hk in
      let band = band_of-same p q r c same place.band is.band in
      let row : side * t + place.row < side * r = grind (arith, rows) in
      let column : side * s + place.column < side * c = grind (arith, rows) in
      band.at (side * t + place.row) (side * s + place.column) row column;
}

-- and the same weighted numbers
pub block-same : (p q : Pyramid) (weights : List ℕ) (t s : ℕ) → SameBlock p q t s → block p weights t s ≡ block q weights t s
block-same p q weights t s same = grind (arith, nat_tests, same_lists, length-block, get_or-block)

-- each place of a block is that of a position
pub position-there : (band row column : ℕ) → IsPlace (record { band = band; row = row; column = column }) →
    (i : ℕ) × (i < 64) × (place_of i ≡ record { band = band; row = row; column = column })
position-there band row column is = let f = found band row column is in (position_of band row column, f.within, f.is)
