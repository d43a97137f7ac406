-- The image as a whole, by CCSDS 122.0-B-2: padding, the ten bands of three levels, and the
-- inverse.
use Rattle.std.specs.Prelude.{ℕ, ◌-◌, ◌*◌, min, ℤ, [], ◌∷◌, slice_index_or}
use Rattle.wave_defs.specs.Level.{Quarters, level, joined}

-- an image of rows x width pixels, padded by repeating its last column and then its last row
abbrev pub padded : (ℕ → ℕ → ℤ) → ℕ → ℕ → ℕ → ℕ → ℤ
padded x rows width i j = x (min i (rows - 1)) (min j (width - 1))

-- the bands of three levels; the low band of a level is what the next one is made from, so only the
-- last one stays
pub record Pyramid : Type 0 where
  pub hh1 : ℕ → ℕ → ℤ
  pub hl1 : ℕ → ℕ → ℤ
  pub lh1 : ℕ → ℕ → ℤ
  pub hh2 : ℕ → ℕ → ℤ
  pub hl2 : ℕ → ℕ → ℤ
  pub lh2 : ℕ → ℕ → ℤ
  pub hh3 : ℕ → ℕ → ℤ
  pub hl3 : ℕ → ℕ → ℤ
  pub lh3 : ℕ → ℕ → ℤ
  pub ll3 : ℕ → ℕ → ℤ

-- the ten bands, by the three levels that give them
unfoldable pub pyramid_of : Quarters → Quarters → Quarters → Pyramid
pyramid_of first second third = record {
  hh1 = first.hh;
  hl1 = first.hl;
  lh1 = first.lh;
  hh2 = second.hh;
  hl2 = second.hl;
  lh2 = second.lh;
  hh3 = third.hh;
  hl3 = third.hl;
  lh3 = third.lh;
  ll3 = third.ll;
}

-- three levels of an image of 8 * r rows of 8 * c samples
unfoldable pub pyramid : (ℕ → ℕ → ℤ) → ℕ → ℕ → Pyramid
pyramid a r c =
    let first = level a (4 * r) (4 * c) in
    let second = level first.ll (2 * r) (2 * c) in
    pyramid_of first second (level second.ll r c)

-- the four bands of each level; the low one is made from the levels above
unfoldable pub third_of : Pyramid → Quarters
third_of p = record { ll = p.ll3; hl = p.hl3; lh = p.lh3; hh = p.hh3 }

unfoldable pub second_of : Pyramid → ℕ → ℕ → Quarters
second_of p r c = record { ll = joined (third_of p) r c; hl = p.hl2; lh = p.lh2; hh = p.hh2 }

unfoldable pub first_of : Pyramid → ℕ → ℕ → Quarters
first_of p r c =
    record { ll = joined (second_of p r c) (2 * r) (2 * c); hl = p.hl1; lh = p.lh1; hh = p.hh1 }

-- the inverse: the image that has these bands
unfoldable pub rebuilt : Pyramid → ℕ → ℕ → ℕ → ℕ → ℤ
rebuilt p r c = joined (first_of p r c) (4 * r) (4 * c)

-- The ten bands by number: HH1, HL1, LH1, HH2, HL2, LH2, HH3, HL3, LH3, LL3. The order is this
-- project's own.
abbrev pub band_of : Pyramid → ℕ → ℕ → ℕ → ℤ
band_of p band =
    let bands = p.hh1 ∷ p.hl1 ∷ p.lh1 ∷ p.hh2 ∷ p.hl2 ∷ p.lh2 ∷ p.hh3 ∷ p.hl3 ∷ p.lh3 ∷ p.ll3 ∷ [] in
    slice_index_or bands band p.ll3
