-- What the definitions compute to: outside this crate these equations are cited, and nothing is unfolded.
use Rattle.std.proofs.Common.{◌≡◌, refl, ℕ, ◌+◌, ◌-◌, ◌*◌, ◌/◌, ◌%◌, ℤ, pos, ◌*ℤ◌, List, map, if◌then◌else◌, nat_lt, ◌==◌, length, ◌+ℤ◌, ◌-ℤ◌}
use Rattle.std.specs.List.{range_with_len}
use Rattle.wave_defs.specs.Pyramid.{Pyramid, band_of, third_of, second_of, first_of, rebuilt}
use Rattle.wave_defs.specs.Blocks.{family_band, block_side, child_place, grandchild_place, place_of, coefficient, weight_at, block}
use Rattle.wave_defs.specs.Level.{Quarters, rows_low, rows_high, columns_low, columns_high, rows_merged, columns_merged, level, joined}
use Rattle.wave_defs.specs.Held.{block_at, blocks_in}
use Rattle.wave_defs.specs.Line.{low_of, high_of, merged, predicted, correction, prediction, even_of, floor_div, even_before, even_within, odd_of}
use Rattle.wave_defs.specs.Lifted.{less_predicted, less_correction, plus_predicted, plus_correction, columns_even, columns_odd}
use Rattle.wave_defs.specs.Rolling.{open_high, open_low}

pub place_of-is : (i : ℕ) → place_of i ≡ if i == 0 then record { band = 9; row = 0; column = 0 } else
    (if nat_lt i 4 then record { band = family_band 3 (i - 1); row = 0; column = 0 } else
    (if nat_lt i 16 then child_place ((i - 4) / 4) (i % 4) else grandchild_place ((i - 16) / 16) (i % 16 / 4) (i % 4)))
unfolding place_of
place_of-is i = refl

pub coefficient-is : (p : Pyramid) (r s i : ℕ) → coefficient p r s i ≡ let place = place_of i in let side =
    block_side place.band in band_of p place.band (side * r + place.row) (side * s + place.column)
unfolding coefficient
coefficient-is p r s i = refl

pub blocks_in-is : (cells : List ℤ) → blocks_in cells ≡ map (block_at cells) (range_with_len 0 (length cells / 64))
unfolding blocks_in
blocks_in-is cells = refl

pub columns_high-is : (a : ℕ → ℕ → ℤ) (n i j : ℕ) → columns_high a n i j ≡ high_of (λ r. a r j) n i
unfolding columns_high
columns_high-is a n i j = refl

pub columns_merged-is : (c d : ℕ → ℕ → ℤ) (n i j : ℕ) → columns_merged c d n i j ≡ merged (λ r. c r j) (λ r. d r j) n i
unfolding columns_merged
columns_merged-is c d n i j = refl

pub level-is : (a : ℕ → ℕ → ℤ) (n m : ℕ) → level a n m ≡ record {
  ll = columns_low (rows_low a m) n;
  hl = columns_low (rows_high a m) n;
  lh =
      columns_high (rows_low a m) n;
  hh = columns_high (rows_high a m) n;
}
unfolding level
level-is a n m = refl

pub joined-is : (b : Quarters) (n m : ℕ) → joined b n m ≡ rows_merged (columns_merged b.ll b.lh n) (columns_merged b.hl b.hh n) m
unfolding joined
joined-is b n m = refl

pub less_predicted-is : (odd a b c d : ℕ → ℤ) (j : ℕ) → less_predicted odd a b c d j ≡ odd j -ℤ predicted (a j) (b j) (c j) (d j)
unfolding less_predicted
less_predicted-is odd a b c d j = refl

pub less_correction-is : (even before after : ℕ → ℤ) (j : ℕ) → less_correction even before after j ≡ even j -ℤ correction (before j) (after j)
unfolding less_correction
less_correction-is even before after j = refl

pub plus_predicted-is : (high a b c d : ℕ → ℤ) (j : ℕ) → plus_predicted high a b c d j ≡ high j +ℤ predicted (a j) (b j) (c j) (d j)
unfolding plus_predicted
plus_predicted-is high a b c d j = refl

pub plus_correction-is : (low before after : ℕ → ℤ) (j : ℕ) → plus_correction low before after j ≡ low j +ℤ correction (before j) (after j)
unfolding plus_correction
plus_correction-is low before after j = refl

pub columns_even-is : (c d : ℕ → ℕ → ℤ) (i j : ℕ) → columns_even c d i j ≡ even_of (λ r. c r j) (λ r. d r j) i
unfolding columns_even
columns_even-is c d i j = refl

pub columns_odd-is : (e d : ℕ → ℕ → ℤ) (n i j : ℕ) → columns_odd e d n i j ≡ d i j +ℤ prediction (λ r. e r j) n i
unfolding columns_odd
columns_odd-is e d n i j = refl

pub predicted-is : (a b c d : ℤ) → predicted a b c d ≡ floor_div (pos 9 *ℤ (b +ℤ c) -ℤ (a +ℤ d) +ℤ pos 8) 16
unfolding predicted
predicted-is a b c d = refl

pub correction-is : (before after : ℤ) → correction before after ≡ floor_div (pos 2 -ℤ (before +ℤ after)) 4
unfolding correction
correction-is before after = refl

pub prediction-is : (e : ℕ → ℤ) (n j : ℕ) → prediction e n j ≡ predicted (e (even_before j)) (e j) (e (even_within n (j + 1))) (e (even_within n (j + 2)))
unfolding prediction
prediction-is e n j = refl

pub high_of-is : (x : ℕ → ℤ) (n j : ℕ) → high_of x n j ≡ x (2 * j + 1) -ℤ prediction (λ k. x (2 * k)) n j
unfolding high_of
high_of-is x n j = refl

pub low_of-is : (x : ℕ → ℤ) (n j : ℕ) → low_of x n j ≡ x (2 * j) -ℤ correction (high_of x n (j - 1)) (high_of x n j)
unfolding low_of
low_of-is x n j = refl

pub even_of-is : (c d : ℕ → ℤ) (j : ℕ) → even_of c d j ≡ c j +ℤ correction (d (j - 1)) (d j)
unfolding even_of
even_of-is c d j = refl

pub odd_of-is : (c d : ℕ → ℤ) (n j : ℕ) → odd_of c d n j ≡ d j +ℤ prediction (even_of c d) n j
unfolding odd_of
odd_of-is c d n j = refl

pub third_of-is : (p : Pyramid) → third_of p ≡ record { ll = p.ll3; hl = p.hl3; lh = p.lh3; hh = p.hh3 }
unfolding third_of
third_of-is p = refl

pub second_of-is : (p : Pyramid) (r c : ℕ) → second_of p r c ≡ record { ll = joined (third_of p) r c; hl = p.hl2; lh = p.lh2; hh = p.hh2 }
unfolding second_of
second_of-is p r c = refl

pub first_of-is : (p : Pyramid) (r c : ℕ) → first_of p r c ≡ record { ll = joined (second_of p r c) (2 * r) (2 * c); hl = p.hl1; lh = p.lh1; hh = p.hh1 }
unfolding first_of
first_of-is p r c = refl

pub rebuilt-is : (p : Pyramid) (r c : ℕ) → rebuilt p r c ≡ joined (first_of p r c) (4 * r) (4 * c)
unfolding rebuilt
rebuilt-is p r c = refl

pub open_high-is : (a : ℕ → ℕ → ℤ) (j c : ℕ) → open_high a j c ≡ a (2 * j + 1) c -ℤ predicted (a (2 * even_before j) c) (a (2 * j) c) (a (2 * (j + 1)) c)
    (a (2 * (j + 2)) c)
unfolding open_high
open_high-is a j c = refl

pub open_low-is : (a : ℕ → ℕ → ℤ) (j c : ℕ) → open_low a j c ≡ a (2 * j) c -ℤ correction (open_high a (j - 1) c) (open_high a j c)
unfolding open_low
open_low-is a j c = refl

pub block-is : (p : Pyramid) (weights : List ℕ) (r s : ℕ) → block p weights r s ≡ map (λ i. coefficient p r s i *ℤ weight_at weights i) (range_with_len 0 64)
unfolding block
block-is p weights r s = refl

pub merged-is : (c d : ℕ → ℤ) (n i : ℕ) → merged c d n i ≡ if i % 2 == 0 then even_of c d (i / 2) else odd_of c d n (i / 2)
unfolding merged
merged-is c d n i = refl
