-- The numbers of a block, by block and position.
use Rattle.std.proofs.Common.{◌≡◌, ℕ, zero, suc, Bool, true, ◌+◌, ◌*◌, ◌/◌, ◌%◌, ◌^◌, ◌<◌, ◌≤◌, ℤ, pos, ◌*ℤ◌, List, length, get_or, map, refl, ap, ◌∙◌}
use Rattle.std.proofs.Common.{arith, nat_lt, ◌&&◌, slice_index}
use Rattle.std.specs.List.{range_with_len, list_all}
use Rattle.std.proofs.lemmas.Bool.Decides.{nat_tests}
use Rattle.std.proofs.lemmas.List.{same_lists, get_or_default}
use Rattle.std.proofs.lemmas.List.Folds.{list_all_at}
use Rattle.std.proofs.lemmas.List.FromFn.{length-range_with_len, get_or-range_with_len, length-map-range_with_len, get_or-map-range_with_len}
use Rattle.wave_defs.specs.Pyramid.{Pyramid, band_of}
use Rattle.wave_defs.specs.Blocks.{Place, IsPlace, place_of, block_side, coefficient, block, blocks, weight_at}
use Rattle.wave_defs.specs.Within.{IsWithin, EachWithin, PyramidWithin}
use Rattle.wave_defs.specs.Held.{Agrees, signal}
use Rattle.wave_defs.proofs.LevelWithin.{EachWithin-more}
use Rattle.std.proofs.lemmas.Int.{ints}
use Rattle.std.proofs.lemmas.Nat.{rows}
use Rattle.std.proofs.lemmas.Bool.{true_from_ne_false}

-- a slice that agrees with a signal over its whole length is the signal's table
pub table_of : (xs : List ℤ) (f : ℕ → ℤ) → Agrees (length xs) (signal xs) f → xs ≡ map f (range_with_len 0 (length xs))
table_of xs f a = grind (arith, nat_tests, same_lists, length-map-range_with_len, get_or_default, get_or-map-range_with_len)

-- ---- the lists of blocks

pub length-block : (p : Pyramid) (weights : List ℕ) (r s : ℕ) → length (block p weights r s) ≡ 64
unfolding block
length-block p weights r s = length-map-range_with_len (λ (i : ℕ). coefficient p r s i *ℤ weight_at weights i) 0 64

pub length-blocks : (p : Pyramid) (weights : List ℕ) (r c : ℕ) → length (blocks p weights r c) ≡ r * c
unfolding blocks
length-blocks p weights r c = length-map-range_with_len (λ (b : ℕ). block p weights (b / c) (b % c)) 0 (r * c)

pub get_or-block : (p : Pyramid) (weights : List ℕ) (r s i : ℕ) (d : ℤ) → i < 64 → get_or (block p weights r s) i d ≡ coefficient p r s i *ℤ weight_at weights i
unfolding block
get_or-block p weights r s i d h = get_or-map-range_with_len (λ (i : ℕ). coefficient p r s i *ℤ weight_at weights i) 0 64 i i d h (omega arith)

pub get_or-blocks : (p : Pyramid) (weights : List ℕ) (r c b : ℕ) (d : List ℤ) → b < r * c → get_or (blocks p weights r c) b d ≡ block p weights (b / c) (b % c)
unfolding blocks
get_or-blocks p weights r c b d h = get_or-map-range_with_len (λ (b : ℕ). block p weights (b / c) (b % c)) 0 (r * c) b b d h (omega arith)

-- ---- each position has a place in its block: a test of all 64

is_place : Place → Bool
is_place p = nat_lt p.band 10 && nat_lt p.row (block_side p.band) && nat_lt p.column (block_side p.band)

all_places : list_all (λ i. is_place (place_of i)) (range_with_len 0 64) ≡ true
unfolding place_of is_place
all_places = refl

pub passes : (p : ℕ → Bool) (n i : ℕ) → list_all p (range_with_len 0 n) ≡ true → i < n → p i ≡ true
passes p n i all h =
    let long = length-range_with_len 0 n in
    let at : get_or (range_with_len 0 n) i 0 ≡ i = get_or-range_with_len 0 n i 0 h ∙ omega arith in
    true_from_ne_false (p i) (λ f. let g = list_all_at p (range_with_len 0 n) i 0 (omega arith) (ap p at ∙ f) in cc)

place_holds : (p : Place) → is_place p ≡ true → IsPlace p
unfolding is_place
place_holds p e = record { band = grind (arith, nat_tests); row = grind (arith, nat_tests); column = grind (arith, nat_tests) }

pub place_of-is_place : (i : ℕ) → i < 64 → IsPlace (place_of i)
place_of-is_place i h = place_holds (place_of i) (passes (λ i. is_place (place_of i)) 64 i all_places h)

-- ---- bounds on the weighted numbers

pub weighted-within : (w b : ℕ) (z : ℤ) → w ≤ 3 → IsWithin b z → IsWithin (8 * b) (z *ℤ pos (2 ^ w))
weighted-within zero b z h k = record { above = omega (arith, ints); below = omega (arith, ints) }
weighted-within (suc zero) b z h k = record { above = omega (arith, ints); below = omega (arith, ints) }
weighted-within (suc (suc zero)) b z h k = record { above = omega (arith, ints); below = omega (arith, ints) }
weighted-within (suc (suc (suc zero))) b z h k = record { above = omega (arith, ints); below = omega (arith, ints) }
weighted-within (suc (suc (suc (suc w)))) b z h k = absurd (omega arith)

-- a band by its number, if the bound of the last level is right for all
pub band_of-within : (a b m r c : ℕ) (p : Pyramid) → a ≤ m → b ≤ m → PyramidWithin a b m r c p → (band : ℕ) → band < 10 →
    EachWithin m (block_side band * r) (block_side band * c) (band_of p band)
band_of-within a b m r c p ha hb w zero h = EachWithin-more _ m _ _ _ _ _ (omega arith) (omega arith) (omega arith) w.hh1
band_of-within a b m r c p ha hb w (suc zero) h = EachWithin-more _ m _ _ _ _ _ (omega arith) (omega arith) (omega arith) w.hl1
band_of-within a b m r c p ha hb w (suc (suc zero)) h = EachWithin-more _ m _ _ _ _ _ (omega arith) (omega arith) (omega arith) w.lh1
band_of-within a b m r c p ha hb w (suc (suc (suc zero))) h = EachWithin-more _ m _ _ _ _ _ (omega arith) (omega arith) (omega arith) w.hh2
band_of-within a b m r c p ha hb w (suc (suc (suc (suc zero)))) h = EachWithin-more _ m _ _ _ _ _ (omega arith) (omega arith) (omega arith) w.hl2
band_of-within a b m r c p ha hb w (suc (suc (suc (suc (suc zero))))) h = EachWithin-more _ m _ _ _ _ _ (omega arith) (omega arith) (omega arith) w.lh2
band_of-within a b m r c p ha hb w (suc (suc (suc (suc (suc (suc zero)))))) h = EachWithin-more _ m _ _ _ _ _ (omega arith) (omega arith) (omega arith) w.hh3
band_of-within a b m r c p ha hb w (suc (suc (suc (suc (suc (suc (suc zero))))))) h =
    EachWithin-more _ m _ _ _ _ _ (omega arith) (omega arith) (omega arith) w.hl3
band_of-within a b m r c p ha hb w (suc (suc (suc (suc (suc (suc (suc (suc zero)))))))) h =
    EachWithin-more _ m _ _ _ _ _ (omega arith) (omega arith) (omega arith) w.lh3
band_of-within a b m r c p ha hb w (suc (suc (suc (suc (suc (suc (suc (suc (suc zero))))))))) h =
    EachWithin-more _ m _ _ _ _ _ (omega arith) (omega arith) (omega arith) w.ll3
band_of-within a b m r c p ha hb w (suc (suc (suc (suc (suc (suc (suc (suc (suc (suc band)))))))))) h = absurd (omega arith)

pub coefficient-within : (r c i j k : ℕ) (p : Pyramid) (weights : List ℕ) → i < r → j < c → k < 64 → ((band : ℕ) → slice_index weights band ≤ 3) →
    PyramidWithin 409600 2560000 16000000 r c p → IsWithin 128000000 (coefficient p i j k *ℤ weight_at weights k)
unfolding coefficient
coefficient-within r c i j k p weights hi hj hk small w =
    let place = place_of k in
    let side = block_side place.band in
    let is = place_of-is_place k hk in
    let each = band_of-within _ _ _ r c p (omega arith) (omega arith) w place.band is.band in
    let row : side * i + place.row < side * r = grind (arith, rows) in
    let column : side * j + place.column < side * c = grind (arith, rows) in
    weighted-within (slice_index weights place.band) 16000000 _ (small place.band) (each.at (side * i + place.row) (side * j + place.column) row column)
