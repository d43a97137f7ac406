-- From the bands of three levels, as the code has them, to the pyramid of the image.
use Rattle.std.proofs.Common.{◌≡◌, ℕ, zero, suc, ◌*◌, ◌/◌, ◌^◌, ◌≤◌, ℤ, List, [], ◌∷◌, map, Some, refl, ap, subst, arith, vec_len, slice_get, slice_index_or}
use Rattle.wave_plain.specs.declared.Plane.{Plane}
use Rattle.wave_plain.specs.declared.Bands.{Bands}
use Rattle.wave_plain.specs.declared.samples.Samples.{Samples}
use Rattle.wave_plain.specs.declared.level.PlainLevel.{PlainLevel}
use Rattle.wave_defs.specs.Level.{level}
use Rattle.wave_defs.specs.Pyramid.{Pyramid}
use Rattle.wave_defs.specs.Blocks.{block_side}
use Rattle.wave_defs.specs.Within.{EachWithin}
use Rattle.wave_defs.specs.Held.{SameWithin}
use Rattle.wave_defs.proofs.LevelSame.{level-same, SameWithin-trans}
use Rattle.wave_defs.proofs.LevelWithin.{EachWithin-more, level-within}
use Rattle.wave_plain.specs.Images.{HasSize, Shows, ShowsBands, image_of, zeros}
use Rattle.wave_plain.specs.ShownSamples.{samples_of, ShowsSamples, ShowsLevel}

-- a level of samples that show an image is the level of the image
shown_as : (n m : ℕ) (x y : ℕ → ℕ → ℤ) (p : Plane) → SameWithin n m x y → Shows n m x p → Shows n m y p
shown_as n m x y p same shown = record { size = shown.size; cells = SameWithin-trans n m _ _ _ shown.cells same }

pub shown_level : (r w n m : ℕ) (a : ℕ → ℕ → ℤ) (s : Samples) (l : PlainLevel) → r ≡ 2 * n → w ≡ 2 * m → 2 ≤ n → 2 ≤ m → ShowsSamples r w a s →
    ShowsLevel (s.rows / 2) (s.width / 2) (level (samples_of s) (s.rows / 2) (s.width / 2)) l → ShowsLevel n m (level a n m) l
shown_level r w n m a s l er ew hn hm shown made =
    let rows : s.rows / 2 ≡ n = omega (arith, shown.rows_are) in
    let columns : s.width / 2 ≡ m = omega (arith, shown.columns_are) in
    let c = subst (λ (k : ℕ). ShowsLevel k (s.width / 2) (level (samples_of s) k (s.width / 2)) l) rows made in
    let d = subst (λ (k : ℕ). ShowsLevel n k (level (samples_of s) n k) l) columns c in
    let tall = subst (λ (k : ℕ). SameWithin k w (samples_of s) a) er shown.cells in
    let wide = subst (λ (k : ℕ). SameWithin (2 * n) k (samples_of s) a) ew tall in
    let same = level-same n m (samples_of s) a hn hm wide in
    record {
      ll = record { rows_are = d.ll.rows_are; columns_are = d.ll.columns_are; cells = SameWithin-trans n m _ _ _ d.ll.cells same.ll };
      hl = shown_as n m _ _ _ same.hl d.hl;
      lh = shown_as n m _ _ _ same.lh d.lh;
      hh = shown_as n m _ _ _ same.hh d.hh;
    }

-- the low bands of the first two levels are bounded
pub first_within : (r c : ℕ) (a : ℕ → ℕ → ℤ) → 2 ≤ r → 2 ≤ c → EachWithin (2 ^ 16) (8 * r) (8 * c) a →
    EachWithin 409600 (4 * r) (4 * c) (level a (4 * r) (4 * c)).ll
first_within r c a hr hc b =
    let start = EachWithin-more _ (4 * 16384) _ (2 * (4 * r)) _ (2 * (4 * c)) a (omega arith) (omega arith) (omega arith) b in
    (level-within 16384 (4 * r) (4 * c) a (omega arith) (omega arith) (omega arith) start).ll

pub second_within : (r c : ℕ) (a : ℕ → ℕ → ℤ) → 2 ≤ r → 2 ≤ c → EachWithin 409600 (4 * r) (4 * c) a →
    EachWithin 2560000 (2 * r) (2 * c) (level a (2 * r) (2 * c)).ll
second_within r c a hr hc b =
    let start = EachWithin-more _ (4 * 102400) _ (2 * (2 * r)) _ (2 * (2 * c)) a (omega arith) (omega arith) (omega arith) b in
    (level-within 102400 (2 * r) (2 * c) a (omega arith) (omega arith) (omega arith) start).ll

-- ten planes in a list
sized : (n m : ℕ) (p q : Plane) → Some p ≡ Some q → HasSize n m p → HasSize n m q
sized n m p q e h = let same : p ≡ q = cc in subst (λ (x : Plane). HasSize n m x) same h

held : (n m : ℕ) (x y a : ℕ → ℕ → ℤ) → x ≡ y → SameWithin n m y a → SameWithin n m x a
held n m x y a e same = rw e same

-- block_side is 1 at the third level
once : (r c : ℕ) (p : Plane) → HasSize r c p → HasSize (1 * r) (1 * c) p
once r c p h =
    let er : 1 * r ≡ r = omega arith in
    let ec : 1 * c ≡ c = omega arith in
    rw (er, ec) h

sizes_listed : (r c : ℕ) (P : Pyramid) (hh1 hl1 lh1 hh2 hl2 lh2 hh3 hl3 lh3 ll3 : Plane) → Shows (4 * r) (4 * c) P.hh1 hh1 →
    Shows (4 * r) (4 * c) P.hl1 hl1 → Shows (4 * r) (4 * c) P.lh1 lh1 → Shows (2 * r) (2 * c) P.hh2 hh2 → Shows (2 * r) (2 * c) P.hl2 hl2 →
    Shows (2 * r) (2 * c) P.lh2 lh2 → Shows r c P.hh3 hh3 → Shows r c P.hl3 hl3 → Shows r c P.lh3 lh3 → Shows r c P.ll3 ll3 → (band : ℕ) (p : Plane) →
    slice_get (hh1 ∷ hl1 ∷ lh1 ∷ hh2 ∷ hl2 ∷ lh2 ∷ hh3 ∷ hl3 ∷ lh3 ∷ ll3 ∷ []) band ≡ Some p → HasSize (block_side band * r) (block_side band * c) p
sizes_listed r c P hh1 hl1 lh1 hh2 hl2 lh2 hh3 hl3 lh3 ll3 s0 s1 s2 s3 s4 s5 s6 s7 s8 s9 zero p e = sized _ _ _ _ e s0.size
sizes_listed r c P hh1 hl1 lh1 hh2 hl2 lh2 hh3 hl3 lh3 ll3 s0 s1 s2 s3 s4 s5 s6 s7 s8 s9 (suc zero) p e = sized _ _ _ _ e s1.size
sizes_listed r c P hh1 hl1 lh1 hh2 hl2 lh2 hh3 hl3 lh3 ll3 s0 s1 s2 s3 s4 s5 s6 s7 s8 s9 (suc (suc zero)) p e = sized _ _ _ _ e s2.size
sizes_listed r c P hh1 hl1 lh1 hh2 hl2 lh2 hh3 hl3 lh3 ll3 s0 s1 s2 s3 s4 s5 s6 s7 s8 s9 (suc (suc (suc zero))) p e = sized _ _ _ _ e s3.size
sizes_listed r c P hh1 hl1 lh1 hh2 hl2 lh2 hh3 hl3 lh3 ll3 s0 s1 s2 s3 s4 s5 s6 s7 s8 s9 (suc (suc (suc (suc zero)))) p e = sized _ _ _ _ e s4.size
sizes_listed r c P hh1 hl1 lh1 hh2 hl2 lh2 hh3 hl3 lh3 ll3 s0 s1 s2 s3 s4 s5 s6 s7 s8 s9 (suc (suc (suc (suc (suc zero))))) p e = sized _ _ _ _ e s5.size
sizes_listed r c P hh1 hl1 lh1 hh2 hl2 lh2 hh3 hl3 lh3 ll3 s0 s1 s2 s3 s4 s5 s6 s7 s8 s9 (suc (suc (suc (suc (suc (suc zero)))))) p e =
    sized (1 * r) (1 * c) _ _ e (once r c hh3 s6.size)
sizes_listed r c P hh1 hl1 lh1 hh2 hl2 lh2 hh3 hl3 lh3 ll3 s0 s1 s2 s3 s4 s5 s6 s7 s8 s9 (suc (suc (suc (suc (suc (suc (suc zero))))))) p e =
    sized (1 * r) (1 * c) _ _ e (once r c hl3 s7.size)
sizes_listed r c P hh1 hl1 lh1 hh2 hl2 lh2 hh3 hl3 lh3 ll3 s0 s1 s2 s3 s4 s5 s6 s7 s8 s9 (suc (suc (suc (suc (suc (suc (suc (suc zero)))))))) p e =
    sized (1 * r) (1 * c) _ _ e (once r c lh3 s8.size)
sizes_listed r c P hh1 hl1 lh1 hh2 hl2 lh2 hh3 hl3 lh3 ll3 s0 s1 s2 s3 s4 s5 s6 s7 s8 s9 (suc (suc (suc (suc (suc (suc (suc (suc (suc zero))))))))) p e =
    sized (1 * r) (1 * c) _ _ e (once r c ll3 s9.size)
sizes_listed r c P hh1 hl1 lh1 hh2 hl2 lh2 hh3 hl3 lh3 ll3 s0 s1 s2 s3 s4 s5 s6 s7 s8 s9 (suc (suc (suc (suc (suc (suc (suc (suc (suc (suc band)))))))))) p
    e = cc

pub bands_shown : (r c : ℕ) (P : Pyramid) (b : Bands) (hh1 hl1 lh1 hh2 hl2 lh2 hh3 hl3 lh3 ll3 : Plane) → b.rows ≡ 8 * r → b.width ≡ 8 * c →
    b.planes.items ≡ hh1 ∷ hl1 ∷ lh1 ∷ hh2 ∷ hl2 ∷ lh2 ∷ hh3 ∷ hl3 ∷ lh3 ∷ ll3 ∷ [] → vec_len b.planes ≡ 10 → Shows (4 * r) (4 * c) P.hh1 hh1 →
    Shows (4 * r) (4 * c) P.hl1 hl1 → Shows (4 * r) (4 * c) P.lh1 lh1 → Shows (2 * r) (2 * c) P.hh2 hh2 → Shows (2 * r) (2 * c) P.hl2 hl2 →
    Shows (2 * r) (2 * c) P.lh2 lh2 → Shows r c P.hh3 hh3 → Shows r c P.hl3 hl3 → Shows r c P.lh3 lh3 → Shows r c P.ll3 ll3 → ShowsBands r c P b
bands_shown r c P b hh1 hl1 lh1 hh2 hl2 lh2 hh3 hl3 lh3 ll3 er ec e ten s0 s1 s2 s3 s4 s5 s6 s7 s8 s9 =
    let at = λ (k : ℕ). ap (λ (xs : List Plane). slice_index_or (map image_of xs) k zeros) e in
    record {
      whole = record {
        rows_are = er;
        columns_are = ec;
        ten = ten;
        sizes = λ band p h. sizes_listed r c P hh1 hl1 lh1 hh2 hl2 lh2 hh3 hl3 lh3 ll3 s0 s1 s2 s3 s4 s5 s6 s7 s8 s9 band p (rw e at h);
      };
      bands = record {
        hh1 = held _ _ _ _ _ (at 0) s0.cells;
        hl1 = held _ _ _ _ _ (at 1) s1.cells;
        lh1 = held _ _ _ _ _ (at 2) s2.cells;
        hh2 = held _ _ _ _ _ (at 3) s3.cells;
        hl2 = held _ _ _ _ _ (at 4) s4.cells;
        lh2 = held _ _ _ _ _ (at 5) s5.cells;
        hh3 = held _ _ _ _ _ (at 6) s6.cells;
        hl3 = held _ _ _ _ _ (at 7) s7.cells;
        lh3 = held _ _ _ _ _ (at 8) s8.cells;
        ll3 = held _ _ _ _ _ (at 9) s9.cells;
      };
    }

-- one level after the other
pub first_shown : (rows width r c : ℕ) (a : ℕ → ℕ → ℤ) (s : Samples) (l : PlainLevel) → rows ≡ 8 * r → width ≡ 8 * c → 3 ≤ r → 3 ≤ c →
    ShowsSamples rows width a s → ShowsLevel (s.rows / 2) (s.width / 2) (level (samples_of s) (s.rows / 2) (s.width / 2)) l →
    ShowsLevel (4 * r) (4 * c) (level a (4 * r) (4 * c)) l
first_shown rows width r c a s l er ec hr hc shown made = shown_level rows width (4 * r) (4 * c) a s l (omega arith) (omega arith) (omega arith)
    (omega arith) shown made

pub next_shown : (n m : ℕ) (a : ℕ → ℕ → ℤ) (s : Samples) (l : PlainLevel) → 3 ≤ n → 3 ≤ m → ShowsSamples (2 * n) (2 * m) a s →
    ShowsLevel (s.rows / 2) (s.width / 2) (level (samples_of s) (s.rows / 2) (s.width / 2)) l → ShowsLevel n m (level a n m) l
next_shown n m a s l hn hm shown made = shown_level (2 * n) (2 * m) n m a s l refl refl (omega arith) (omega arith) shown made

pub as_double : (n m k l : ℕ) (a : ℕ → ℕ → ℤ) (s : Samples) → k ≡ 2 * n → l ≡ 2 * m → ShowsSamples k l a s → ShowsSamples (2 * n) (2 * m) a s
as_double n m k l a s ek el shown = rw (← ek, ← el) shown
