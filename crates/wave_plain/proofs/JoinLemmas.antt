-- The inverse of a level, from its passes.
use Rattle.std.proofs.Common.{◌≡◌, ℕ, ◌*◌, ◌^◌, ◌≤◌, ℤ, sym, subst, arith}
use Rattle.wave_plain.specs.declared.Plane.{Plane}
use Rattle.wave_defs.specs.Level.{columns_merged, rows_merged}
use Rattle.wave_defs.specs.Lifted.{columns_even, columns_odd}
use Rattle.wave_defs.specs.Within.{EachWithin}
use Rattle.wave_defs.specs.Held.{SameWithin}
use Rattle.wave_defs.proofs.Floors.{even_of-within}
use Rattle.wave_defs.proofs.LineLaws.{prediction-same}
use Rattle.wave_defs.proofs.LevelSame.{SameWithin-trans, rows_merged-same}
use Rattle.wave_defs.proofs.LevelWithin.{EachWithin-more, EachWithin-same}
use Rattle.wave_defs.proofs.LiftLaws.{SameWithin-columns_merged}
use Rattle.wave_plain.specs.Images.{image_of, Shows}
use Rattle.wave_defs.specs.Rings.{even_rows, odd_rows}
use Rattle.wave_defs.proofs.Equations.{columns_even-is, columns_odd-is}

SameWithin-sym : (r w : ℕ) (x y : ℕ → ℕ → ℤ) → SameWithin r w x y → SameWithin r w y x
SameWithin-sym r w x y s = record { at = λ i j hi hj. sym (s.at i j hi hj) }

columns_even-within : (m n w : ℕ) (c d : ℕ → ℕ → ℤ) → 1 ≤ m → EachWithin m n w c → EachWithin m n w d → EachWithin (2 * m) n w (columns_even c d)
columns_even-within m n w c d one wc wd = record {
  at = λ i j hi hj. rw columns_even-is (even_of-within m n i (λ r. c r j) (λ r. d r j) one hi (record { at = λ k h. wc.at k j h hj })
      (record { at = λ k h. wd.at k j h hj }));
}

columns_odd-same : (n w : ℕ) (e f d : ℕ → ℕ → ℤ) → 2 ≤ n → SameWithin n w e f → SameWithin n w (columns_odd e d n) (columns_odd f d n)
columns_odd-same n w e f d two s = record {
  at = λ i j hi hj.
      let p = prediction-same n i (λ r. e r j) (λ r. f r j) two hi (record { at = λ k h. s.at k j h hj }) in
      grind (arith, columns_odd-is);
}

-- the even rows that were made are bounded
pub even_rows-within : (n w : ℕ) (x c d : ℕ → ℕ → ℤ) → EachWithin (2 ^ 38) n w c → EachWithin (2 ^ 38) n w d →
    SameWithin n w (even_rows x) (columns_even c d) → EachWithin (2 ^ 40) n w (even_rows x)
even_rows-within n w x c d wc wd s =
    EachWithin-more _ (2 ^ 40) _ n _ w _ (omega arith) (omega arith) (omega arith)
    (EachWithin-same _ n w _ _ s (columns_even-within (2 ^ 38) n w c d (omega arith) wc wd))

-- x is the image after its even rows were made, and y after the odd ones too
pub merged_by_rows : (n w : ℕ) (x y c d : ℕ → ℕ → ℤ) → 2 ≤ n → SameWithin n w (even_rows x) (columns_even c d) →
    SameWithin n w (even_rows y) (even_rows x) → SameWithin n w (odd_rows y) (columns_odd (even_rows x) d n) → SameWithin (2 * n) w y (columns_merged c d n)
merged_by_rows n w x y c d two even kept odd =
    SameWithin-columns_merged y c d n w two
    (SameWithin-trans n w _ _ _ kept even)
    (SameWithin-trans n w _ _ _ odd (columns_odd-same n w (even_rows x) (even_rows y) d two (SameWithin-sym n w _ _ kept)))

-- ---- planes

pub shown_plane_within : (b c r s v w : ℕ) (a : ℕ → ℕ → ℤ) (p : Plane) → b ≤ c → s ≡ r → v ≡ w → Shows r w a p → EachWithin b r w a →
    EachWithin c s v (image_of p)
shown_plane_within b c r s v w a p le er ew shown within =
    EachWithin-more b c r s w v _ le (omega arith) (omega arith) (EachWithin-same b r w _ _ shown.cells within)

-- the rows of planes that show two halves
pub shown_rows : (r m : ℕ) (x y : ℕ → ℕ → ℤ) (l h p : Plane) → 2 ≤ m → Shows r m x l → Shows r m y h →
    Shows l.rows (2 * l.width) (rows_merged (image_of l) (image_of h) l.width) p → Shows r (2 * m) (rows_merged x y m) p
shown_rows r m x y l h p two low high made =
    let c = subst (λ (k : ℕ). Shows k (2 * l.width) (rows_merged (image_of l) (image_of h) l.width) p) low.size.rows_are made in
    let d = subst (λ (k : ℕ). Shows r (2 * k) (rows_merged (image_of l) (image_of h) k) p) low.size.columns_are c in
    record { size = d.size; cells = SameWithin-trans r (2 * m) _ _ _ d.cells (rows_merged-same r m _ _ _ _ two low.cells high.cells) }

pub columns_shown_at : (r w n m : ℕ) (x y : ℕ → ℕ → ℤ) (p : Plane) → r ≡ n → w ≡ m → Shows (2 * r) w (columns_merged x y r) p →
    Shows (2 * n) m (columns_merged x y n) p
columns_shown_at r w n m x y p er ew shown =
    let c = subst (λ (k : ℕ). Shows (2 * k) w (columns_merged x y k) p) er shown in
    subst (λ (k : ℕ). Shows (2 * n) k (columns_merged x y n) p) ew c
