-- Samples and planes that were made from samples which show a pass over an image.
use Rattle.std.proofs.Common.{◌≡◌, ℕ, ◌*◌, ◌/◌, ◌≤◌, ℤ, subst, arith}
use Rattle.std.proofs.lemmas.Int.{ints}
use Rattle.wave_plain.specs.declared.Plane.{Plane}
use Rattle.wave_plain.specs.declared.samples.Samples.{Samples}
use Rattle.wave_defs.specs.Level.{columns_low, columns_high}
use Rattle.wave_defs.specs.Within.{EachWithin}
use Rattle.wave_defs.specs.Held.{SameWithin}
use Rattle.wave_defs.proofs.LevelSame.{columns_low-same, columns_high-same, SameWithin-trans}
use Rattle.wave_plain.specs.Images.{Shows}
use Rattle.wave_plain.specs.ShownSamples.{samples_of, ShowsSamples, ShowsHalves}

pub shown_within : (b c r w : ℕ) (a : ℕ → ℕ → ℤ) (s : Samples) → b ≤ c → ShowsSamples r w a s → EachWithin b r w a → EachWithin c s.rows s.width (samples_of s)
shown_within b c r w a s le shown within = record {
  at = λ i j hi hj.
      let er = shown.rows_are in
      let ew = shown.columns_are in
      let e = shown.cells.at i j (omega arith) (omega arith) in
      let k = within.at i j (omega arith) (omega arith) in
      record { above = omega (arith, ints); below = omega (arith, ints) };
}

pub shown_widened : (r w : ℕ) (a : ℕ → ℕ → ℤ) (s : Samples) (p : Plane) → ShowsSamples r w a s → Shows s.rows s.width (samples_of s) p → Shows r w a p
shown_widened r w a s p shown copy =
    let c = subst (λ (k : ℕ). Shows k s.width (samples_of s) p) shown.rows_are copy in
    let d = subst (λ (k : ℕ). Shows r k (samples_of s) p) shown.columns_are c in
    record { size = d.size; cells = SameWithin-trans r w _ _ _ d.cells shown.cells }

pub shown_columns : (r n w : ℕ) (a : ℕ → ℕ → ℤ) (s : Samples) (h : Samples × Samples) → r ≡ 2 * n → 2 ≤ n → ShowsSamples r w a s →
    ShowsHalves (s.rows / 2) s.width (columns_low (samples_of s) (s.rows / 2)) (columns_high (samples_of s) (s.rows / 2)) h →
    ShowsHalves n w (columns_low a n) (columns_high a n) h
shown_columns r n w a s h er two shown halves =
    let half : s.rows / 2 ≡ n = omega (arith, shown.rows_are) in
    let c = subst (λ (k : ℕ). ShowsHalves k s.width (columns_low (samples_of s) k) (columns_high (samples_of s) k) h) half halves in
    let d = subst (λ (k : ℕ). ShowsHalves n k (columns_low (samples_of s) n) (columns_high (samples_of s) n) h) shown.columns_are c in
    let same = subst (λ (k : ℕ). SameWithin k w (samples_of s) a) er shown.cells in
    record {
      low = record {
        rows_are = d.low.rows_are;
        columns_are = d.low.columns_are;
        cells =
            SameWithin-trans n w _ _ _ d.low.cells (columns_low-same n w (samples_of s) a two same);
      };
      high = record {
        rows_are = d.high.rows_are;
        columns_are = d.high.columns_are;
        cells =
            SameWithin-trans n w _ _ _ d.high.cells (columns_high-same n w (samples_of s) a two same);
      };
    }
