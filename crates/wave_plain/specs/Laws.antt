-- The transform and its inverse undo each other, for planes that show the results of the two calls.
use Rattle.std.specs.Prelude.{ℕ, ◌*◌, ◌≤◌, ℤ}
use Rattle.wave_plain.specs.declared.Plane.{Plane}
use Rattle.wave_plain.specs.declared.Bands.{Bands}
use Rattle.wave_defs.specs.Pyramid.{Pyramid, pyramid, rebuilt}
use Rattle.wave_plain.specs.Images.{image_of, pyramid_in, Shows, ShowsBands}

pub record RoundTrips : Type 0 where
  -- bands of an image a, then the image of these bands
  pub image : (r c : ℕ) (a : ℕ → ℕ → ℤ) (b : Bands) (p : Plane) → 2 ≤ r → 2 ≤ c
      → ShowsBands r c (pyramid a r c) b → Shows (8 * r) (8 * c) (rebuilt (pyramid_in b) r c) p
      → Shows (8 * r) (8 * c) a p
  -- the image of a pyramid q, then the bands of this image
  pub bands : (r c : ℕ) (q : Pyramid) (p : Plane) (b : Bands) → 2 ≤ r → 2 ≤ c
      → Shows (8 * r) (8 * c) (rebuilt q r c) p → ShowsBands r c (pyramid (image_of p) r c) b
      → ShowsBands r c q b
