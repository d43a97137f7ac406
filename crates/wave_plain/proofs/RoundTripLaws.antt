-- The transform and its inverse undo each other on planes.
use Rattle.std.proofs.Common.{ℕ, ◌*◌, ◌≤◌, ℤ, subst}
use Rattle.wave_plain.specs.declared.Plane.{Plane}
use Rattle.wave_plain.specs.declared.Bands.{Bands}
use Rattle.wave_defs.specs.Pyramid.{Pyramid, pyramid, rebuilt}
use Rattle.wave_defs.specs.Held.{SameWithin, SamePyramid}
use Rattle.wave_defs.proofs.LevelSame.{SameWithin-trans}
use Rattle.wave_defs.proofs.PyramidLaws.{rebuilt-pyramid, pyramid-rebuilt, rebuilt-same, pyramid-same, SamePyramid-trans}
use Rattle.wave_plain.specs.Images.{image_of, pyramid_in, Shows, ShowsBands}

pub image_again : (r c : ℕ) (a : ℕ → ℕ → ℤ) (b : Bands) (p : Plane) → 2 ≤ r → 2 ≤ c → ShowsBands r c (pyramid a r c) b →
    Shows (8 * r) (8 * c) (rebuilt (pyramid_in b) r c) p → Shows (8 * r) (8 * c) a p
image_again r c a b p hr hc bands image =
    let same = rebuilt-same r c (pyramid_in b) (pyramid a r c) hr hc bands.bands in
    let back = subst (λ (x : ℕ → ℕ → ℤ). SameWithin (8 * r) (8 * c) (rebuilt (pyramid_in b) r c) x) (rebuilt-pyramid a r c) same in
    record { size = image.size; cells = SameWithin-trans _ _ _ _ _ image.cells back }

pub bands_again : (r c : ℕ) (q : Pyramid) (p : Plane) (b : Bands) → 2 ≤ r → 2 ≤ c → Shows (8 * r) (8 * c) (rebuilt q r c) p →
    ShowsBands r c (pyramid (image_of p) r c) b → ShowsBands r c q b
bands_again r c q p b hr hc image bands =
    let same = pyramid-same r c (image_of p) (rebuilt q r c) hr hc image.cells in
    let back = subst (λ (x : Pyramid). SamePyramid r c (pyramid (image_of p) r c) x) (pyramid-rebuilt q r c) same in
    record { whole = bands.whole; bands = SamePyramid-trans r c _ _ _ bands.bands back }
