-- The rectangles that were worked out by hand.
use Rattle.std.proofs.Common.{refl}
use Rattle.quick_look.specs.Rects.{rects_before}
use Rattle.quick_look.specs.Worked.{WorkedRects}

pub worked : WorkedRects
unfolding rects_before
worked = (refl, refl, refl, refl, refl)
