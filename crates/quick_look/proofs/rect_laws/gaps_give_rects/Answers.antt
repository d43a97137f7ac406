use Rattle.quick_look.proofs.GapRects.{gaps_give}
use Rattle.quick_look.proofs.rect_laws.gaps_give_rects.Goals as goal

pub returns : goal.returns
returns c = record { at = gaps_give }
