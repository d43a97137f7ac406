use Rattle.quick_look.proofs.RectCovers.{covers, undamaged}
use Rattle.quick_look.proofs.SameLost.{rects_same}
use Rattle.quick_look.proofs.rect_laws.rects_are_reach.Goals as goal

pub returns : goal.returns
returns c = record { same = covers; within = undamaged; alone = rects_same }
