use Rattle.quick_look.proofs.RectReach.{stays}
use Rattle.quick_look.proofs.rect_laws.losses_stay_in_rects.Goals as goal

pub returns : goal.returns
returns c = record { whatever = stays }
