use Rattle.quick_look.proofs.WorkedRects.{worked}
use Rattle.quick_look.proofs.rect_laws.worked_rects.Goals as goal

pub returns : goal.returns
returns c = worked
