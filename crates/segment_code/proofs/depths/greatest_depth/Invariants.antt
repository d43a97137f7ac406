use Rattle.std.proofs.Common.{◌≡◌, take}
use Rattle.segment_defs.specs.Size.{greatest}
use Rattle.plane_defs.specs.Marks.{depths_of}
use Rattle.segment_code.proofs.depths.greatest_depth.Given as goal

abbrev pub invariant-loop-mark : goal.invariant-loop-mark
invariant-loop-mark l = l.most ≡ greatest (λ d. d) (depths_of (take l.mark-index l.marks))
