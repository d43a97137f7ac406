use Rattle.std.proofs.Common.{◌≡◌, ◌++◌, map, take, drop, pos}
use Rattle.plane_defs.specs.Marks.{depth_of}
use Rattle.segment_code.proofs.depths.reset_marks.Given as goal

abbrev pub invariant-loop-mark : goal.invariant-loop-mark
invariant-loop-mark l = l.marks ≡ map (λ m. pos (depth_of m)) (take l.mark-index l.fn.marks) ++ drop l.mark-index l.fn.marks
