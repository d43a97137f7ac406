use Rattle.std.proofs.Common.{◌≡◌, ℕ, ◌<◌, get_or, pos}
use Rattle.plane_defs.specs.Marks.{depths_of}
use Rattle.plane_reader.proofs.ClearStates.{IsClear}
use Rattle.plane_reader.proofs.plane.clear.Given as goal

abbrev pub invariant-loop-place : goal.invariant-loop-place
invariant-loop-place l = record {
  depths : depths_of l.marks ≡ depths_of l.initial.marks;
  clear : (r : ℕ) → r < l.place → IsClear (get_or l.marks r (pos 0));
}
