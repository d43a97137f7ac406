use Rattle.std.proofs.Common.{length}
use Rattle.camera_mux.proofs.image_table.Table.place_of.Given as goal
use Rattle.camera_mux.proofs.ChainLaws.{IsAhead, left_of}

abbrev pub invariant-loop-place : goal.invariant-loop-place
invariant-loop-place l = IsAhead l.self.entries.items l.id l.place

abbrev pub decreases-loop-place : goal.decreases-loop-place
decreases-loop-place l = left_of (length l.self.entries.items) l.place
