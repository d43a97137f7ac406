use Rattle.plane_reader.proofs.HeldReads.{moves_start, stays_empty, stays_then}
use Rattle.plane_reader.proofs.cursor.Cursor.need.Goals as goal
use Rattle.plane_reader.proofs.cursor.Cursor.need.Goals.{then-self-count, else-self-count}

pub returns-clause-stays : goal.returns-clause-stays
returns-clause-stays g c = elim c.if-self-count.branch [
  | then-self-count w ↦ rw (w.self-is, w.input-is) (stays_then w.close.ensures.stays (stays_empty w.close.new.self w.open.result w.close.ensures.is_in
      w.close.ensures.none w.open.ensures.none))
  | else-self-count w ↦ rw (w.self-is, w.input-is) (moves_start c.requires.is_in)
]
