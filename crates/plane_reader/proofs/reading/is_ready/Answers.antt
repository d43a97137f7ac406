use Rattle.plane_reader.proofs.HeldReads.{moves_start}
use Rattle.plane_reader.proofs.reading.is_ready.Goals as goal

pub returns-else-table-ne-UNKNOWN-clause-stays : goal.returns-else-table-ne-UNKNOWN-clause-stays
returns-else-table-ne-UNKNOWN-clause-stays g c = moves_start c.requires.is_in
