use Rattle.segment_head.proofs.WrittenHeads.{head_undoes}
use Rattle.segment_defs.proofs.ReadHeads.{read_fits}
use Rattle.segment_head.proofs.heads_undo.Goals as goal

pub returns : goal.returns
returns c = record { read = head_undoes; fits = read_fits }
