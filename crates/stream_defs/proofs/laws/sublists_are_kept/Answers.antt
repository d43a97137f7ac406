use Rattle.stream_defs.proofs.WholeStreams.{sublist_kept}
use Rattle.stream_defs.proofs.laws.sublists_are_kept.Goals as goal

pub returns : goal.returns
returns c = record { each_choice = sublist_kept }
