use Rattle.std.proofs.Common.{rules}
use Rattle.strip122.proofs.trial.encode.Goals as goal

pub invariant_of-work-in-Ok-encode_rows : goal.invariant_of-work-in-Ok-encode_rows
invariant_of-work-in-Ok-encode_rows c = search rules

pub invariant_of-work-in-Ok-encode_rows-2 : goal.invariant_of-work-in-Ok-encode_rows-2
invariant_of-work-in-Ok-encode_rows-2 c = search rules
