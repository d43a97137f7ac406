use Rattle.std.proofs.lemmas.Result.{err_from_is_err_and}
use Rattle.std.proofs.Common.{arith}
use Rattle.std.proofs.lemmas.Grind.{common_steps}
use Rattle.segment_code.proofs.Joined.{fault_joined}
use Rattle.segment_code.proofs.decode.text_into_clear.Goals as goal

pub returns-in_err-part-clause-decodes : goal.returns-in_err-part-clause-decodes
returns-in_err-part-clause-decodes g c = grind (arith, common_steps, err_from_is_err_and, fault_joined)

pub returns-clause-decodes : goal.returns-clause-decodes
returns-clause-decodes g c = grind (arith, common_steps)
