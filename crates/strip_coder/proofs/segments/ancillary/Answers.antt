use Rattle.std.proofs.Common.{arith}
use Rattle.std.proofs.lemmas.Grind.{common_steps}
use Rattle.base_122.proofs.SizeBounds.{first_block-lt, total_blocks-most}
use Rattle.strip_coder.proofs.segments.ancillary.Goals as goal

pub overflow_mul-result : goal.overflow_mul-result
overflow_mul-result c = grind (arith, common_steps, first_block-lt, total_blocks-most)
