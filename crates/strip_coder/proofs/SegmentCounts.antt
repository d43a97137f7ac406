-- How many segments an image has at most.
use Rattle.std.proofs.Common.{ℕ, ◌^◌, ◌<◌, arith, mul-le-mul_left}
use Rattle.std.proofs.lemmas.Bool.Decides.{nat_tests}
use Rattle.strip_coder.specs.Plans.{Job, IsPlan, whole}
use Rattle.base_122.proofs.SizeBounds.{first_block-lt, total_blocks-most}
use Rattle.stream_defs.specs.Output.{segments_of}

pub segments_few : (s : Job) (index : ℕ) → IsPlan s → index < segments_of (whole s) → index < 2 ^ 28
segments_few s index range lt = grind (arith, nat_tests, first_block-lt, total_blocks-most, mul-le-mul_left)
