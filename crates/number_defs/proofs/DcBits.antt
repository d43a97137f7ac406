-- The numbers of a DC part have few bits.
use Rattle.std.proofs.Common.{ℕ, ◌≤◌, arith}
use Rattle.std.proofs.lemmas.Bool.Decides.{nat_tests}
use Rattle.number_defs.specs.DcPart.{dc_q, dc_bits}

pub few_bits : (depth_dc depth_ac shift : ℕ) → dc_bits depth_dc depth_ac shift ≤ 10
few_bits depth_dc depth_ac shift = grind (arith, nat_tests)

-- at most 27 bits are left for later
pub q_small : (depth_dc depth_ac shift : ℕ) → depth_dc ≤ 28 → shift ≤ 3 → dc_q depth_dc depth_ac shift ≤ 27
q_small depth_dc depth_ac shift le s = grind (arith, nat_tests)
