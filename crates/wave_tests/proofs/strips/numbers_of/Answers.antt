use Rattle.std.proofs.Common.{arith}
use Rattle.wave_tests.proofs.BlockRows.{block_row}
use Rattle.wave_tests.proofs.strips.numbers_of.Goals as goal

pub new-whole-requires : goal.new-whole-requires
new-whole-requires c = block_row _ _ _ _ (omega arith) c.requires.whole c.requires.small (omega (arith, c.loop-row-test.true))
