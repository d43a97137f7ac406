use Rattle.std.proofs.Common.{◌≤◌, ℕ, arith}
use Rattle.std.proofs.lemmas.Bool.Decides.{nat_tests}
use Rattle.std.proofs.lemmas.Grind.{common_steps}
use Rattle.plane_defs.specs.Codes.{identifier_width}
use Rattle.block_masks.proofs.Agreeing.{option_known}
use Rattle.plane_coder.proofs.Appending.{opened_less}
use Rattle.plane_coder.proofs.pending.PendingBits.opened.Goals as goal

pub identifier_number-requires-clause-known : goal.identifier_number-requires-clause-known
identifier_number-requires-clause-known c = option_known c.args.self.gaggle.options c.args.length c.args.self.known c.requires.short c.requires.long

width_small : (n : ℕ) → identifier_width n ≤ 2
width_small n = grind (arith, nat_tests)

pub push-requires : goal.push-requires
push-requires c = grind (arith, common_steps, opened_less, width_small)

pub returns : goal.returns
returns c = grind (arith, common_steps, opened_less)
