use Rattle.std.proofs.Common.{arith, ap, ◌∙◌, length, pow_mono}
use Rattle.number_defs.specs.Choice.{by_total}
use Rattle.gaggle_codes.proofs.Least.{sum_small}
use Rattle.gaggle_codes.specs.Options.{name_of}
use Rattle.gaggle_codes.proofs.choice.heuristic_of.Goals as goal
use Rattle.number_defs.proofs.Equations.{heuristic-is}

pub option_by_total-requires-clause-total : goal.option_by_total-requires-clause-total
option_by_total-requires-clause-total c =
    omega (arith, sum_small 1024 c.args.values.now (λ i lt. omega (arith, pow_mono c.requires.high, c.requires.values i lt)), c.total_of.ensures)

pub returns : goal.returns
returns c = simp heuristic-is (c.option_by_total.ensures ∙ ap (λ t. name_of c.args.bits (by_total c.args.bits (length c.args.values.now) t)) c.total_of.ensures)
