use Rattle.std.proofs.Common.{◌*◌, ◌^◌, arith}
use Rattle.std.proofs.lemmas.Grind.{common_steps}
use Rattle.wave_strip.proofs.ChainLemmas.{passed_row, passed_within}
use Rattle.wave_strip.proofs.chain.pass_on.Goals as goal

pub take-requires-clause-small_row : goal.take-requires-clause-small_row
take-requires-clause-small_row c =
    let u = c.args.upper.now in
    let wide = u.wide in
    passed_within (5 * 838860) (2 ^ 22) u.half c.args.lower.now.half u.columns.width c.newest_low-low.result.now (omega arith) (omega arith) (omega arith)
    (c.newest_low-low.ensures.small 838860 c.requires.small_upper)

pub returns-clause-follows : goal.returns-clause-follows
returns-clause-follows c = grind (arith, common_steps, passed_row)

pub returns-clause-small : goal.returns-clause-small
returns-clause-small c = grind (arith, common_steps, passed_within)
