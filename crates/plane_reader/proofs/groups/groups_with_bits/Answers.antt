use Rattle.std.proofs.Common.{rules, arith}
use Rattle.item_defs.specs.Bits.{bit}
use Rattle.block_masks.proofs.Viewing.{shows_own}
use Rattle.plane_reader.proofs.SentGroups.{covers_with}
use Rattle.plane_reader.proofs.groups.groups_with_bits.Goals as goal

pub returns-clause-covers : goal.returns-clause-covers
returns-clause-covers c = λ now wanted now_shown wanted_shown.
    let groups = c.args.groups in
    let some = c.fours_of-some_due.result in
    let either = c.either.result in
    covers_with some c.requires.count now_shown wanted_shown
    (c.both.ensures.if_known (bit groups.now) (bit either) 0 64 (shows_own groups.now 64 (search rules)) (shows_own either 64 (search rules)))
    (c.either.ensures (bit some) (bit groups.wanted) 0 64 (shows_own some 64 (search rules)) (shows_own groups.wanted 64 (search rules)))
    c.fours_of-some_due.ensures.if_known (omega (arith, c.both.ensures.within, c.requires.few))
