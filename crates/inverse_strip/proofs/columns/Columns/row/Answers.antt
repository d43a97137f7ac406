use Rattle.std.proofs.Common.{◌≡◌, ◌+◌, ◌*◌, ◌-◌, ◌/◌, arith}
use Rattle.wave_defs.specs.Lifted.{columns_even}
use Rattle.wave_defs.proofs.RingLaws.{newest_at}
use Rattle.inverse_strip.proofs.RingLemmas.{columns_merged-even, columns_merged-odd}
use Rattle.inverse_strip.proofs.columns.Columns.row.Goals as goal

pub returns-then-i-eq0 : goal.returns-then-i-eq0
returns-then-i-eq0 c = λ low high hold.
    let s = c.args.self.now in
    let k = c.args.i / 2 in
    let even : c.args.i ≡ 2 * k = omega arith in
    let four = s.sink_state.evens.count_is in
    let row = newest_at (columns_even low high) s.width s.taken (k + 4 - s.taken) k s.evens hold.evens (omega arith) (omega arith) in
    columns_merged-even low high s.taken c.args.i s.width _ even (rw (c.copy_from_slice.ensures.after, c.at.ensures) row)

pub returns : goal.returns
returns c = λ low high hold.
    let s = c.args.self.now in
    let odd : c.args.i ≡ 2 * (c.args.i / 2) + 1 = omega arith in
    columns_merged-odd low high s.taken c.args.i s.width _ odd (c.odd.ensures low high hold)
