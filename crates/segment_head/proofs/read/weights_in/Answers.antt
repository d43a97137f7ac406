use Rattle.std.proofs.Common.{arith, ◌≡◌, ◌+◌, ◌*◌, ap}
use Rattle.std.proofs.lemmas.List.FromFn.{fill_by_all}
use Rattle.std.proofs.lemmas.List.Edits.{fill_by_more}
use Rattle.segment_defs.specs.Fields.{number_in}
use Rattle.segment_defs.specs.Reading.{custom_shifts}
use Rattle.segment_head.proofs.read.weights_in.Goals as goal

pub loop-i-preserved : goal.loop-i-preserved
loop-i-preserved c = rw c.number_in.ensures.value (fill_by_more (λ k. number_in c.args.fourth.now (33 + 2 * k) 2) c.loop-i.shift-items c.loop-i.i 0
    (omega arith) c.loop-i.invariant)

pub returns : goal.returns
returns c =
    let filled : c.loop-i.shift-items ≡ custom_shifts c.args.fourth.now = fill_by_all (λ k. number_in c.args.fourth.now (33 + 2 * k) 2) c.loop-i.shift-items
    10 0 (omega arith) (λ k lt. c.loop-i.invariant k (omega arith)) in
    rw (← c.if-not-is_set.ensures) (ap (λ shifts. record { shifts = shifts }) filled)
