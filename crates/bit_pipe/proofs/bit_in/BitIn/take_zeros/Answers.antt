use Rattle.std.proofs.Common.{arith, ◌≡◌}
use Rattle.std.proofs.lemmas.Result.{err_from_is_err_and}
use Rattle.item_defs.specs.Items.{zeros_to}
use Rattle.item_defs.proofs.BitLists.{copies_none, copies_last, zeros_then_one, zeros_and_no_one}
use Rattle.item_defs.proofs.Spellings.{lacks_zeros}
use Rattle.bit_pipe.proofs.Taking.{in_later, takes_start, takes_then, within_at_end, within_at_fault}
use Rattle.bit_pipe.proofs.bit_in.BitIn.take_zeros.Goals as goal

pub take-requires : goal.take-requires
take-requires g c = c.loop-zeros.invariant.is_in

pub loop-zeros-init : goal.loop-zeros-init
loop-zeros-init g c = record { is_in = c.requires; so_far = rw copies_none (takes_start g.I.OctetIn.source _ c.requires) }

pub loop-zeros-preserved : goal.loop-zeros-preserved
loop-zeros-preserved g c =
    let i = c.loop-zeros.invariant in
    let h = rw c.in-Some.is at c.in_ok-bit.ensures in
    let p = rw c.if-bit.false at h.ends in
    record { is_in = in_later i.is_in p; so_far = rw (← copies_last) (takes_then i.so_far p) }

pub returns-in_err-bit : goal.returns-in_err-bit
returns-in_err-bit g c =
    let p = err_from_is_err_and c.from_residual.result c.from_residual.ensures.1 in
    let i = c.loop-zeros.invariant in
    let h = c.in_err-bit.ensures in
    rw (p.1, p.2) (record {
      ends = within_at_fault (zeros_to c.args.limit) _ (lacks_zeros c.loop-zeros.zeros c.args.limit c.loop-zeros-test.true) i.so_far
          h.ends;
    })

pub returns-in_default : goal.returns-in_default
returns-in_default g c =
    let i = c.loop-zeros.invariant in
    let h = rw c.in_default.is at c.in_ok-bit.ensures in
    record { ends = within_at_end (zeros_to c.args.limit) (lacks_zeros c.loop-zeros.zeros c.args.limit c.loop-zeros-test.true) i.so_far h.ends }

pub returns-then-bit : goal.returns-then-bit
returns-then-bit g c =
    let i = c.loop-zeros.invariant in
    let h = rw c.in-Some.is at c.in_ok-bit.ensures in
    let p = rw c.if-bit.true at h.ends in
    record { ends = (omega arith, rw (← zeros_then_one c.loop-zeros.zeros c.args.limit c.loop-zeros-test.true) (takes_then i.so_far p)) }

pub returns : goal.returns
returns g c =
    let i = c.loop-zeros.invariant in
    let e : c.loop-zeros.zeros ≡ c.args.limit = omega arith in
    record { ends = (omega arith, rw (← zeros_and_no_one c.args.limit c.args.limit (omega arith) (omega arith)) (rw e at i.so_far)) }
