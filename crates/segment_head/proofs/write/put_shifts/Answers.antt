use Rattle.std.proofs.Common.{arith}
use Rattle.std.proofs.lemmas.Result.{err_from_is_err_and}
use Rattle.bit_pipe.proofs.Putting.{adds_start, open_later}
use Rattle.bit_pipe.proofs.PuttingEach.{each_put_more, each_put_ended, each_put_whole}
use Rattle.segment_defs.specs.Head.{field}
use Rattle.segment_head.proofs.PuttingFields.{item_of, text_of_fields}
use Rattle.segment_head.proofs.write.put_shifts.Goals as goal

pub loop-shift-init : goal.loop-shift-init
loop-shift-init g c = record { is_open = c.requires; so_far = adds_start _ _ c.requires }

pub loop-shift-preserved : goal.loop-shift-preserved
loop-shift-preserved g c =
    let i = c.loop-shift.invariant in
    let p = (rw c.from.ensures at c.in_ok-put_bits.ensures).ends in
    record {
      is_open = open_later i.is_open p;
      so_far = each_put_more (λ shift. item_of (field 2 shift)) c.args.shifts.now c.loop-shift.shift-index 0
          (omega arith) i.so_far p;
    }

pub returns-in_err-put_bits : goal.returns-in_err-put_bits
returns-in_err-put_bits g c =
    let p = err_from_is_err_and c.from_residual.result c.from_residual.ensures.1 in
    rw (p.1, p.2, ← text_of_fields (field 2) c.args.shifts.now)
    (each_put_ended (λ shift. item_of (field 2 shift)) c.args.shifts.now c.loop-shift.shift-index 0 (omega arith) c.loop-shift.invariant.so_far
    (rw c.from.ensures at c.in_err-put_bits.ensures))

pub returns : goal.returns
returns g c = rw (← text_of_fields (field 2) c.args.shifts.now)
    (each_put_whole (λ shift. item_of (field 2 shift)) c.args.shifts.now c.loop-shift.shift-index (omega arith) c.loop-shift.invariant.so_far)
