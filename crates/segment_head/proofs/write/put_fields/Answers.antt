use Rattle.std.proofs.Common.{arith}
use Rattle.std.proofs.lemmas.Result.{err_from_is_err_and}
use Rattle.bit_pipe.proofs.Putting.{adds_start, open_later}
use Rattle.bit_pipe.proofs.PuttingEach.{each_put_more, each_put_ended, each_put_whole}
use Rattle.segment_head.specs.Writing.{said}
use Rattle.segment_head.proofs.PuttingFields.{item_of, text_of_fields}
use Rattle.segment_head.proofs.write.put_fields.Goals as goal

pub loop-field-init : goal.loop-field-init
loop-field-init g c = record { is_open = c.requires; so_far = adds_start _ _ c.requires }

pub loop-field-preserved : goal.loop-field-preserved
loop-field-preserved g c =
    let i = c.loop-field.invariant in
    let p = c.in_ok-put_bits.ensures.ends in
    record {
      is_open = open_later i.is_open p;
      so_far = each_put_more (λ f. item_of (said f)) c.args.fields.now c.loop-field.field-index c.field-item.result
          (omega arith) i.so_far (rw c.field-item.is at p);
    }

pub returns-in_err-put_bits : goal.returns-in_err-put_bits
returns-in_err-put_bits g c =
    let p = err_from_is_err_and c.from_residual.result c.from_residual.ensures.1 in
    rw (p.1, p.2, ← text_of_fields said c.args.fields.now)
    (each_put_ended (λ f. item_of (said f)) c.args.fields.now c.loop-field.field-index c.field-item.result (omega arith) c.loop-field.invariant.so_far
    (rw c.field-item.is at c.in_err-put_bits.ensures))

pub returns : goal.returns
returns g c = rw (← text_of_fields said c.args.fields.now) (each_put_whole (λ f. item_of (said f)) c.args.fields.now c.loop-field.field-index (omega arith)
    c.loop-field.invariant.so_far)
