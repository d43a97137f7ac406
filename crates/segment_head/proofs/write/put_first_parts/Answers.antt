use Rattle.std.proofs.Common.{refl, flat_map}
use Rattle.std.proofs.lemmas.Result.{err_from_is_err_and}
use Rattle.segment_defs.specs.Head.{part_3, field_bits}
use Rattle.segment_head.proofs.PuttingFields.{put_both, put_cut, first_bits}
use Rattle.segment_head.proofs.write.put_first_parts.Goals as goal

pub returns-in_err-put_part_1 : goal.returns-in_err-put_part_1
returns-in_err-put_part_1 g c =
    let p = err_from_is_err_and c.from_residual.result c.from_residual.ensures.1 in
    rw (p.1, p.2) (put_cut _ (rw c.all.ensures at c.in_err-put_part_1.ensures) (first_bits c.args.head.now))

pub returns-in_err-put_part_2 : goal.returns-in_err-put_part_2
returns-in_err-put_part_2 g c =
    let p = err_from_is_err_and c.from_residual-in_err-put_part_2.result c.from_residual-in_err-put_part_2.ensures.1 in
    rw (p.1, p.2)
    (put_both (rw c.all.ensures at c.in_ok-put_part_1.ensures) (put_cut (flat_map field_bits (part_3 c.args.head.now)) c.in_err-put_part_2.ensures refl)
    (first_bits c.args.head.now))

pub returns : goal.returns
returns g c =
    put_both (rw c.all.ensures at c.in_ok-put_part_1.ensures) (put_both c.in_ok-put_part_2.ensures c.put_part_3.ensures refl) (first_bits c.args.head.now)
