use Rattle.std.proofs.Common.{◌∷◌, [], ◌++◌, map, ◌∙◌, ap, flat_map}
use Rattle.std.proofs.lemmas.Result.{err_from_is_err_and}
use Rattle.segment_defs.specs.Head.{part_1b, field, field_bits}
use Rattle.segment_head.specs.Parts.{part_1}
use Rattle.segment_head.specs.Writing.{said}
use Rattle.segment_head.proofs.PuttingFields.{put_both, put_cut, bits_join, part_1_fields}
use Rattle.segment_head.proofs.write.put_part_1.Goals as goal

pub returns-in_err-put_fields : goal.returns-in_err-put_fields
returns-in_err-put_fields g c =
    let p = err_from_is_err_and c.from_residual.result c.from_residual.ensures.1 in
    let h = c.args.head.now in
    rw (p.1, p.2)
    (put_cut (flat_map field_bits (part_1b h)) c.in_err-put_fields.ensures (bits_join (map said c.part_1a.result) (part_1b h) (part_1 c.args.carried h)
    (ap (λ fs. fs ++ part_1b h) c.part_1a.ensures)))

pub returns : goal.returns
returns g c =
    let h = c.args.head.now in
    put_both c.in_ok-put_fields.ensures c.put_fields-2.ensures
    (
    bits_join (map said c.part_1a.result) (said c.field.result ∷ said c.reserved.result ∷ []) (part_1 c.args.carried h)
    (part_1_fields c.args.carried h (map said c.part_1a.result) (said c.field.result) (said c.reserved.result) c.part_1a.ensures
    (c.field.ensures ∙ ap (field 3) c.from.ensures) c.reserved.ensures c.if-not-head.false)
    )
