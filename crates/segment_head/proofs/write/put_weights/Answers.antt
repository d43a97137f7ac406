use Rattle.std.proofs.Common.{◌∷◌, [], map, sym, flat_map}
use Rattle.std.proofs.lemmas.Result.{err_from_is_err_and}
use Rattle.segment_defs.specs.Head.{field, field_bits, weight_fields}
use Rattle.segment_head.specs.Writing.{said}
use Rattle.segment_head.proofs.PuttingFields.{put_both, put_cut, bits_join, custom_fields}
use Rattle.segment_head.proofs.write.put_weights.Goals as goal

pub returns-in_err-put_fields-clause-puts : goal.returns-in_err-put_fields-clause-puts
returns-in_err-put_fields-clause-puts g c =
    let p = err_from_is_err_and c.from_residual.result c.from_residual.ensures.1 in
    let shifts = c.args.weights.now.shifts in
    rw (p.1, p.2)
    (
    put_cut (flat_map field_bits (map (field 2) shifts)) c.in_err-put_fields.ensures
    (bits_join (said c.flag-2.result ∷ []) (map (field 2) shifts) (weight_fields shifts)
    (custom_fields shifts (said c.flag-2.result) (sym c.if-are_usual.ensures.usual) c.flag-2.ensures))
    )

pub returns-clause-puts : goal.returns-clause-puts
returns-clause-puts g c =
    let shifts = c.args.weights.now.shifts in
    put_both c.in_ok-put_fields.ensures c.put_shifts.ensures
    (bits_join (said c.flag-2.result ∷ []) (map (field 2) shifts) (weight_fields shifts)
    (custom_fields shifts (said c.flag-2.result) (sym c.if-are_usual.ensures.usual) c.flag-2.ensures))
