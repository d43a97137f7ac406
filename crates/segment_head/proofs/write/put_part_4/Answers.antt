use Rattle.std.proofs.Common.{◌++◌, [], ◌∷◌, ap, ◌∙◌, arith, length, flat_map}
use Rattle.std.proofs.lemmas.Result.{err_from_is_err_and}
use Rattle.bit_pipe.proofs.Putting.{puts_ended}
use Rattle.segment_head.specs.Writing.{plain_fields}
use Rattle.segment_defs.specs.Head.{field_bits, weight_fields, reserved}
use Rattle.segment_head.proofs.PuttingFields.{put_both, put_cut, part_4_bits, never_stops}
use Rattle.segment_defs.proofs.WrittenFields.{length-bits_in}
use Rattle.segment_head.proofs.WrittenHeads.{length_4}
use Rattle.segment_head.proofs.write.put_part_4.Goals as goal

pub returns-in_err-put_fields-clause-puts : goal.returns-in_err-put_fields-clause-puts
returns-in_err-put_fields-clause-puts g c =
    let p = err_from_is_err_and c.from_residual.result c.from_residual.ensures.1 in
    let image = c.args.image.now in
    let rest = flat_map field_bits (weight_fields image.weights.shifts) ++ flat_map field_bits (reserved 11 ∷ []) in
    rw (p.1, p.2) (put_cut rest c.in_err-put_fields.ensures (ap (λ fs. flat_map field_bits fs ++ rest) c.plain_fields.ensures ∙ part_4_bits image))

pub returns-in_err-put_weights-clause-puts : goal.returns-in_err-put_weights-clause-puts
returns-in_err-put_weights-clause-puts g c =
    let p = err_from_is_err_and c.from_residual-in_err-put_weights.result c.from_residual-in_err-put_weights.ensures.1 in
    let image = c.args.image.now in
    let rest = flat_map field_bits (weight_fields image.weights.shifts) ++ flat_map field_bits (reserved 11 ∷ []) in
    rw (p.1, p.2)
    (puts_ended (flat_map field_bits (reserved 11 ∷ [])) c.in_ok-put_fields.ensures.ends c.in_err-put_weights.ensures.puts
    (ap (λ fs. flat_map field_bits fs ++ rest) c.plain_fields.ensures ∙ part_4_bits image))

pub returns-clause-puts : goal.returns-clause-puts
returns-clause-puts g c =
    let image = c.args.image.now in
    let weights = flat_map field_bits (weight_fields image.weights.shifts) in
    let whole = ap (λ f. weights ++ flat_map field_bits (f ∷ [])) c.reserved.ensures in
    put_both c.in_ok-put_fields.ensures (put_both c.in_ok-put_weights.ensures.puts c.put_fields-2.ensures whole)
    (ap (λ fs. flat_map field_bits fs ++ (weights ++ flat_map field_bits (reserved 11 ∷ []))) c.plain_fields.ensures ∙ part_4_bits image)

pub returns-in_err-put_fields-clause-never_stops : goal.returns-in_err-put_fields-clause-never_stops
returns-in_err-put_fields-clause-never_stops g c =
    let p = err_from_is_err_and c.from_residual.result c.from_residual.ensures.1 in
    let count = ap (λ fs. length (flat_map field_bits fs)) c.plain_fields.ensures ∙ length-bits_in (plain_fields c.args.image.now) in
    rw (p.1, p.2) (never_stops (omega (arith, count, c.requires.room)) c.in_err-put_fields.ensures)

pub returns-in_err-put_weights-clause-never_stops : goal.returns-in_err-put_weights-clause-never_stops
returns-in_err-put_weights-clause-never_stops g c =
    let all = returns-in_err-put_weights-clause-puts g c in
    never_stops (omega (arith, length_4 c.args.image.now c.in_err-put_weights.ensures.ten, c.requires.room)) all

pub returns-clause-never_stops : goal.returns-clause-never_stops
returns-clause-never_stops g c =
    let all = returns-clause-puts g c in
    never_stops (omega (arith, length_4 c.args.image.now c.in_ok-put_weights.ensures.ten, c.requires.room)) all
