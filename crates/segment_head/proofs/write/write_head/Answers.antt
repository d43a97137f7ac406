use Rattle.std.proofs.Common.{arith, flat_map}
use Rattle.std.proofs.lemmas.Result.{err_from_is_err_and}
use Rattle.segment_defs.specs.Head.{part_4, field_bits}
use Rattle.segment_head.proofs.PuttingFields.{put_both, put_cut, head_bits_parts, never_stops}
use Rattle.segment_head.proofs.WrittenHeads.{length-first_parts}
use Rattle.segment_head.proofs.write.write_head.Goals as goal

pub returns-in_err-put_first_parts-clause-puts : goal.returns-in_err-put_first_parts-clause-puts
returns-in_err-put_first_parts-clause-puts g c =
    let p = err_from_is_err_and c.from_residual.result c.from_residual.ensures.1 in
    let h = c.args.head.now in
    rw (p.1, p.2) (put_cut (flat_map field_bits (part_4 h.image)) c.in_err-put_first_parts.ensures (head_bits_parts h))

pub returns-in_err-put_first_parts-clause-never_stops : goal.returns-in_err-put_first_parts-clause-never_stops
returns-in_err-put_first_parts-clause-never_stops g c =
    let p = err_from_is_err_and c.from_residual.result c.from_residual.ensures.1 in
    rw (p.1, p.2) (never_stops (omega (arith, length-first_parts c.args.head.now)) c.in_err-put_first_parts.ensures)

pub returns-clause-puts : goal.returns-clause-puts
returns-clause-puts g c = put_both c.in_ok-put_first_parts.ensures c.put_part_4.ensures.puts (head_bits_parts c.args.head.now)

pub put_part_4-requires-clause-room : goal.put_part_4-requires-clause-room
put_part_4-requires-clause-room g c = omega (arith, c.in_ok-put_first_parts.ensures.ends.room, length-first_parts c.args.head.now, c.requires.room)
