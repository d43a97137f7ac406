use Rattle.std.proofs.Common.{arith}
use Rattle.std.proofs.lemmas.Result.{err_from_is_err_and}
use Rattle.bit_pipe.proofs.Putting.{puts_then, puts_cut}
use Rattle.bare_text.proofs.HeadLengths.{leave_room}
use Rattle.bare_text.proofs.write.put_bare_head.Goals as goal

pub returns-in_err-put_part_1 : goal.returns-in_err-put_part_1
returns-in_err-put_part_1 g c =
    let e = err_from_is_err_and c.from_residual.result c.from_residual.ensures.1 in
    rw (e.1, e.2, ← c.carried_after-carried.ensures) (puts_cut _ c.in_err-put_part_1.ensures)

pub returns-in_err-put_second : goal.returns-in_err-put_second
returns-in_err-put_second g c =
    let e = err_from_is_err_and c.from_residual-in_err-put_second.result c.from_residual-in_err-put_second.ensures.1 in
    rw (e.1, e.2, ← c.carried_after-carried.ensures) (puts_then c.in_ok-put_part_1.ensures.ends (puts_cut _ c.in_err-put_second.ensures))

pub returns-in_err-put_third : goal.returns-in_err-put_third
returns-in_err-put_third g c =
    let e = err_from_is_err_and c.from_residual-in_err-put_third.result c.from_residual-in_err-put_third.ensures.1 in
    rw (e.1, e.2, ← c.carried_after-carried.ensures) (puts_then c.in_ok-put_part_1.ensures.ends
    (puts_then c.in_ok-put_second.ensures.ends (puts_cut _ c.in_err-put_third.ensures)))

pub put_fourth-requires-clause-room : goal.put_fourth-requires-clause-room
put_fourth-requires-clause-room g c =
    let carried = c.carried_after-carried.result in
    omega (
      arith,
      leave_room carried c.args.head.now carried.part_2 carried.part_3,
      c.in_ok-put_part_1.ensures.ends.room,
      c.in_ok-put_second.ensures.ends.room,
      c.in_ok-put_third.ensures.ends.room,
      c.requires.room,
    )

pub returns : goal.returns
returns g c =
    rw (← c.carried_after-carried.ensures) (puts_then c.in_ok-put_part_1.ensures.ends
    (puts_then c.in_ok-put_second.ensures.ends (puts_then c.in_ok-put_third.ensures.ends c.put_fourth.ensures)))
