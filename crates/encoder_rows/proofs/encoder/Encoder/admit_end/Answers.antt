use Rattle.std.proofs.Common.{arith}
use Rattle.encoder_rows.proofs.encoder.Encoder.admit_end.Goals as goal

pub returns-then-need-room : goal.returns-then-need-room
returns-then-need-room c = (c.is_height.ensures.0 c.if-not-is_height.false, c.end_need-need.ensures, omega (arith, c.if-need-room.true))

pub returns : goal.returns
returns c = (c.is_height.ensures.0 c.if-not-is_height.false, omega (arith, c.end_need-need.ensures, c.if-need-room.false))
