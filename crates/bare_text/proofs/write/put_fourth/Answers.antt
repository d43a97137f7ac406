use Rattle.bit_pipe.proofs.Putting.{adds_start, puts_whole}
use Rattle.bare_text.proofs.write.put_fourth.Goals as goal

pub returns-then-not-is_carried : goal.returns-then-not-is_carried
returns-then-not-is_carried g c = rw c.if-not-is_carried.true (puts_whole (adds_start g.O.OctetOut.sink _ c.requires.open))
