use Rattle.item_defs.proofs.NumberBits.{bits_none}
use Rattle.std.proofs.Common.{◌/◌, ◌^◌}
use Rattle.plane_reader.proofs.cursor.Cursor.open.Goals as goal

pub returns-in-Some-clause-none : goal.returns-in-Some-clause-none
returns-in-Some-clause-none g c = bits_none (c.in-Some.window / 2 ^ 64)
