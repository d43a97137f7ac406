use Rattle.std.proofs.Common.{arith}
use Rattle.std.proofs.lemmas.Grind.{common_steps}
use Rattle.raster_rows.specs.Gathered.{waiting_of}
use Rattle.raster_rows.proofs.Gathering.{held_after, held_alone, part_before, given_alone, form_same}
use Rattle.raster_rows.proofs.gathered.GatheredRows.add.Goals as goal

pub returns-then-count-self-clause-added : goal.returns-then-count-self-clause-added
returns-then-count-self-clause-added g c = held_after (g.X.Port.outside c.args.port.now) (waiting_of c.args.self.now) _ _ c.hold.ensures.octets

pub returns-in_err-give-clause-added : goal.returns-in_err-give-clause-added
returns-in_err-give-clause-added g c = part_before _ _ c.from_residual.result c.from_residual.ensures.0 c.in_err-give.ensures.given

pub returns-then-count-le-ROOM-clause-added : goal.returns-then-count-le-ROOM-clause-added
returns-then-count-le-ROOM-clause-added g c = grind (arith, common_steps, held_alone, form_same)

pub returns-clause-added : goal.returns-clause-added
returns-clause-added g c = grind (arith, common_steps, given_alone, form_same)
