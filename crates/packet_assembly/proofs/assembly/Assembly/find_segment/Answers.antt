use Rattle.packet_assembly.proofs.Seeking.{sought_nothing, sought_more, sought_one, sought_none, sought_failed}
use Rattle.packet_assembly.proofs.OneStep.{one_on}
use Rattle.packet_assembly.proofs.assembly.Assembly.find_segment.Goals as goal

pub loop-passed-init : goal.loop-passed-init
loop-passed-init g c = sought_nothing (g.X.Port.outside c.args.port.now) c.args.self.now c.requires.unheld

pub loop-passed-preserved : goal.loop-passed-preserved
loop-passed-preserved g c = sought_more c.loop-passed.invariant (rw c.in-Ok-Some.field-0-is at c.in-Ok-Some.ensures) c.in_default.is

pub loop-passed-smaller : goal.loop-passed-smaller
loop-passed-smaller g c = (one_on {P = λ s. Unit {0}} (rw c.in-Ok-Some.field-0-is at c.in-Ok-Some.ensures) tt).less

pub returns-in-Some : goal.returns-in-Some
returns-in-Some g c = sought_one c.loop-passed.invariant (rw c.in-Ok-Some.field-0-is at c.in-Ok-Some.ensures) c.in-Some.is

pub returns-in-Ok-None : goal.returns-in-Ok-None
returns-in-Ok-None g c = sought_none c.loop-passed.invariant (rw c.in-Ok-None.field-0-is at c.in-Ok-None.ensures)

pub returns-in-Err : goal.returns-in-Err
returns-in-Err g c = sought_failed c.in-Err.fault c.loop-passed.invariant c.in-Err.ensures
