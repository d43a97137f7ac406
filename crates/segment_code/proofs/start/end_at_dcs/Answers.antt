use Rattle.segment_code.proofs.DcsRestored.{end_is_given, end_is_moved}
use Rattle.segment_code.proofs.start.end_at_dcs.Goals as goal

pub returns-then-restore : goal.returns-then-restore
returns-then-restore c = rw c.if-restore.true (end_is_moved c.args.head.now c.args.reach c.plan_of.result _ _ c.plan_of.ensures.dc c.plan_of.ensures.ac
    c.plan_of.ensures.shift c.restore_dcs.ensures)

pub returns-else-restore : goal.returns-else-restore
returns-else-restore c = rw c.if-restore.false (end_is_given c.args.head.now c.args.reach _)
