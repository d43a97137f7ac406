use Rattle.strip122.proofs.Statuses.{tried_cut}
use Rattle.strip122.proofs.top.trial.Goals as goal

pub returns-in-Err : goal.returns-in-Err
returns-in-Err g c = tried_cut c.args.setting.now c.args.seed c.in-Ok.done _ _ _ c.in-Ok.ensures c.in-Err.ensures c.note_line-in-Err.ensures
