use Rattle.inverse_strip.proofs.ZeroPairs.{AreNewest-zeros}
use Rattle.inverse_strip.proofs.stage.LevelStage.pass_rows.Goals as goal

pub returns-clause-follows : goal.returns-clause-follows
returns-clause-follows c = λ q follow hl lh hh.
    let s = c.args.self.now in
    let w = s.level.left.width in
    let k = c.args.side in
    let zero = c.requires.zero in
    record {
      level = follow.level;
      hl = AreNewest-zeros q.hl w s.came k s.hl zero.hl follow.hl hl;
      lh = AreNewest-zeros q.lh w s.came k s.lh zero.lh follow.lh lh;
      hh = AreNewest-zeros q.hh w s.came k s.hh zero.hh follow.hh hh;
    }
