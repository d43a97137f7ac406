-- What a level and the rows that wait for it hold of its bands.
use Rattle.wave_defs.specs.Level.{Quarters}
use Rattle.wave_defs.specs.Rings.{AreNewest}
use Rattle.inverse_strip.specs.declared.stage.LevelStage.{LevelStage}
use Rattle.inverse_strip.specs.Level.{FollowLevel}

-- the level is as after the first rows of these bands, and the newest rows of the high ones wait
pub record FollowStage (q : Quarters) (s : LevelStage) : Type 0 where
  pub level : FollowLevel q s.level
  pub hl : AreNewest q.hl s.level.left.width s.came s.hl
  pub lh : AreNewest q.lh s.level.left.width s.came s.lh
  pub hh : AreNewest q.hh s.level.left.width s.came s.hh
