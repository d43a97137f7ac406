-- What a level holds of the four bands of which it took the first rows.
use Rattle.wave_defs.specs.Level.{Quarters}
use Rattle.inverse_strip.specs.declared.level.InverseLevel.{InverseLevel}
use Rattle.inverse_strip.specs.Columns.{Follow}

-- the level is as after the first rows of these bands
pub record FollowLevel (q : Quarters) (s : InverseLevel) : Type 0 where
  pub left : Follow q.ll q.lh s.left
  pub right : Follow q.hl q.hh s.right
