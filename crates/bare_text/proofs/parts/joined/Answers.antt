use Rattle.std.proofs.Common.{refl}
use Rattle.bare_text.proofs.PartLists.{three_put}
use Rattle.bare_text.proofs.parts.joined.Goals as goal

pub returns : goal.returns
returns c = three_put _ _ _ _ _ _ _ c.requires.second c.requires.third c.requires.fourth refl c.put_at.ensures c.put_at-2.ensures c.put_at-3.ensures
