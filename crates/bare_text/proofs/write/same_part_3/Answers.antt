use Rattle.std.proofs.lemmas.Bool.Decides.{Decides-and}
use Rattle.std.specs.Cmp.{unsigned_Decides, booleans_Decides}
use Rattle.bare_text.proofs.SameParts.{same_third}
use Rattle.bare_text.proofs.write.same_part_3.Goals as goal

pub returns : goal.returns
returns c =
    let a = c.args.one.now in
    let b = c.args.other.now in
    same_third a b c.requires.one c.requires.other _ (Decides-and _ _
    (Decides-and _ _ (unsigned_Decides a.blocks b.blocks) (booleans_Decides a.best_dc b.best_dc)) (booleans_Decides a.best_ac b.best_ac))
