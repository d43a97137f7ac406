use Rattle.std.proofs.lemmas.Bool.Decides.{Decides-and, Decides-at}
use Rattle.std.proofs.lemmas.Slice.Eq.{bytes_eq-Decides}
use Rattle.std.specs.Cmp.{unsigned_Decides, booleans_Decides}
use Rattle.bare_text.proofs.SameParts.{same_fourth}
use Rattle.bare_text.proofs.write.same_part_4.Goals as goal

pub returns : goal.returns
returns c =
    let a = c.args.one.now in
    let b = c.args.other.now in
    let ten = c.same_weights.ensures.ten in
    let weights = Decides-at c.same_weights.result _ c.same_weights.ensures.same (bytes_eq-Decides a.weights.shifts b.weights.shifts) in
    same_fourth a b c.requires.one c.requires.other ten.0 ten.1 _
    (Decides-and _ _ (Decides-and _ _ (Decides-and _ _ (Decides-and _ _ (booleans_Decides a.signed b.signed) (unsigned_Decides a.depth b.depth))
    (unsigned_Decides a.width b.width)) (unsigned_Decides a.word b.word)) weights)
