use Rattle.std.proofs.lemmas.Bool.Decides.{Decides-and, Decides-at}
use Rattle.std.specs.Cmp.{unsigned_Decides, booleans_Decides}
use Rattle.bare_text.proofs.SameParts.{same_second, stops_decide}
use Rattle.bare_text.proofs.write.same_part_2.Goals as goal

pub returns : goal.returns
returns c =
    let a = c.args.one.now in
    let b = c.args.other.now in
    let stop = stops_decide c.eq.result a.stop b.stop
    (Decides-at c.eq.result _ c.eq.ensures (Decides-and _ _ (booleans_Decides a.stop.dc b.stop.dc)
    (Decides-and _ _ (unsigned_Decides a.stop.plane b.stop.plane) (unsigned_Decides a.stop.stage b.stop.stage)))) in
    same_second a b c.requires.one c.requires.other _ (Decides-and _ _ (Decides-and _ _ (unsigned_Decides a.limit b.limit) stop)
    (booleans_Decides a.fill b.fill))
