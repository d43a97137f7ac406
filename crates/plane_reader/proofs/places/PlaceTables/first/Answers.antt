use Rattle.std.proofs.Common.{◌/◌, ◌^◌, ◌<◌, ◌≡◌, ◌+◌, ◌*◌, [], get_or, length, ◌∙◌, ap, subst, sym, arith}
use Rattle.std.proofs.lemmas.List.{get_or_default}
use Rattle.plane_reader.specs.Places.{IsFirst, nothing_first}
use Rattle.plane_reader.proofs.places.PlaceTables.first.Goals as goal

pub returns : goal.returns
returns c = λ due option few fits e.
    let t = c.args.self.now.if_known c.in-Some.entries c.in-Some.is in
    let tables = c.in-Some.entries.items in
    let row = c.index.result.now in
    let within : c.args.table < length tables = omega (arith, t.all, c.requires.table) in
    let is : get_or tables (4 * due + option) [] ≡ row = ap (λ k. get_or tables k []) (sym e) ∙ get_or_default tables c.args.table [] row within ∙
    sym c.index.ensures in
    subst (λ l. IsFirst c.args.self.now.words.book due option c.args.window (get_or l (c.args.window / 2 ^ 56) nothing_first)) is
    (t.at due option few fits c.args.window (omega arith))
