use Rattle.std.proofs.Common.{refl, arith}
use Rattle.plane_coder.proofs.Listing.{lists_pushed, one_or_none}
use Rattle.plane_coder.proofs.words.Words.push.Goals as goal

pub returns : goal.returns
returns g c =
    let s = c.args.self.now in
    lists_pushed s _ c.args.typed (omega (arith, c.requires.room)) refl (one_or_none c.from.result s.count c.args.typed c.from.ensures)
