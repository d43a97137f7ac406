use Rattle.std.proofs.Common.{rules}
use Rattle.block_families.proofs.Squares.{square_put}
use Rattle.block_families.proofs.gathering.put_square.Goals as goal

pub returns : goal.returns
returns c =
    square_put c.args.upper.now c.args.lower.now c.args.place.start c.args.place.shift c.args.place.at c.args.into.now _ _ _ _ c.requires.room (search
    rules) (search rules)
    (search rules) (search rules)
