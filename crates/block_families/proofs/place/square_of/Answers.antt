use Rattle.std.proofs.Common.{arith}
use Rattle.base_122.specs.Weights.{band_place}
use Rattle.block_families.proofs.Squares.{children_square, grandchildren_square}
use Rattle.block_families.proofs.place.square_of.Goals as goal

pub returns-then-square-lt3 : goal.returns-then-square-lt3
returns-then-square-lt3 c = λ k h. children_square (band_place c.band_of.result) c.args.square c.args.column k c.band_of.ensures c.if-square-lt3.true h

pub returns : goal.returns
returns c = λ k h.
    grandchildren_square (band_place c.band_of-2.result) c.args.square c.from.result c.from-2.result c.args.column k c.band_of-2.ensures
    (omega (arith, c.if-square-lt3.false)) c.requires.square
    c.from.ensures c.from-2.ensures h
