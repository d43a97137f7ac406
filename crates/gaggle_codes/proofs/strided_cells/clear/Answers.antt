use Rattle.std.proofs.Common.{arith, length}
use Rattle.number_defs.proofs.CellPlaces.{place_within}
use Rattle.gaggle_codes.proofs.Setting.{places_before, clears_start, clears_more, clears_all}
use Rattle.gaggle_codes.proofs.strided_cells.clear.Goals as goal

pub loop-place-init : goal.loop-place-init
loop-place-init c = clears_start c.args.strided.stride c.requires.stride c.args.cells.now

pub loop-place-preserved : goal.loop-place-preserved
loop-place-preserved c = clears_more c.args.strided.stride c.requires.stride c.loop-place.place
    (place_within (length c.args.cells.now) c.args.strided.stride c.loop-place.place c.requires.stride (omega (arith, c.div_ceil-place-end.ensures)))
    c.loop-place.invariant

pub returns : goal.returns
returns c = clears_all c.args.strided.stride c.requires.stride c.args.strided.range c.args.strided.shift c.loop-place.place
    (λ m lt. (let n = places_before (length c.args.cells.now) c.args.strided.stride m c.requires.stride lt in omega (arith, n, c.div_ceil-place-end.ensures)))
    c.loop-place.invariant
