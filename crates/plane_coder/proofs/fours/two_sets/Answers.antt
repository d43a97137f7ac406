use Rattle.std.proofs.Common.{◌+◌, ◌*◌, sym, subst, arith}
use Rattle.std.specs.List.{list_any}
use Rattle.plane_defs.specs.Spans.{span}
use Rattle.block_masks.specs.Masks.{Shows}
use Rattle.block_masks.proofs.Viewing.{from_zero}
use Rattle.plane_coder.proofs.FourTypes.{shows_some, somes_small}
use Rattle.plane_coder.proofs.fours.two_sets.Goals as goal

pub returns-clause-if_known : goal.returns-clause-if_known
returns-clause-if_known c f p =
    let at = c.args.at in
    subst (λ m. Shows m (λ j. list_any f (span (at + 4 * j) 4)) 0 2) (sym c.from.ensures)
    (shows_some c.part.result at f (omega (arith, c.part.ensures.within)) (from_zero at (c.part.ensures.if_known f 0 64 p c.requires.within)))

pub returns-clause-within : goal.returns-clause-within
returns-clause-within c = omega (arith, c.from.ensures, somes_small c.part.result (omega (arith, c.part.ensures.within)))
