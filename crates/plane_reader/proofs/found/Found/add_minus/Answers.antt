use Rattle.std.proofs.Common.{◌&&◌, false, rules, arith}
use Rattle.item_defs.specs.Bits.{bit}
use Rattle.block_masks.specs.Places.{inside}
use Rattle.block_masks.proofs.Viewing.{shows_own}
use Rattle.plane_reader.proofs.NothingDue.{nothing_added}
use Rattle.plane_reader.proofs.found.Found.add_minus.Goals as goal

pub returns-clause-minus : goal.returns-clause-minus
returns-clause-minus c = λ f g count within whole shows. c.either-self.ensures f _ 0 64 whole (c.placed.ensures g count within shows)

pub returns-clause-none : goal.returns-clause-none
returns-clause-none c = λ e.
    let old = c.args.self.now.minus in
    let start = c.args.start in
    nothing_added old c.either-self.result start (search rules)
    (c.either-self.ensures (bit old) (λ p. inside start 0 p && false) 0 64 (shows_own old 64 (search rules)) (c.placed.ensures (λ p. false) 0 (omega (
      arith,
      c.requires.start,
    )) (record { at = λ k lt. absurd (omega (arith, lt)); small = omega (arith, e) })))
