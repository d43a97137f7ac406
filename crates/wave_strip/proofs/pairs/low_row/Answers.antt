use Rattle.std.proofs.Common.{◌≡◌, ◌+◌, ◌-◌, ◌<◌, arith}
use Rattle.std.proofs.lemmas.Grind.{common_steps}
use Rattle.wave_defs.proofs.PairLemmas.{Agrees-open_low, less_correction-within}
use Rattle.wave_strip.proofs.pairs.low_row.Goals as goal
use Rattle.wave_strip.proofs.pairs.low_row.Goals.{then-j-eq0, else-j-eq0}

pub returns-clause-value : goal.returns-clause-value
returns-clause-value c = λ a e d.
    let lifted = simp (c.at.ensures, c.at-2.ensures, c.at-3.ensures) at c.update_sub_onto.ensures in
    let long = c.requires.evens.wide 1 (omega arith) in
    let two = c.requires.two in
    let inside : c.if-j-eq0.before < c.args.kept = elim c.if-j-eq0.branch [ then-j-eq0 w ↦ omega arith | else-j-eq0 w ↦ omega arith ] in
    let place : c.args.j + 1 + c.if-j-eq0.before ≡ (c.args.j - 1) + c.args.kept =
    elim c.if-j-eq0.branch [ then-j-eq0 w ↦ omega arith | else-j-eq0 w ↦ omega arith ] in
    Agrees-open_low a _ c.args.kept c.args.j c.if-j-eq0.before c.args.evens.now c.args.highs.now _ c.requires.evens.count_is c.requires.highs.count_is two
    inside place
    (record { at = λ k h. lifted.at k (omega arith) }) e d

pub returns-clause-small : goal.returns-clause-small
returns-clause-small c = grind (arith, common_steps, then-j-eq0, else-j-eq0, less_correction-within)
