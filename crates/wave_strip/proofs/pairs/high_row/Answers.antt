use Rattle.std.proofs.Common.{◌≡◌, ◌+◌, ◌<◌, arith}
use Rattle.std.proofs.lemmas.Grind.{common_steps}
use Rattle.wave_defs.specs.Line.{even_before}
use Rattle.wave_defs.proofs.PairLemmas.{Agrees-open_high, less_predicted-within}
use Rattle.wave_strip.proofs.pairs.high_row.Goals as goal
use Rattle.wave_strip.proofs.pairs.high_row.Goals.{then-j-eq0, else-j-eq0}

pub returns-clause-value : goal.returns-clause-value
returns-clause-value c = λ a e o.
    let lifted = simp (c.at.ensures, c.at-2.ensures, c.at-3.ensures, c.at-4.ensures, c.at-5.ensures) at c.predict_sub_onto.ensures in
    let long = c.requires.odds.wide 0 (omega arith) in
    let inside : c.if-j-eq0.before < 4 = elim c.if-j-eq0.branch [ then-j-eq0 w ↦ omega arith | else-j-eq0 w ↦ omega arith ] in
    let place : c.args.j + 3 + c.if-j-eq0.before ≡ even_before c.args.j + 4 =
    elim c.if-j-eq0.branch [ then-j-eq0 w ↦ omega arith | else-j-eq0 w ↦ omega arith ] in
    Agrees-open_high a _ c.args.j c.if-j-eq0.before c.args.evens.now c.args.odds.now _ c.requires.evens.count_is c.requires.odds.count_is inside place
    (record { at = λ k h. lifted.at k (omega arith) }) e o

pub returns-clause-small : goal.returns-clause-small
returns-clause-small c = grind (arith, common_steps, then-j-eq0, else-j-eq0, less_predicted-within)
