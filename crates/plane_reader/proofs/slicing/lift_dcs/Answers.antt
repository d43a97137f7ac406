use Rattle.std.proofs.Common.{rules, ◌+◌, ◌*◌, refl, sym, subst, arith, get_or, set, pos, w32, FitsSigned}
use Rattle.std.proofs.lemmas.Int.{to_z-of_z}
use Rattle.plane_reader.proofs.SlicedCells.{Lifts, lifts_more}
use Rattle.plane_reader.proofs.slicing.lift_dcs.Goals as goal

pub loop-b-init : goal.loop-b-init
loop-b-init c = record {
  long = refl;
  size = refl;
  if_known = λ q lt. absurd (omega (arith, lt));
  gone = λ q lt. absurd (omega (arith, lt));
  later = λ i le. refl;
  others = λ i other. refl;
}

pub loop-b-preserved : goal.loop-b-preserved
loop-b-preserved c =
    let now = c.loop-b.part in
    let b = c.loop-b.b in
    let dc = get_or now (64 * b) (pos 0) in
    let fits : FitsSigned w32 dc = search rules in
    subst (λ z. Lifts (b + 1) c.args.part.now (set now (64 * b) (pos 0)) (set c.loop-b.dcs b z)) (sym (to_z-of_z w32 dc fits))
    (lifts_more (omega (arith, c.loop-b-test.true)) (omega (arith, c.loop-b-test.true, c.requires.few)) c.loop-b.invariant)

pub returns-clause-dcs : goal.returns-clause-dcs
returns-clause-dcs c = λ b lt. c.loop-b.invariant.if_known b (omega (arith, lt, c.loop-b-test.false, c.loop-b.auto.b-end))

pub returns-clause-gone : goal.returns-clause-gone
returns-clause-gone c = λ b lt. c.loop-b.invariant.gone b (omega (arith, lt, c.loop-b-test.false, c.loop-b.auto.b-end))

pub returns-clause-others : goal.returns-clause-others
returns-clause-others c = c.loop-b.invariant.others
