use Rattle.std.proofs.Common.{rules, ◌≡◌, ◌%◌, ◌^◌, refl, ap, ◌∙◌, subst, arith, get_or, pos, w32, of_z, FitsSigned}
use Rattle.std.specs.Int.{cast_signed}
use Rattle.std.proofs.lemmas.Int.{to_z-of_z}
use Rattle.block_masks.specs.Slices.{PutsMask}
use Rattle.plane_reader.proofs.SlicedCells.{has_more, empty_mask}
use Rattle.plane_reader.proofs.slicing.put_dcs.Goals as goal

pub loop-b-init : goal.loop-b-init
loop-b-init c = record {
  long = refl;
  if_known = λ q lt. absurd (omega (arith, lt));
  others = λ q s there few other. empty_mask c.args.part.now q s c.requires.empty;
}

pub loop-b-preserved : goal.loop-b-preserved
loop-b-preserved c =
    let dc = get_or c.args.dcs.now c.loop-b.b (pos 0) in
    let fits : FitsSigned w32 dc = search rules in
    let number : c.cast_unsigned.result ≡ of_z w32 dc = c.cast_unsigned.ensures ∙ ap (of_z w32) (to_z-of_z w32 dc fits) in
    let same : c.from.result % 2 ^ 32 ≡ of_z w32 dc = omega (arith, c.from.ensures, number, c.cast_unsigned.type_inv) in
    let put : PutsMask c.loop-b.b 30 c.from.result c.loop-b.part c.put_mask.new.cells = subst
    (λ r. PutsMask r 30 c.from.result c.loop-b.part c.put_mask.new.cells) c.of-column.ensures.block c.put_mask.ensures in
    has_more (omega (arith, c.loop-b-test.true)) c.loop-b.invariant put (ap (cast_signed w32) same ∙ to_z-of_z w32 dc fits)

pub returns-clause-dcs : goal.returns-clause-dcs
returns-clause-dcs c = λ b lt. c.loop-b.invariant.if_known b (omega (arith, lt, c.requires.whole, c.loop-b-test.false, c.loop-b.auto.b-end))

pub returns-clause-others : goal.returns-clause-others
returns-clause-others c = λ b s lt few other. c.loop-b.invariant.others b s (omega (arith, lt, c.loop-b.invariant.long)) few other
