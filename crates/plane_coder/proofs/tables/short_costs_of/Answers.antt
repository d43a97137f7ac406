use Rattle.std.proofs.Common.{◌≢◌, ◌<◌, length, arith, below_more, get_or-set_other, get_or-set_same, refl, ◌∙◌, length-set}
use Rattle.plane_coder.proofs.tables.short_costs_of.Goals as goal

pub loop-word-init : goal.loop-word-init
loop-word-init c = record { whole = refl; so_far = λ book codes word below. absurd (omega arith) }

pub loop-word-preserved : goal.loop-word-preserved
loop-word-preserved c =
    let i = c.loop-word.invariant in
    let within : c.loop-word.word < length c.loop-word.costs = omega (arith, i.whole, c.loop-word-test.true) in
    record {
      whole = length-set c.loop-word.costs _ _ ∙ i.whole;
      so_far = λ book codes. below_more _ _
          (λ k h. let ne : k ≢ c.loop-word.word = omega arith in rw get_or-set_other (i.so_far book codes k h))
          (rw get_or-set_same (c.short_cost.ensures book codes));
    }

pub returns : goal.returns
returns c book codes word packed = c.loop-word.invariant.so_far book codes word (omega (arith, c.loop-word-test.false, packed.length)) packed
