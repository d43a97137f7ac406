use Rattle.std.proofs.Common.{◌+◌, ◌^◌, arith}
use Rattle.plane_coder.specs.Costs.{IsRoomy}
use Rattle.plane_coder.proofs.Costing.{adds_both, roomy_later, costs_of_all}
use Rattle.plane_coder.proofs.choose.costs_of.Goals as goal

pub add_words-requires : goal.add_words-requires
add_words-requires c = (
  omega arith,
  (
    omega (arith, c.args.words.now.parents.within),
    record { short = omega (arith, c.new-costs.ensures.short); long = omega (arith, c.new-costs.ensures.long) },
  ),
)

pub add_words-requires-2 : goal.add_words-requires-2
add_words-requires-2 c =
    let book = c.args.tables.now.book in
    let first : IsRoomy c.new-costs.result 0 = record { short = omega (arith, c.new-costs.ensures.short); long = omega (arith, c.new-costs.ensures.long) } in (
      omega arith,
      (
        omega (arith, c.args.words.now.children.within),
        roomy_later book c.args.words.now.parents.count 0 (2 ^ 61) c.add_words.ensures first (omega (arith, c.args.words.now.parents.within)),
      ),
    )

pub add_words-requires-3 : goal.add_words-requires-3
add_words-requires-3 c =
    let book = c.args.tables.now.book in
    let words = c.args.words.now in
    let first : IsRoomy c.new-costs.result 0 = record { short = omega (arith, c.new-costs.ensures.short); long = omega (arith, c.new-costs.ensures.long) } in
    let both = adds_both book words.parents.count words.children.count c.add_words.ensures c.add_words-2.ensures in (
      omega arith,
      (
        omega (arith, words.grandchildren.within),
        roomy_later book (words.parents.count + words.children.count) 0 (2 ^ 61) both first (omega (arith, words.parents.within, words.children.within)),
      ),
    )

pub returns : goal.returns
returns c =
    let book = c.args.tables.now.book in
    let words = c.args.words.now in
    let last = adds_both book words.children.count words.grandchildren.count c.add_words-2.ensures c.add_words-3.ensures in
    let all = adds_both book words.parents.count (words.children.count + words.grandchildren.count) c.add_words.ensures last in
    costs_of_all book (words.parents.count + (words.children.count + words.grandchildren.count)) c.new-costs.ensures.short c.new-costs.ensures.long
    (omega (arith, words.parents.within, words.children.within, words.grandchildren.within)) all
