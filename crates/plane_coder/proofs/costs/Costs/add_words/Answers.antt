use Rattle.std.proofs.Common.{◌≡◌, ◌+◌, ◌/◌, ◌%◌, ◌∷◌, [], ◌∙◌, ap, sym, subst, arith}
use Rattle.item_defs.specs.Bits.{bits_of}
use Rattle.plane_coder.specs.Listed.{entries_at}
use Rattle.plane_coder.specs.Picked.{signs_in, word_of}
use Rattle.plane_coder.specs.Costs.{Adds}
use Rattle.plane_coder.proofs.Costing.{adds_start, adds_more, adds_raws}
use Rattle.plane_coder.proofs.costs.Costs.add_words.Goals as goal

pub loop-i-init : goal.loop-i-init
loop-i-init g c = record { adds = adds_start c.args.tables.now.book c.args.self.now (entries_at c.args.words.now.list) 0 }

pub loop-i-preserved : goal.loop-i-preserved
loop-i-preserved g c =
    let book = c.args.tables.now.book in
    let signs = signs_in c.at.result in
    let word = subst (λ n. Adds book c.loop-i.self c.add.new.self (word_of n ∷ []) 1) c.word.ensures c.add.ensures in
    let here : 0 + c.loop-i.i ≡ c.loop-i.i = omega arith in
    let entries = c.at.ensures.typed ∙ ap (entries_at c.args.words.now.list) (sym here) in
    record {
      adds = adds_more book (entries_at c.args.words.now.list) 0 c.loop-i.i c.loop-i.invariant.adds
          (subst (λ l. Adds book c.loop-i.self c.add.new.self l 1) entries (adds_raws book (bits_of (signs / 16) (signs % 16)) word));
    }
