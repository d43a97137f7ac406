use Rattle.std.proofs.Common.{arith, ◌≡◌, ◌∙◌, ap, refl, slice_set, slice_index_or, ◌+◌, ◌*◌}
use Rattle.code_book.specs.Reading.{table_from}
use Rattle.code_book.proofs.TablesIn.{table_next}
use Rattle.code_book.proofs.read.table_from.Goals as goal

pub loop-symbol-init : goal.loop-symbol-init
unfolding table_from
loop-symbol-init c = refl

pub loop-symbol-preserved : goal.loop-symbol-preserved
loop-symbol-preserved c =
    ap (λ codes. slice_set codes c.loop-symbol.symbol record {
      bits = slice_index_or c.args.octets.now (c.args.start + 2 * c.loop-symbol.symbol + 1) 0;
      len = slice_index_or c.args.octets.now (c.args.start + 2 * c.loop-symbol.symbol) 0;
    }) c.loop-symbol.invariant ∙
    table_next c.args.octets.now c.args.start c.loop-symbol.symbol (omega (arith, c.loop-symbol-test.true, c.requires.few))

pub returns : goal.returns
returns c =
    let e : c.loop-symbol.symbol ≡ c.args.count = omega (arith, c.loop-symbol-test.false, c.loop-symbol.auto.symbol-end) in
    c.loop-symbol.invariant ∙ ap (table_from c.args.octets.now c.args.start) e
