use Rattle.std.proofs.Common.{◌≡◌, sym, ◌∙◌, ap, arith, Some}
use Rattle.stream_defs.specs.declared.range.RowRange.{RowRange}
use Rattle.damage_rows.proofs.RangeLaws.{found_from_start, found_begins, found_on, found_none}
use Rattle.damage_rows.proofs.damage.Damage.next_range.Goals as goal

pub loop-row-init : goal.loop-row-init
loop-row-init c = found_from_start c.args.self.now.rows c.args.self.now.missing c.args.from c.args.from (omega arith)

pub returns-then-begins_range : goal.returns-then-begins_range
returns-then-begins_range c =
    let m = c.args.self.now in
    let rows : c.self.inside.rows ≡ m.rows = ap (λ m. m.rows) c.self.view_is in
    ap (λ last. let range : RowRange = record { first = c.loop-row.row; last = last } in Some range) c.last_of_range.ensures
    ∙ sym (found_begins m.rows m.missing c.args.from c.loop-row.row (omega arith) (omega arith) (sym c.begins_range.ensures ∙ c.if-begins_range.true))
    ∙ sym c.loop-row.invariant

pub loop-row-preserved : goal.loop-row-preserved
loop-row-preserved c =
    let m = c.args.self.now in
    let rows : c.self.inside.rows ≡ m.rows = ap (λ m. m.rows) c.self.view_is in
    c.loop-row.invariant ∙ found_on m.rows m.missing c.args.from c.loop-row.row (omega arith) (sym c.begins_range.ensures ∙ c.if-begins_range.false)

pub returns : goal.returns
returns c =
    let m = c.args.self.now in
    let rows : c.self.inside.rows ≡ m.rows = ap (λ m. m.rows) c.self.view_is in
    sym (c.loop-row.invariant ∙ found_none m.rows m.missing c.args.from c.loop-row.row (omega arith))
