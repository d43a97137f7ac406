use Rattle.std.proofs.Common.{◌≡◌, ◌<◌, ◌*◌, ◌/◌, ◌%◌, ◌^◌, ◌∙◌, ap, sym, arith, bit_or, get_or, length, slice_set}
use Rattle.std.proofs.lemmas.List.{get_or_default}
use Rattle.damage_rows.specs.Table.{set_rows}
use Rattle.stream_defs.specs.Marks.{Marks}
use Rattle.damage_rows.proofs.TableLaws.{marked_by_bit}
use Rattle.damage_rows.proofs.damage.Damage.miss.Goals as goal

pub returns : goal.returns
returns c =
    let low = rw (← c.self.view_is) at c.requires in
    let words = c.self.inside.words.items in
    let r = c.args.block_row in
    let below : r < 32768 = omega (arith, low, c.self.invariant.rows) in
    let within : r / 64 < length words = omega (arith, c.self.invariant.words, below) in
    let word : get_or words (r / 64) 0 ≡ c.index_mut.result.now = get_or_default words (r / 64) 0 c.index_mut.result.now within ∙
    sym c.index_mut.ensures.value in
    rw (← c.self.view_is) (ap (λ n. let m : Marks = record {
      rows = c.self.inside.rows;
      missing = set_rows (slice_set words (r / 64) (bit_or n (1 * 2 ^ (r % 64) % 2 ^ 64)));
    } in m) (sym word) ∙ marked_by_bit words c.self.inside.rows r c.self.invariant.words below)
