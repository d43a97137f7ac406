use Rattle.std.proofs.Common.{◌≡◌, ◌<◌, ◌/◌, ◌%◌, ◌^◌, ◌==◌, ◌∙◌, ap, sym, arith, bit_and, get_or, length}
use Rattle.std.proofs.lemmas.List.{get_or_default}
use Rattle.damage_rows.proofs.TableLaws.{missing_is_set, set_by_shift}
use Rattle.damage_rows.proofs.damage.Damage.is_missing.Goals as goal

pub returns : goal.returns
returns c =
    let words = c.self.inside.words.items in
    let r = c.args.block_row in
    let within : r / 64 < length words = omega (arith, c.self.invariant.words, c.requires) in
    let word : get_or words (r / 64) 0 ≡ c.index.result.now = get_or_default words (r / 64) 0 c.index.result.now within ∙ sym c.index.ensures in
    rw (← c.self.view_is) (ap (λ n. bit_and (n / 2 ^ (r % 64)) 1 == 1) (sym word) ∙ set_by_shift words r ∙ sym (missing_is_set words r c.requires))
