use Rattle.std.proofs.Common.{ℕ, ◌+◌, ◌^◌, length, get_or, set, [], sym, ap, subst, ◌∙◌}
use Rattle.wave_defs.specs.Held.{signal}
use Rattle.wave_defs.specs.Within.{AllWithin}
use Rattle.inverse_strip.specs.Cells.{AreBandRows, row_place}
use Rattle.inverse_strip.proofs.CellLemmas.{row-wide, row-there, AreBandRows-set}
use Rattle.inverse_strip.proofs.block_row.BlockRow.turn_into.Goals as goal

pub turn_into-requires-clause-wide : goal.turn_into-requires-clause-wide
turn_into-requires-clause-wide c =
    let s = c.args.self.now in
    ap (λ (n : ℕ). length (get_or s.rows (n + c.args.row) [])) c.rows_before.ensures
    ∙ row-wide s.columns c.args.band c.args.row s.rows s.whole c.requires.band c.requires.row ∙ sym c.requires.wide

pub invariant_of-self-clause-whole : goal.invariant_of-self-clause-whole
invariant_of-self-clause-whole c =
    let s = c.args.self.now in
    let k = row_place c.args.band c.args.row in
    let oldest = get_or c.args.ring.now 0 [] in
    let there = row-there s.columns c.args.band c.args.row s.rows s.whole c.requires.band c.requires.row in
    let here = row-wide s.columns c.args.band c.args.row s.rows s.whole c.requires.band c.requires.row in
    let made = c.turn_into.ensures.rows ∙ ap (λ (n : ℕ). set s.rows (n + c.args.row) oldest) c.rows_before.ensures in
    let small = subst (λ (n : ℕ). AllWithin (2 ^ 27) n (signal oldest)) (sym c.requires.wide) c.requires.small in
    subst (AreBandRows s.columns) (sym made) (AreBandRows-set s.columns k s.rows oldest s.whole there (c.requires.wide ∙ sym here) small)
