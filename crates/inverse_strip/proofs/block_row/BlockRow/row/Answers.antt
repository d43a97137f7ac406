use Rattle.std.proofs.Common.{ℕ, ◌+◌, length, get_or, [], sym, ap, ◌∙◌}
use Rattle.wave_defs.specs.Held.{signal}
use Rattle.inverse_strip.proofs.CellLemmas.{number-at, row-wide}
use Rattle.inverse_strip.proofs.block_row.BlockRow.row.Goals as goal

pub returns-clause-wide : goal.returns-clause-wide
returns-clause-wide c =
    let s = c.args.self.now in
    ap length c.at.ensures ∙ ap (λ (n : ℕ). length (get_or s.rows (n + c.args.row) [])) c.rows_before.ensures
    ∙ row-wide s.columns c.args.band c.args.row s.rows s.whole c.requires.band c.requires.row

pub returns-clause-value : goal.returns-clause-value
returns-clause-value c = λ j h.
    let s = c.args.self.now in
    ap (λ x. signal x j) c.at.ensures ∙ ap (λ (n : ℕ). signal (get_or s.rows (n + c.args.row) []) j) c.rows_before.ensures
    ∙ sym (number-at s.columns s.rows (record { band = c.args.band; row = c.args.row; column = j })
    (record { band = c.requires.band; row = c.requires.row; column = h }))
