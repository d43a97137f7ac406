use Rattle.std.proofs.Common.{[], ◌*◌, ℤ, List, get_or, ap}
use Rattle.wave_defs.specs.Held.{signal}
use Rattle.inverse_strip.proofs.CellLemmas.{number-zero, zeros-more}
use Rattle.inverse_strip.proofs.block_row.BlockRow.new.Goals as goal

pub returns-clause-zero : goal.returns-clause-zero
returns-clause-zero c = λ p.
    number-zero c.args.columns p _ (zeros-more 4 c.args.columns _ _ c.in_ok-add-3.ensures
    (zeros-more 6 (2 * c.args.columns) _ _ c.in_ok-add-2.ensures
    (zeros-more 12 (4 * c.args.columns) _ _ c.in_ok-add.ensures (λ i k. ap (λ (rows : List (List ℤ)). signal (get_or rows i []) k) c.new-rows.ensures))))
