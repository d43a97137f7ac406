use Rattle.std.proofs.Common.{◌*◌, ◌^◌, arith}
use Rattle.std.proofs.lemmas.Result.{IfOk-weaker}
use Rattle.wave_defs.proofs.LevelWithin.{columns_merged-within}
use Rattle.wave_plain.proofs.JoinLemmas.{shown_plane_within, columns_shown_at, shown_rows}
use Rattle.wave_plain.proofs.join.join.Goals as goal
use Rattle.wave_defs.proofs.Equations.{joined-is}

pub join_rows-requires-clause-low_bounded : goal.join_rows-requires-clause-low_bounded
join_rows-requires-clause-low_bounded c =
    let low = c.in_ok-low.ensures in
    let b = c.requires.bounded in
    shown_plane_within (3 * 2 ^ 34) (2 ^ 38) _ _ _ _ _ _ (omega arith) low.size.rows_are low.size.columns_are low
    (columns_merged-within (2 ^ 34) _ _ _ _ (omega arith) (omega arith) b.ll b.lh)

pub join_rows-requires-clause-high_bounded : goal.join_rows-requires-clause-high_bounded
join_rows-requires-clause-high_bounded c =
    let low = c.in_ok-low.ensures in
    let b = c.requires.bounded in
    let high = columns_shown_at _ _ _ _ _ _ _ c.requires.hl_size.rows_are c.requires.hl_size.columns_are c.in_ok-high.ensures in
    shown_plane_within (3 * 2 ^ 34) (2 ^ 38) _ _ _ _ _ _ (omega arith) low.size.rows_are low.size.columns_are high
    (columns_merged-within (2 ^ 34) _ _ _ _ (omega arith) (omega arith) b.hl b.hh)

pub returns : goal.returns
returns c =
    rw joined-is (
    let high = columns_shown_at _ _ _ _ _ _ _ c.requires.hl_size.rows_are c.requires.hl_size.columns_are c.in_ok-high.ensures in
    IfOk-weaker c.join_rows.result _ _ (λ p made. shown_rows _ _ _ _ _ _ p (omega arith) c.in_ok-low.ensures high made) c.join_rows.ensures
    )
