-- DCs that are moved into their intervals.
use Rattle.std.proofs.Common.{◌<◌, ℕ, ℤ, List, sym, ap, ◌∙◌, arith}
use Rattle.base_122.specs.Restored.{restored_dc}
use Rattle.number_defs.specs.Cells.{cell_at}
use Rattle.number_defs.specs.DcLows.{DcGiven}
use Rattle.dc_depths.specs.declared.reach.DcReach.{DcReach}
use Rattle.dc_depths.specs.Dcs.{block_count, SetsDcs}
use Rattle.dc_depths.specs.Reach.{lows_of, AreGivenTo}
use Rattle.dc_depths.proofs.DcCells.{dcs_then}

-- the DCs of these blocks, each in its interval
abbrev pub moved : (shift q : ℕ) → DcReach → List ℤ → ℕ → ℤ
moved shift q reach cells r = restored_dc shift (lows_of q reach r) (cell_at 64 cells r)

pub moved_given : (shift q : ℕ) (reach : DcReach) (given : DcGiven) {first old new : List ℤ} → SetsDcs given.dcs first old →
    AreGivenTo q (block_count first) reach given.lows → SetsDcs (moved shift q reach old) old new →
    SetsDcs (λ r. restored_dc shift (given.lows r) (given.dcs r)) first new
moved_given shift q reach given {first} {old} s lows t =
    dcs_then given.dcs (moved shift q reach old) (λ r. restored_dc shift (given.lows r) (given.dcs r)) s t (λ r lt.
    let less : r < block_count first = omega (arith, lt) in
    ap (λ low. restored_dc shift low (cell_at 64 old r)) (sym (lows.at r less)) ∙ ap (restored_dc shift (given.lows r)) (s.dcs r lt))
