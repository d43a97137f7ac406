use Rattle.std.proofs.Common.{◌≡◌, ◌+◌, ◌<◌, ◌≤◌, ℕ, get_or, []}
use Rattle.wave_defs.specs.Level.{Quarters}
use Rattle.wave_defs.specs.Blocks.{block_side}
use Rattle.inverse_strip.specs.Stage.{FollowStage}
use Rattle.inverse_strip.specs.Cells.{HasBlockRow, first_row, row_place}
use Rattle.inverse_strip.proofs.stage.LevelStage.take_rows.Given as goal

abbrev pub invariant-loop-y : goal.invariant-loop-y
invariant-loop-y l = record {
  level : l.self.level ≡ l.initial.self.level;
  kept : l.self.kept ≡ l.initial.self.kept;
  came : l.self.came ≡ l.initial.self.came + l.y;
  columns : l.bands.columns ≡ l.initial.bands.columns;
  before : (i : ℕ) → i < first_row l.high → get_or l.bands.rows i [] ≡ get_or l.initial.bands.rows i [];
  others : (b z : ℕ) → l.high ≤ b → b < l.high + 3 → l.y ≤ z → z < block_side b
      → get_or l.bands.rows (row_place b z) [] ≡ get_or l.initial.bands.rows (row_place b z) [];
  follows : (q : Quarters) → FollowStage q l.initial.self
      → HasBlockRow q.hl (l.high + 1) l.initial.self.came l.initial.bands.columns l.initial.bands.rows
      → HasBlockRow q.lh (l.high + 2) l.initial.self.came l.initial.bands.columns l.initial.bands.rows
      → HasBlockRow q.hh l.high l.initial.self.came l.initial.bands.columns l.initial.bands.rows
      → FollowStage q l.self;
}
