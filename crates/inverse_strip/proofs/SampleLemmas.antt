-- The number of samples that the parts of the rolling inverse hold.
use Rattle.std.proofs.Common.{◌≡◌, ℕ, suc, ◌+◌, ◌*◌, ◌<◌, ℤ, List, [], ◌∷◌, length, map, get_or, refl, ap, ◌∙◌, arith}
use native.Mathlib.Nat.{add-mul}
use Rattle.wave_defs.specs.Rings.{AreRows}
use Rattle.inverse_strip.specs.declared.columns.Columns.{Columns}
use Rattle.inverse_strip.specs.declared.level.InverseLevel.{InverseLevel}
use Rattle.inverse_strip.specs.declared.stage.LevelStage.{LevelStage}
use Rattle.inverse_strip.specs.declared.strip.StripInverse.{StripInverse}
use Rattle.inverse_strip.specs.Cells.{AreBandRows, row_widths}
use Rattle.inverse_strip.specs.Samples.{row_samples, columns_samples, level_samples, stage_samples, strip_samples}

rows-samples : (w : ℕ) (rows : List (List ℤ)) → ((t : ℕ) → t < length rows → length (get_or rows t []) ≡ w) → row_samples rows ≡ length rows * w
rows-samples w [] wide = omega arith
rows-samples w (x ∷ xs) wide =
    let here : length x ≡ w = wide 0 (omega arith) in
    let rest = rows-samples w xs (λ t h. wide (suc t) (omega arith)) in
    let more = add-mul (length xs) 1 w in
    let long : length (x ∷ xs) ≡ length xs + 1 = omega arith in
    let whole : length (x ∷ xs) * w ≡ (length xs + 1) * w = ap (λ (n : ℕ). n * w) long in
    omega arith

pub ring-samples : (n w : ℕ) (rows : List (List ℤ)) → AreRows n w rows → row_samples rows ≡ n * w
ring-samples n w rows s =
    let count = s.count_is in
    rows-samples w rows (λ t h. s.wide t (omega arith)) ∙ ap (λ (k : ℕ). k * w) s.count_is

columns-samples : (s : Columns) → columns_samples s ≡ 7 * s.width
columns-samples s =
    let evens = ring-samples 4 s.width s.evens s.sink_state.evens in
    let highs = ring-samples 3 s.width s.highs s.sink_state.highs in
    omega arith

level-samples : (s : InverseLevel) → level_samples s ≡ 16 * s.left.width
level-samples s =
    let left = columns-samples s.left in
    let right = columns-samples s.right in
    let a = s.same_width in
    let b = s.left_room in
    let c = s.right_room in
    omega arith

stage-samples : (n : ℕ) (s : LevelStage) → s.kept ≡ n → stage_samples s ≡ 16 * s.level.left.width
    + (n * s.level.left.width + n * s.level.left.width + n * s.level.left.width)
stage-samples n s e =
    let w = s.level.left.width in
    let level = level-samples s.level in
    let kept = ap (λ (k : ℕ). k * w) e in
    let hl = ring-samples s.kept w s.hl s.hl_valid in
    let lh = ring-samples s.kept w s.lh s.lh_valid in
    let hh = ring-samples s.kept w s.hh s.hh_valid in
    omega arith

-- the rows of a block row, whose lengths are known
abbrev total : List ℕ → ℕ
total [] = 0
total (n ∷ ns) = n + total ns

lengths-total : (rows : List (List ℤ)) → row_samples rows ≡ total (map length rows)
lengths-total [] = refl
lengths-total (x ∷ xs) = ap (λ (n : ℕ). length x + n) (lengths-total xs)

widths-total : (columns : ℕ) → total (row_widths columns) ≡ 64 * columns
widths-total columns = omega arith

block_row-samples : (columns : ℕ) (rows : List (List ℤ)) → AreBandRows columns rows → row_samples rows ≡ 64 * columns
block_row-samples columns rows s = lengths-total rows ∙ ap total s.widths ∙ widths-total columns

pub strip-samples : (s : StripInverse) → strip_samples s ≡ 376 * s.third.left.width
strip-samples s =
    let third = level-samples s.third in
    let second = stage-samples 6 s.second s.second_kept in
    let first = stage-samples 13 s.first s.first_kept in
    let a = s.second_wide in
    let b = s.first_wide in
    let c = s.row_room in
    let d = block_row-samples s.next.columns s.next.rows s.next.whole in
    let e = s.next_wide in
    omega arith
