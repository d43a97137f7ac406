-- The bands of an image have each of its block rows.
use Rattle.std.proofs.Common.{◌≡◌, ℕ, ◌/◌, ◌<◌, ◌≤◌, ◌^◌, arith}
use Rattle.wave_defs.specs.Within.{PyramidWithin}
use Rattle.wave_plain.specs.declared.Bands.{Bands}
use Rattle.wave_plain.specs.Images.{IsWhole, pyramid_in}
use Rattle.wave_plain.specs.BlockRows.{IsBlockRow}

pub block_row : (b : Bands) (r c row : ℕ) → r ≤ 2 ^ 15 → IsWhole r c b → PyramidWithin 409600 2560000 16000000 r c (pyramid_in b) → row < r → IsBlockRow b row
block_row b r c row few whole small lt =
    let rows : b.rows / 8 ≡ r = omega (arith, whole.rows_are) in
    let columns : b.width / 8 ≡ c = omega (arith, whole.columns_are) in
    record {
      whole = rw (rows, columns) whole;
      small = rw (rows, columns) small;
      valid = omega (arith, rows);
      few = omega (arith, rows);
    }
