-- The octets of rows of a raster, and of one row more.
use Rattle.std.proofs.Common.{◌≡◌, ℕ, ◌+◌, ◌*◌, ◌/◌, ◌<◌, ◌≤◌, ℤ, List, ◌++◌, length, sym, ap, ◌∙◌, subst, arith}
use Rattle.std.proofs.Math.Nat.{mul_assoc, mul-div_left, div-mul-le_self, le_of_mul-le-mul_right}
use Rattle.base_122.specs.declared.setting.Setting.{Setting}
use Rattle.raster_rows.specs.Pixels.{pixel_size, whole_pixels}
use Rattle.raster_rows.specs.RowReads.{FirstInRange, IsFirstBad}
use Rattle.raster_rows.proofs.PixelPlaces.{size_some}
use Rattle.raster_rows.proofs.RowsTaken.{FirstInRange-append, IsFirstBad-append, whole_pixels-append}
use Rattle.strip_coder.specs.Rasters.{row_length, AreInRange}
use Rattle.strip_coder.specs.Answers.{AllInRange, FirstBad}

-- the octets of r rows, pixel by pixel
pub row_pixels : (s : Setting) (r : ℕ) (took : List ℕ) → length took ≡ r * row_length s → length took ≡ (r * s.width) * pixel_size s.depth
row_pixels s r took whole = whole ∙ sym (mul_assoc r s.width (pixel_size s.depth))

-- they are all of the whole pixels
pub all_whole : (s : Setting) (r : ℕ) (took : List ℕ) → length took ≡ r * row_length s → AreInRange s took (r * s.width) → AllInRange s took
all_whole s r took whole here =
    let some = size_some s.depth in
    let count : whole_pixels s.depth took ≡ r * s.width = ap (λ n. n / pixel_size s.depth) (row_pixels s r took whole) ∙ mul-div_left (r * s.width) {n =
    pixel_size s.depth} some in
    subst (AreInRange s took) (sym count) here

-- this number of further pixels is in range
pub in_range-more : (s : Setting) (r n : ℕ) (took got : List ℕ) → length took ≡ r * row_length s → AreInRange s took (r * s.width) →
    FirstInRange s.depth s.signed got n → AreInRange s (took ++ got) (r * s.width + n)
in_range-more s r n took got whole before here = FirstInRange-append s.depth s.signed took got (r * s.width) n (row_pixels s r took whole) before here

pub all_in_range-more : (s : Setting) (r : ℕ) (took got : List ℕ) → length took ≡ r * row_length s → AreInRange s took (r * s.width) →
    FirstInRange s.depth s.signed got (whole_pixels s.depth got) → AllInRange s (took ++ got)
all_in_range-more s r took got whole before here =
    subst (AreInRange s (took ++ got)) (sym (whole_pixels-append s.depth took got (r * s.width) (row_pixels s r took whole)))
    (in_range-more s r (whole_pixels s.depth got) took got whole before here)

pub first_bad-more : (s : Setting) (r column : ℕ) (value : ℤ) (took got : List ℕ) → length took ≡ r * row_length s → AreInRange s took (r * s.width) →
    length got ≤ row_length s → IsFirstBad s.depth s.signed got column value → FirstBad s (took ++ got) r column value
first_bad-more s r column value took got whole before le bad =
    let fits = div-mul-le_self (length got) (pixel_size s.depth) in
    record {
      in_row = narrow (whole_pixels s.depth got) (pixel_size s.depth) bad.whole (size_some s.depth) (omega (arith, fits, le));
      first = IsFirstBad-append s.depth s.signed took got (r * s.width) column value (row_pixels s r took whole) before bad;
    }
  where
    narrow : {c w : ℕ} (n size : ℕ) → c < n → 1 ≤ size → n * size ≤ w * size → c < w
    narrow {c} {w} n size lt some le = omega (arith, le_of_mul-le-mul_right {m = n} {n = w} {k = size} le some)
