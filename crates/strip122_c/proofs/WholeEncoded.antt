-- The result of a run of the encoder over the whole raster.
use Rattle.std.proofs.Common.{◌≡◌, ◌≤◌, ◌<◌, ◌+◌, ◌*◌, ◌∙◌, ℕ, ℤ, Bool, List, [], ◌++◌, length, take, refl, sym, ap, subst, arith, inl, inr, length-append}
use Rattle.std.proofs.Common.{IsTrue, Option, Some, None, Result, Ok, Err, div-mul-le_self, mul-le-mul_right}
use Rattle.std.proofs.lemmas.Bool.{cases_lt}
use Rattle.std.proofs.lemmas.List.{take-append-le, length-take-le}
use Rattle.port_122.specs.Outside.{Outside}
use Rattle.port_122.proofs.IfKnown.{end_known, given_known}
use Rattle.base_122.specs.Ranges.{IsInRange, refusal}
use Rattle.base_122.specs.declared.field.Field.{Field}
use Rattle.base_122.specs.declared.field.OutOfRange.{OutOfRange}
use Rattle.base_122.specs.declared.setting.Setting.{Setting}
use Rattle.plane_defs.specs.Codes.{is_book_sound}
use Rattle.raster_rows.specs.Pixels.{IsPixel, pixel_at, pixel_size, whole_pixels}
use Rattle.raster_rows.specs.RowReads.{IsFirstBad}
use Rattle.raster_rows.proofs.PixelPlaces.{size_some, pixel_at-append_left, whole_before, whole_pixels-is, whole_pixels-above}
use Rattle.raster_rows.proofs.RowsTaken.{none_bad}
use Rattle.stream_defs.specs.Output.{output}
use Rattle.strip_coder.specs.declared.encode.EncodeDone.{EncodeDone}
use Rattle.strip_coder.specs.declared.encode.EncodeFault.TheVariants as faults
use Rattle.strip_coder.specs.Answers.{EncodesImage, AllInRange, DoneFor, TookRaster, FirstBad}
use Rattle.strip_coder.specs.Rasters.{image_of, most_length}
use Rattle.strip_decoder.specs.Images.{IsImageFor, ArePixels}
use Rattle.strip122_c.specs.declared.encode.EncodeRefusal.{EncodeRefusal}
use Rattle.strip122_c.specs.declared.encode.EncodeRefusal.TheVariants.{OutOfRange as Refused, Short, Long, BadPixel, SmallRoom, Memory}
use Rattle.strip122_c.specs.WholeEncoding.{IsAdmitted, first_refused, raster_length, HasRun, HasBadPixel, Encodes, Accepts}
use Rattle.strip122_c.proofs.Admitted.{own_height, only_height, own_most, own_lacks, none_refused}
use Rattle.strip_decoder.proofs.TextReads.{left_after}

-- ---- the setting

-- the field that a check names
pub field_named : (o : Option Field) (out : OutOfRange) → refusal o ≡ Err out → o ≡ Some out.field
field_named None out e = absurd cc
field_named (Some field) out e = let same : Err (record { field = field }) ≡ Err out =
    e in ap Some (ap (λ (out : OutOfRange). out.field) (let within : record { field = field } ≡ out = cc in within))

-- ---- the raster

short_raster : (s : Setting) (raster : List ℕ) (old new : Outside) (octets : ℕ) → IsAdmitted s → old.rest ≡ Some raster →
    EncodesImage s old new (Err (faults.Short octets)) →
    (length raster < raster_length s) × AllInRange s raster
short_raster s raster old new octets admits rest run =
    let answer = run.answer in
    let took : run.took ≡ raster = end_known raster run.since rest answer.2 in
    (subst (λ octets. length octets < raster_length s) took (own_lacks s (length run.took) admits answer.1), subst (AllInRange s) took answer.3)

long_raster : (s : Setting) (raster : List ℕ) (old new : Outside) → IsAdmitted s → old.rest ≡ Some raster → EncodesImage s old new (Err faults.Long) →
    (raster_length s < length raster) × TookRaster s s.rows (take (raster_length s) raster)
long_raster s raster old new admits rest run =
    let answer = run.answer in
    let most = own_most s admits in
    let prefix = left_after old.rest new.rest run.took raster run.since.rest rest in
    let same : take (raster_length s) raster ≡ take (most_length s) run.took =
    ap (take (raster_length s)) prefix.are ∙ take-append-le (raster_length s) run.took prefix.rest (omega (arith, answer.0, most)) ∙ ap (λ n. take n run.took)
    (sym most) in
    let longer : raster_length s < length raster = omega (arith, ap length prefix.are, length-append run.took prefix.rest, answer.0, most) in (
      longer,
      record {
        height = own_height s admits;
        whole = length-take-le (raster_length s) raster (omega (arith, longer));
        in_range = subst (AllInRange s) (sym same) answer.1;
      },
    )

-- ---- a value out of range

-- the octets of the pixels up to a place
whole_octets : (depth : ℕ) (octets : List ℕ) (place : ℕ) → place < whole_pixels depth octets → (place + 1) * pixel_size depth ≤ length octets
whole_octets depth octets place whole =
    omega (arith, whole_before (pixel_size depth) place (whole_pixels depth octets) whole, div-mul-le_self (length octets) (pixel_size depth))

-- the first value out of range of some octets is that of more octets
bad_on : (depth : ℕ) (signed : Bool) (took rest : List ℕ) (place : ℕ) (value : ℤ) → IsFirstBad depth signed took place value →
    IsFirstBad depth signed (took ++ rest) place value
bad_on depth signed took rest place value bad =
    let whole = whole_octets depth took place bad.whole in
    let same : (k : ℕ) → k < place + 1 → pixel_at depth signed (took ++ rest) k ≡ pixel_at depth signed took k =
    λ k lt. pixel_at-append_left depth signed took rest k (omega (arith, whole_before (pixel_size depth) k (place + 1) lt, whole)) in
    record {
      whole = whole_pixels-above depth (took ++ rest) place (omega (arith, whole, length-append took rest));
      value_is = bad.value_is ∙ sym (same place (omega arith));
      bad = bad.bad;
      earlier = record { each = λ k lt. subst (IsPixel depth signed) (sym (same k (omega (arith, lt)))) (bad.earlier.each k lt) };
    }

-- a place in a raster is in one of its rows
in_rows : (rows width size row column : ℕ) → 0 < size → (row * width + column + 1) * size ≤ rows * (width * size) → row < rows
in_rows rows width size row column some le = elim (cases_lt row rows) [
  | inl lt ↦ lt
  | inr over ↦
      let above : rows * width + 1 ≤ row * width + column + 1 = omega (arith, mul-le-mul_right width over) in
      let octets : (rows * width + 1) * size ≤ (row * width + column + 1) * size = mul-le-mul_right size above in
      absurd (omega (arith, octets, le, some, flat rows width size))
]
  where
    flat : (rows width size : ℕ) → (rows * width + 1) * size ≡ rows * (width * size) + size
    flat rows width size = grind arith

bad_pixel : (s : Setting) (raster : List ℕ) (old new : Outside) (row column : ℕ) (value : ℤ) → IsAdmitted s → old.rest ≡ Some raster →
    EncodesImage s old new (Err (faults.BadPixel row column value)) → HasBadPixel s raster row column value
bad_pixel s raster old new row column value admits rest run =
    let answer = run.answer in
    let prefix = left_after old.rest new.rest run.took raster run.since.rest rest in
    let bad = answer.1 in
    let place = row * s.width + column in
    let whole = whole_octets s.depth run.took place bad.first.whole in
    record {
      admitted = admits;
      inside = in_rows s.rows s.width (pixel_size s.depth) row column (size_some s.depth) (omega (arith, whole, answer.0, own_most s admits));
      bad = subst (λ octets. FirstBad s octets row column value) (sym prefix.are)
          (record { in_row = bad.in_row; first = bad_on s.depth s.signed run.took prefix.rest place value bad.first });
    }

-- ---- the image

-- the pixels of a raster that was taken are in range
raster_pixels : (s : Setting) (raster : List ℕ) → TookRaster s s.rows raster → ArePixels s s.rows (image_of s raster)
raster_pixels s raster whole = record {
  at = λ i j row column.
      let size = pixel_size s.depth in
      let all : length raster ≡ s.rows * s.width * size + 0 = whole.whole ∙ flat s.rows s.width size in
      let count : whole_pixels s.depth raster ≡ s.rows * s.width = whole_pixels-is s.depth raster (s.rows * s.width) 0 all (size_some s.depth) in
      let rows : (i + 1) * s.width ≤ s.rows * s.width = whole_before s.width i s.rows row in
      whole.in_range.each (i * s.width + j) (omega (arith, count, rows, column));
}
  where
    flat : (rows width size : ℕ) → rows * (width * size) ≡ rows * width * size + 0
    flat rows width size = grind arith

-- the whole raster was taken, and its packets given
pub record HasEncoded (s : Setting) (raster : List ℕ) (new : Outside) (done : EncodeDone) : Type 0 where
  pub took : TookRaster s s.rows raster
  pub image : IsImageFor s s.rows (image_of s raster)
  pub done_for : DoneFor s s.rows (image_of s raster) done
  pub gave : (packets : List ℕ) → new.given ≡ Some packets → packets ≡ output s s.rows (image_of s raster)

pub has_encoded : (s : Setting) (raster : List ℕ) (old new : Outside) (done : EncodeDone) → IsAdmitted s → IsTrue (is_book_sound s.book) →
    length s.weights.shifts ≡ 10 → old.rest ≡ Some raster → old.given ≡ Some [] →
    EncodesImage s old new (Ok done) → HasEncoded s raster new done
has_encoded s raster old new done admits sound ten rest none run =
    let answer = run.answer in
    let took : run.took ≡ raster = end_known raster run.since rest answer.2 in
    let rows : answer.0 ≡ s.rows = only_height s answer.0 admits answer.1.height in
    let whole : TookRaster s s.rows raster = subst (λ rows. TookRaster s rows raster) rows (subst (TookRaster s answer.0) took answer.1) in
    record {
      took = whole;
      image = record { range = admits.range; height = (admits.height, inr refl); weights = ten; sound = sound; pixels = raster_pixels s raster whole };
      done_for = subst (λ rows. DoneFor s rows (image_of s raster) done) rows (subst (λ octets. DoneFor s answer.0 (image_of s octets) done) took answer.4);
      gave = λ packets gives. given_known [] packets run.since none gives ∙ answer.3 ∙ ap (λ octets. output s answer.0 (image_of s octets)) took
          ∙ ap (λ rows. output s rows (image_of s raster)) rows;
    }

pub refused : (s : Setting) (raster room : List ℕ) (old new : Outside) (refusal : EncodeRefusal) → IsAdmitted s → old.rest ≡ Some raster →
    HasRun s old new (Err refusal) → Encodes s raster room room (Err refusal)
refused s raster room old new (Refused field) admits rest run = absurd run
refused s raster room old new Short admits rest run = let short = short_raster s raster old new run.0 admits rest run.1 in (refl, (admits, short.0, short.1))
refused s raster room old new Long admits rest run = let long = long_raster s raster old new admits rest run in (refl, (admits, long.0, long.1))
refused s raster room old new (BadPixel row column value) admits rest run = (refl, bad_pixel s raster old new row column value admits rest run)
refused s raster room old new (SmallRoom octets) admits rest run = absurd run
refused s raster room old new Memory admits rest run = (refl, tt)

-- ---- what is right

none_named : (s : Setting) (field : Field) → IsAdmitted s → first_refused s ≡ Some field → ⊥
none_named s field admits named = let none = none_refused s admits in let both : None ≡ Some field = sym none ∙ named in cc

-- a raster that is whole and in range isn't refused
pub accepts : (s : Setting) (raster old new : List ℕ) (result : Result EncodeDone EncodeRefusal) → Encodes s raster old new result → IsInRange s →
    TookRaster s s.rows raster → Accepts result
accepts s raster old new (Ok done) encodes range took = tt
accepts s raster old new (Err (Refused field)) encodes range took = absurd (none_named s field (record { range = range; height = took.height.0 }) encodes.1)
accepts s raster old new (Err Short) encodes range took = absurd (omega (arith, encodes.1.1, took.whole))
accepts s raster old new (Err Long) encodes range took = absurd (omega (arith, encodes.1.1, took.whole))
accepts s raster old new (Err (BadPixel row column value)) encodes range took = absurd (none_bad took.in_range encodes.1.bad.first)
accepts s raster old new (Err (SmallRoom octets)) encodes range took = tt
accepts s raster old new (Err Memory) encodes range took = tt
