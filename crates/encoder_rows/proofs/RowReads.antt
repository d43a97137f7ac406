-- A row is read from its octets in memory.
use Rattle.std.proofs.Common.{◌≡◌, ◌≤◌, ◌<◌, ◌+◌, ◌*◌, ◌∙◌, ℕ, ℤ, Bool, List, [], ◌++◌, length, sym, ap, subst, arith, length-append, Some, Ok, Err, Vec}
use Rattle.std.specs.Vec.{with_items}
use Rattle.std.proofs.Math.Nat.{div-mul-le_self}
use Rattle.std.proofs.lemmas.List.{append-nil, nil_from_length}
use Rattle.port_122.specs.Outside.{Outside}
use Rattle.port_122.proofs.IfKnown.{end_known}
use Rattle.base_122.specs.declared.setting.Setting.{Setting}
use Rattle.raster_rows.specs.Pixels.{IsPixel, pixel_at, pixel_size, whole_pixels}
use Rattle.raster_rows.specs.RowReads.{FirstInRange, IsFirstBad, RowRead}
use Rattle.raster_rows.specs.declared.reading.RowFault.TheVariants as faults
use Rattle.raster_rows.proofs.PixelPlaces.{pixel_at-append_left, whole_before, whole_pixels-above}
use Rattle.strip_decoder.proofs.TextReads.{left_after}
use Rattle.strip_coder.specs.Rasters.{row_length}
use Rattle.strip_coder.proofs.RowArrives.{row_holds}
use Rattle.encoder_rows.specs.Rows.{ShowsRow}

-- the octets of the pixels up to a place
whole_octets : (depth : ℕ) (octets : List ℕ) (place : ℕ) → place < whole_pixels depth octets → (place + 1) * pixel_size depth ≤ length octets
whole_octets depth octets place whole =
    omega (arith, whole_before (pixel_size depth) place (whole_pixels depth octets) whole, div-mul-le_self (length octets) (pixel_size depth))

-- the first value out of range of some octets is that of more octets
pub bad_longer : (depth : ℕ) (signed : Bool) (took rest : List ℕ) (place : ℕ) (value : ℤ) → IsFirstBad depth signed took place value →
    IsFirstBad depth signed (took ++ rest) place value
bad_longer depth signed took rest place value bad =
    let whole = whole_octets depth took place bad.whole in
    let same : (k : ℕ) → k < place + 1 → pixel_at depth signed (took ++ rest) k ≡ pixel_at depth signed took k =
    λ k lt. pixel_at-append_left depth signed took rest k (omega (arith, whole_before (pixel_size depth) k (place + 1) lt, whole)) in
    record {
      whole = whole_pixels-above depth (took ++ rest) place (omega (arith, whole, length-append took rest));
      value_is = bad.value_is ∙ sym (same place (omega arith));
      bad = bad.bad;
      earlier = record { each = λ k lt. subst (IsPixel depth signed) (sym (same k (omega (arith, lt)))) (bad.earlier.each k lt) };
    }

module _ (s : Setting) (octets : List ℕ) (whole : length octets ≡ row_length s) (old new : Outside) (if_known : old.rest ≡ Some octets) {T : Type 0}
    (before after : List ℤ) where
  -- all octets were taken
  taken_all : (done : T) → (read : RowRead s.depth s.signed s.width 0 old new before after (Ok done)) → read.took ≡ octets
  taken_all done read =
      let left = left_after old.rest new.rest read.took octets read.since.rest if_known in
      let long = read.answer.0 in
      let none : left.rest ≡ [] = nil_from_length left.rest (omega (arith, ap length left.are, length-append read.took left.rest, whole, long)) in
      sym (left.are ∙ ap (λ r. read.took ++ r) none ∙ append-nil read.took)

  pub reads_all : {A : Type 0} (done : T) (v : Vec ℤ A) → length after ≡ v.len → RowRead s.depth s.signed s.width 0 old new before after (Ok done) →
      FirstInRange s.depth s.signed octets s.width × ShowsRow s octets (with_items v after).items
  reads_all done v long read =
      let same = taken_all done read in
      let holds = row_holds s read.took v before after long read.answer.2 in (
        subst (λ o. FirstInRange s.depth s.signed o s.width) same read.answer.1,
        subst (λ o. ShowsRow s o (with_items v after).items) same (record { at = holds.at }),
      )

  pub reads_bad : (row column : ℕ) (value : ℤ) → RowRead {T = T} s.depth s.signed s.width 0 old new before after (Err (faults.BadPixel row column value)) →
      IsFirstBad s.depth s.signed octets column value
  reads_bad row column value read =
      let left = left_after old.rest new.rest read.took octets read.since.rest if_known in
      subst (λ o. IsFirstBad s.depth s.signed o column value) (sym left.are) (bad_longer s.depth s.signed read.took left.rest column value read.answer.2)
