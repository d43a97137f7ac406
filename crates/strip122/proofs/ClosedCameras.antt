-- The rasters of several cameras, whose packets are decoded one camera after another.
use Rattle.std.proofs.Common.{◌≡◌, ◌≢◌, ◌<◌, ◌≤◌, ◌+◌, ◌*◌, ◌∙◌, ℕ, zero, suc, List, [], ◌∷◌, ◌++◌, length, take, refl, sym, ap, subst, arith, inl, inr}
use Rattle.std.proofs.Common.{true, IsTrue, None, length-append}
use Rattle.std.specs.List.{flat_map}
use Rattle.std.proofs.lemmas.Bool.{cases_eq}
use Rattle.std.proofs.lemmas.List.{take_all, take_more}
use Rattle.plane_defs.specs.Codes.{is_book_sound}
use Rattle.port_122.specs.Outside.{Outside}
use Rattle.base_122.specs.Ranges.{IsInRange, IsWithin, rows_range}
use Rattle.base_122.specs.Setting.{IsHeight}
use Rattle.base_122.specs.declared.setting.Setting.{Setting}
use Rattle.raster_rows.specs.RowReads.{FirstInRange}
use Rattle.segment_code.specs.ShortTexts.{TextsAreShort}
use Rattle.strip_decoder.proofs.WholeImages.{geometry_reported}
use Rattle.stream_defs.specs.declared.fate.FateState.{FateState}
use Rattle.stream_defs.specs.Fates.{geometry_in, kept_in}
use Rattle.stream_defs.specs.KnownHeights.{KnownHeights}
use Rattle.stream_defs.specs.Output.{output}
use Rattle.strip_coder.specs.Answers.{TookRaster}
use Rattle.strip_coder.specs.Rasters.{image_of, row_length, AreInRange}
use Rattle.strip_coder.proofs.RowsTakenLaws.{all_whole, in_range-more}
use Rattle.strip_decoder.specs.Images.{IsImageFor}
use Rattle.strip_decoder.specs.RoundTrip.{RoundTrip}
use Rattle.camera_mux.specs.Picked.{picked}
use Rattle.camera_mux.specs.PickLaws.{PickingKeeps}
use Rattle.camera_mux.specs.Records.{CameraRow, setting_at, record_at, count_of, raster_of, CanFollow, AreAccepted, AreFull}
use Rattle.camera_mux.specs.MuxLaws.{KeepsCamera}
use Rattle.camera_mux.specs.MuxOut.{mux_out}
use Rattle.camera_mux.specs.MuxProgress.{AreSettings}
use Rattle.camera_mux.proofs.CameraAlone.{none_left}
use Rattle.camera_mux.proofs.RecordLaws.{count_own, raster_own, records_other}
use Rattle.command_words.specs.Commands.{AreCameras}
use Rattle.strip122.specs.Closed.{MuxClosed}
use Rattle.strip122.specs.Muxing.{MuxedWhole, Muxes, camera_settings}
use Rattle.strip122.specs.Outcomes.{AtStatus, mux_outcomes}
use Rattle.strip122.proofs.CameraWorks.{are_settings, setting_is, size_is, sound_cameras}
use Rattle.strip122.proofs.Muxed.{mux_law}
use Rattle.strip122.proofs.ClosedRasters.{Carries, is_returned, image_for}

-- ---- a camera's raster

height_of : (s : Setting) → IsInRange s → s.rows ≢ 0 → IsHeight s s.rows
height_of s range known = elim range.rows [
  | inl none ↦ absurd (known none)
  | inr within ↦ (within, inr refl)
]

module _ (settings : List Setting) (camera : ℕ) where
  abbrev s : Setting
  s = setting_at settings camera

  -- whole rows with pixels in range
  record HasRows (records : List CameraRow) : Type 0 where
    size : length (raster_of camera records) ≡ count_of camera records * row_length s
    in_range : AreInRange s (raster_of camera records) (count_of camera records * s.width)

  one_more : (records : List CameraRow) (r : CameraRow) → CanFollow settings records r → HasRows records → HasRows (records ++ r ∷ [])
  one_more records r can h = elim (cases_eq r.camera camera) [
    | inl own ↦
        let count = count_own records r camera own in
        let raster = raster_own records r camera own in
        let long : length r.row ≡ row_length s = can.whole ∙ ap (λ c. row_length (setting_at settings c)) own in
        let more = in_range-more s (count_of camera records) s.width (raster_of camera records) r.row h.size h.in_range
        (subst (λ c. FirstInRange (setting_at settings c).depth (setting_at settings c).signed r.row (setting_at settings c).width) own can.in_range) in
        let all : length (raster_of camera records) + length r.row ≡ (count_of camera records + 1) * row_length s =
        omega (arith, h.size, long, grown (count_of camera records) (row_length s)) in
        let next : count_of camera records * s.width + s.width ≡ (count_of camera records + 1) * s.width = omega arith in
        record {
          size = ap length raster ∙ length-append (raster_of camera records) r.row ∙ all ∙ ap (λ n. n * row_length s) (sym count);
          in_range = subst (λ n. AreInRange s (raster_of camera (records ++ r ∷ [])) (n * s.width)) (sym count)
              (subst (λ octets. AreInRange s octets ((count_of camera records + 1) * s.width)) (sym raster)
              (subst (AreInRange s (raster_of camera records ++ r.row)) next more));
        }
    | inr other ↦
        let same = records_other records r camera other in
        record {
          size = ap (λ (rs : List CameraRow). length (flat_map (λ (r : CameraRow). r.row) rs)) same ∙ h.size
              ∙ ap (λ (rs : List CameraRow). length rs * row_length s) (sym same);
          in_range = subst (λ (rs : List CameraRow). AreInRange s (flat_map (λ (r : CameraRow). r.row) rs) (length rs * s.width)) (sym same) h.in_range;
        }
  ]
    where
      grown : (count size : ℕ) → (count + 1) * size ≡ count * size + size
      grown count size = grind arith

  module _ (records : List CameraRow) (accepted : AreAccepted settings records) where
    has_rows : (n : ℕ) → n ≤ length records → HasRows (take n records)
    has_rows zero le = record { size = omega arith; in_range = record { each = λ k lt. absurd (omega (arith, lt)) } }
    has_rows (suc n) le =
        let e : n + 1 ≡ suc n = omega arith in
        let lt : n < length records = omega (arith, le) in
        subst (λ m. HasRows (take m records)) e
        (subst HasRows (sym (take_more records n _ lt)) (one_more (take n records) (record_at records n) (accepted.each n lt) (has_rows n (omega (arith, le)))))

    all_rows : HasRows records
    all_rows = subst HasRows (take_all (length records) records (omega arith)) (has_rows (length records) (omega arith))

    module _ (cameras : AreSettings settings) (lt : camera < length settings) (full : AreFull settings records) where
      abbrev raster : List ℕ
      raster = raster_of camera records

      took_raster : TookRaster s s.rows raster
      took_raster =
          let rows = full.each camera lt in
          let size : length raster ≡ s.rows * row_length s = all_rows.size ∙ ap (λ n. n * row_length s) rows in
          record {
            height = height_of s (cameras.in_range camera lt) (cameras.known camera lt);
            whole = size;
            in_range = all_whole s s.rows raster size (subst (λ n. AreInRange s raster (n * s.width)) rows all_rows.in_range);
          }

      -- a reader for the camera's APID keeps its packets of all that is given
      carried : PickingKeeps → TextsAreShort → KeepsCamera settings records camera → IsImageFor s s.rows (image_of s raster) →
          Carries s s.rows (image_of s raster) (mux_out settings records)
      carried law short keeps image =
          let stream = mux_out settings records in
          let alone : picked stream s.apid None ≡ output s s.rows (image_of s raster) = keeps.whole (full.each camera lt) in
          let all = law.all stream s.apid in
          record {
            left = none_left settings records cameras accepted;
            kept = sym all.kept ∙ ap (kept_in s.apid) alone;
            geometry = ap (λ (f : FateState). f.geometry) (sym all.state) ∙ ap (geometry_in s.apid) alone ∙ geometry_reported short s s.rows (image_of s raster)
                image;
          }

-- ---- all cameras

pub mux_closed : PickingKeeps → TextsAreShort → KnownHeights → RoundTrip → (settings : List Setting) → AreSettings settings →
    ((camera : ℕ) → camera < length settings → IsTrue (is_book_sound (setting_at settings camera).book)) →
    ((camera : ℕ) → camera < length settings → length (setting_at settings camera).weights.shifts ≡ 10) →
    (old new : Outside) → MuxedWhole settings old new → MuxClosed settings old new
mux_closed law short heights trip settings cameras sound ten old new w = record {
  muxed = w;
  closed = λ camera lt all octets.
      let s = setting_at settings camera in
      let raster = raster_of camera w.records in
      let took = took_raster settings camera w.records w.accepted cameras lt w.full in
      let image = image_for s s.rows raster (cameras.in_range camera lt) (sound camera lt) (ten camera lt) took in
      is_returned heights trip s s.rows raster (mux_out settings w.records) image (carried settings camera w.records w.accepted cameras lt w.full law short
      (w.keeps camera lt) image) took all octets;
}

-- cameras of one setting, whose APIDs follow one another
pub cameras_closed : PickingKeeps → TextsAreShort → KnownHeights → RoundTrip → (s : Setting) (cameras : ℕ) → IsInRange s → IsWithin rows_range s.rows →
    AreCameras s cameras →
    is_book_sound s.book ≡ true → length s.weights.shifts ≡ 10 → (old new : Outside) (status : ℕ) → Muxes (camera_settings s cameras) old new status →
    status ≡ 0 →
    MuxClosed (camera_settings s cameras) old new
cameras_closed law short heights trip s cameras range height are sound ten old new status run done =
    let settings = camera_settings s cameras in
    mux_closed law short heights trip settings (are_settings s cameras range height are) (sound_cameras s cameras sound)
    (λ camera lt. ap (λ (t : Setting). length t.weights.shifts) (setting_is s cameras camera (omega (arith, lt, size_is s cameras))) ∙ ten) old new
    (subst (AtStatus (mux_outcomes settings) old new) done ((mux_law settings).ends old new status run))
