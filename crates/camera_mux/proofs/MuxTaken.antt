-- A record more is taken.
use Rattle.std.proofs.lemmas.Bool.Decides.{nat_tests}
use Rattle.std.proofs.Common.{◌≡◌, ◌≢◌, inl, inr, ◌≤◌, ◌<◌, ◌+◌, ◌-◌, ◌*◌, ◌^◌, ℕ, ℤ, List, [], ◌∷◌, ◌++◌, length, set, refl, sym, ap, ◌∙◌, subst, arith}
use Rattle.std.proofs.Common.{length-append, flat_map, cond, ◌==◌, min, sum, slice_index, slice_index_or, Some, if◌then◌else◌, length-set, get_or-set_same}
use Rattle.std.proofs.Common.{get_or-set_other, mul-le-mul}
use Rattle.std.proofs.lemmas.Bool.{cases_eq, eq-eqb, ne_eqb}
use Rattle.std.proofs.lemmas.List.Sums.{sum_by-set}
use Rattle.port_122.specs.Outside.{Outside, Exchange}
use Rattle.base_122.specs.Ranges.{IsInRange}
use Rattle.base_122.specs.declared.setting.Setting.{Setting}
use Rattle.raster_rows.proofs.PixelPlaces.{size_most}
use Rattle.strip_coder.specs.declared.work.Work.{Work}
use Rattle.strip_coder.specs.Plans.{plan_of, tallest}
use Rattle.strip_coder.specs.Rasters.{row_length, image_of}
use Rattle.strip_coder.specs.Works.{IsMadeFor, HasTaken}
use Rattle.camera_mux.specs.declared.mux.MuxDone.{MuxDone}
use Rattle.camera_mux.specs.declared.muxing.Progress.{Progress}
use Rattle.camera_mux.specs.Records.{CameraRow, setting_at, octets_of, count_of, raster_of}
use Rattle.camera_mux.specs.MuxOut.{settled_by, mux_out, of_whole, sum_of, packets_in, octets_in}
use Rattle.camera_mux.specs.RowSteps.{GivesRow}
use Rattle.camera_mux.specs.MuxProgress.{AreSettings, AsksMux, IsReady, HasMuxed, SawOctet, with_record}
use Rattle.camera_mux.proofs.RecordLaws.{size_more, octets_more, count_own, raster_own, records_other, out_with, sum_more, accepted_more}
use Rattle.camera_mux.proofs.MuxRuns.{whole_since, can_follow}

-- a row has at most 2 ^ 21 octets
pub row_most : (s : Setting) → IsInRange s → row_length s ≤ 2 ^ 21
row_most s range = grind (arith, nat_tests, mul-le-mul, size_most)

-- what is done at a row is what its camera's records have of the image
done_whole : (measure : Setting → (ℕ → ℕ → ℤ) → ℕ) (s : Setting) (x : ℕ → ℕ → ℤ) (rows done : ℕ) → (rows ≡ s.rows → done ≡ measure s x) →
    (rows ≢ s.rows → done ≡ 0) →
    done ≡ (if rows == s.rows then measure s x else 0)
done_whole measure s x rows done last before = grind (arith, nat_tests, cond, eq-eqb, ne_eqb)

module _ {settings : List Setting} {works : List Work} {start now m q : Outside} {v : Progress} (cameras : AreSettings settings)
    (same : length works ≡ length settings) (arrived : HasMuxed settings works start now v)
    (camera : ℕ) (known : camera < length settings) (some : 0 < slice_index v.left camera) (octet : SawOctet now m (Some camera))
    (new : Work) (done : MuxDone) (made : IsMadeFor (setting_at settings camera) new)
    (x : GivesRow (setting_at settings camera) (count_of camera arrived.records) (raster_of camera arrived.records) m q new done) where
  abbrev r : CameraRow
  r = record { camera = camera; row = x.got }

  abbrev now_records : List CameraRow
  now_records = arrived.records ++ r ∷ []

  place_in : camera < length v.left
  place_in = let few = cameras.few in let size = arrived.size in omega (arith, known, few, size)

  counted : count_of camera now_records ≡ count_of camera arrived.records + 1
  counted = count_own arrived.records r camera refl

  rastered : raster_of camera now_records ≡ raster_of camera arrived.records ++ x.got
  rastered = raster_own arrived.records r camera refl

  settles : settled_by settings camera arrived.records ++ x.gave ≡ settled_by settings camera now_records
  settles = grind (arith, nat_tests, rastered, counted)

  given : Exchange start q (octets_of now_records) (mux_out settings now_records) [] (AsksMux settings now_records (octets_of now_records))
  given = subst (λ g. Exchange start q (octets_of now_records) g [] (AsksMux settings now_records (octets_of now_records)))
      (sym (out_with arrived.records r settings x.gave settles))
      (whole_since arrived camera known some octet x.got x.gave x.octets x.out)

  left_now : (c : ℕ) → c < length settings → slice_index (set v.left camera (slice_index v.left camera - 1)) c + count_of c now_records
      ≡ (setting_at settings c).rows
  left_now c lt = grind (arith, nat_tests, slice_index, set, get_or-set_same, place_in, counted, get_or-set_other, length, records_other)

  others_now : (c : ℕ) → length settings ≤ c → slice_index (set v.left camera (slice_index v.left camera - 1)) c ≡ 0
  others_now c far = get_or-set_other v.left camera c (slice_index v.left camera - 1) 0 (λ e. omega (arith, e, far, known)) ∙ arrived.others c far

  ready_now : (c : ℕ) (d : Work) → c < length settings → IsReady (setting_at settings c) (count_of c now_records) (raster_of c now_records)
      (slice_index_or (set works camera new) c d)
  ready_now c d lt = elim (cases_eq camera c) [
    | inl e ↦ grind (arith, nat_tests, set, get_or-set_same, counted, rastered)
    | inr ne ↦ grind (arith, nat_tests, set, get_or-set_other, records_other, length, flat_map)
  ]

  rasters_now : (c : ℕ) → c < length settings → length (raster_of c now_records) ≡ count_of c now_records * row_length (setting_at settings c)
  rasters_now c lt = elim (cases_eq camera c) [
    | inl e ↦
        let before = arrived.rasters camera known in
        let whole = x.octets.whole in
        let size : length (raster_of camera now_records) ≡ length (raster_of camera arrived.records) + length x.got =
        ap length rastered ∙ length-append (raster_of camera arrived.records) x.got in
        let one : (count_of camera arrived.records + 1) * row_length (setting_at settings camera) ≡ count_of camera arrived.records * row_length
        (setting_at settings camera) + row_length (setting_at settings camera) = grind arith in
        subst (λ c. length (raster_of c now_records) ≡ count_of c now_records * row_length (setting_at settings c)) e
        (size ∙ (let t : length (raster_of camera arrived.records) + length x.got ≡ (count_of camera arrived.records + 1) * row_length
        (setting_at settings camera) = omega (arith, before, whole, one) in t)
        ∙ ap (λ n. n * row_length (setting_at settings camera)) (sym counted))
    | inr ne ↦ grind (arith, nat_tests, records_other, length, flat_map)
  ]

  whole_now : (measure : Setting → (ℕ → ℕ → ℤ) → ℕ) (n : ℕ) →
      (count_of camera arrived.records + 1 ≡ (setting_at settings camera).rows →
      n ≡ measure (setting_at settings camera) (image_of (setting_at settings camera) (raster_of camera arrived.records ++ x.got))) →
      (count_of camera arrived.records + 1 ≢ (setting_at settings camera).rows → n ≡ 0) → n ≡ of_whole measure settings camera now_records
  whole_now measure n last before = grind (arith, nat_tests, done_whole, cond, counted, rastered)

  packets_now : min (v.done.packets + done.packets) (2 ^ 64 - 1) ≡ min (sum_of packets_in settings now_records) (2 ^ 64 - 1)
  packets_now =
      let here = whole_now packets_in done.packets (λ e. (x.done_is.last e).0) (λ ne. (x.done_is.before ne).0) in
      grind (arith, nat_tests, sum_more)

  octets_now : min (v.done.octets + done.octets) (2 ^ 64 - 1) ≡ min (sum_of octets_in settings now_records) (2 ^ 64 - 1)
  octets_now =
      let here = whole_now octets_in done.octets (λ e. (x.done_is.last e).1) (λ ne. (x.done_is.before ne).1) in
      grind (arith, nat_tests, sum_more)

  sum_now : sum (set v.left camera (slice_index v.left camera - 1)) + 1 ≡ sum v.left
  sum_now =
      let e : sum (set v.left camera (slice_index v.left camera - 1)) + slice_index v.left camera ≡ sum v.left + (slice_index v.left camera - 1) =
      sum_by-set (λ (n : ℕ). n) v.left camera (slice_index v.left camera - 1) 0 place_in in
      omega (arith, e, some)

  octets_size : length (octets_of now_records) ≡ length (octets_of arrived.records) + (1 + row_length (setting_at settings camera))
  octets_size = grind (arith, nat_tests, length, octets_more, length-append)

  pub record_taken : HasMuxed settings (set works camera new) start q (with_record v camera (row_length (setting_at settings camera)) done)
  record_taken = grind (
    arith,
    nat_tests,
    accepted_more,
    can_follow,
    given,
    left_now,
    others_now,
    ready_now,
    rasters_now,
    length-set,
    slice_index,
    size_more,
    octets_size,
    packets_now,
    octets_now,
    sum_now,
    row_most,
  )

  pub less_left : sum (with_record v camera (row_length (setting_at settings camera)) done).left < sum v.left
  less_left = omega (arith, sum_now)

-- ---- works

pub made_set : (settings : List Setting) (works : List Work) (camera : ℕ) (new : Work) → length works ≡ length settings → camera < length settings →
    ((c : ℕ) (d : Work) → c < length settings → IsMadeFor (setting_at settings c) (slice_index_or works c d)) → IsMadeFor (setting_at settings camera) new →
    (c : ℕ) (d : Work) → c < length settings → IsMadeFor (setting_at settings c) (slice_index_or (set works camera new) c d)
made_set settings works camera new same known before made c d lt = grind (arith, nat_tests, set, get_or-set_same, get_or-set_other)

module _ {settings : List Setting} {works : List Work} {start now : Outside} {v : Progress} (arrived : HasMuxed settings works start now v) (camera : ℕ)
    (known : camera < length settings) where
  -- the rows of a camera that were taken
  pub rows_taken : (setting_at settings camera).rows - slice_index v.left camera ≡ count_of camera arrived.records
  rows_taken = let left = arrived.left camera known in omega (arith, left)

  pub work_taken : (d : Work) → 0 < slice_index v.left camera → 0 < (setting_at settings camera).rows - slice_index v.left camera →
      HasTaken (plan_of (setting_at settings camera) (tallest (setting_at settings camera))) ((setting_at settings camera).rows - slice_index v.left camera)
      (slice_index_or works camera d)
  work_taken d some rows = grind (arith, nat_tests, rows_taken)
