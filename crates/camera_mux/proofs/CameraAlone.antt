-- The packets of a camera's APID, of all that is given, are those that its rows settle.
use Rattle.std.proofs.Common.{◌≡◌, inl, inr, ◌≤◌, ◌<◌, ◌+◌, ◌*◌, ℕ, zero, suc, ℤ, List, [], ◌∷◌, ◌++◌, length, take, refl, sym, ap, subst, ◌∙◌, arith}
use Rattle.std.proofs.Common.{length-append, Bool, true, ◌==◌, ◌&&◌, ◌||◌, not, nat_lt, None}
use Rattle.std.specs.List.{AllByRecursion, flat_map}
use Rattle.std.proofs.lemmas.Bool.{cases_lt, false≢true, ne_eqb}
use Rattle.std.proofs.lemmas.Bool.Decides.{nat_tests}
use Rattle.std.proofs.lemmas.List.{append-nil, take_all, take_more}
use Rattle.std.proofs.lemmas.List.Elements.{filter-append}
use Rattle.port_122.proofs.Stretches.{each_of_both}
use Rattle.base_122.specs.Ranges.{IsInRange}
use Rattle.base_122.specs.Setting.{sized}
use Rattle.base_122.specs.declared.setting.Setting.{Setting}
use Rattle.base_122.proofs.GeometryRanges.{in_range-sized}
use Rattle.packet_defs.specs.Packets.{joined}
use Rattle.packet_defs.specs.Streams.{IsPacket, left_over, whole_packets}
use Rattle.packet_defs.proofs.Joins.{joined-append}
use Rattle.packet_defs.proofs.Splits.{splits_whole, splits_left, joined_splits}
use Rattle.stream_defs.specs.Output.{image_blocks, reports_last}
use Rattle.stream_defs.specs.Settled.{last_block_row}
use Rattle.stream_defs.specs.SettledImages.{leading_packets, settled_in}
use Rattle.stream_defs.proofs.Outputs.{packets_of-none}
use Rattle.stream_defs.proofs.SettledLaws.{settled_first}
use Rattle.stream_defs.proofs.ImageLaws.{settled_rises}
use Rattle.stream_defs.proofs.HeightLaws.{images_settle}
use Rattle.strip_coder.specs.Plans.{tallest}
use Rattle.strip_coder.specs.Rasters.{row_length, image_of, settled_octets}
use Rattle.strip_coder.proofs.PlanLaws.{tall_height, known_tallest}
use Rattle.strip_coder.proofs.RowsGiven.{same_rows, settled_same, rows_whole}
use Rattle.camera_mux.specs.Picked.{is_picked, picked_of, picked}
use Rattle.camera_mux.specs.Records.{CameraRow, setting_at, record_at, count_of, raster_of, CanFollow, AreAccepted}
use Rattle.camera_mux.specs.MuxOut.{settled_by, mux_out}
use Rattle.camera_mux.specs.MuxProgress.{AreSettings}
use Rattle.camera_mux.specs.MuxLaws.{KeepsCamera}
use Rattle.camera_mux.proofs.RecordLaws.{count_own, raster_own, records_other, out_with}
use Rattle.camera_mux.proofs.LeadingPackets.{next_packets, prefix_more}
use Rattle.camera_mux.proofs.OwnPackets.{IsOwn, own_segments, are_whole, own_picked, others_left}

-- the packets that rows of a raster settle
abbrev settled_packets : Setting → (raster : List ℕ) (k : ℕ) → List (List ℕ)
settled_packets s raster k = leading_packets s (tallest s) (image_of s raster) (settled_in s (tallest s) k)

-- What is given for records is whole packets, of which those of a camera's APID are those that its rows settle.
pub record HasPackets (settings : List Setting) (records : List CameraRow) : Type 0 where
  pub packets : List (List ℕ)
  pub octets : mux_out settings records ≡ joined packets
  pub whole : AllByRecursion IsPacket packets
  pub rasters : (camera : ℕ) → camera < length settings → length (raster_of camera records) ≡ count_of camera records * row_length (setting_at settings camera)
  pub counts : (camera : ℕ) → camera < length settings → count_of camera records ≤ (setting_at settings camera).rows
  pub own : (camera : ℕ) → camera < length settings →
      picked_of (setting_at settings camera).apid None packets ≡ settled_packets (setting_at settings camera) (raster_of camera records)
      (count_of camera records)

-- ---- no record

pub no_octets : (settings : List Setting) → mux_out settings [] ≡ []
unfolding mux_out
no_octets settings = refl

module _ (s : Setting) (range : IsInRange s) (known : s.rows ≡ 0 → ⊥) where
  not_settled : (m : ℕ) (if_known : Bool) → (not if_known && (0 == s.rows) || nat_lt m 0) ≡ true → ⊥
  not_settled m if_known e = grind (arith, nat_tests, ne_eqb, nat_lt, false≢true)

  -- no rows settle no segment
  none_settled : settled_in s (tallest s) 0 ≡ 0
  none_settled = elim (cases_lt 0 (settled_in s (tallest s) 0)) [
    | inl some ↦
        let tall = known_tallest s known in
        let e = settled_first (reports_last s) (sized s (tallest s)) (in_range-sized s (tallest s) range (tall_height s range)) 0 0 some in
        absurd (not_settled (8 * last_block_row (sized s (tallest s)) 0 + 28) (reports_last s)
        (subst (λ n. (not (reports_last s) && (0 == n) || nat_lt (8 * last_block_row (sized s (tallest s)) 0 + 28) 0) ≡ true) tall e))
    | inr none ↦ omega (arith, none)
  ]

  no_packets : (raster : List ℕ) → settled_packets s raster 0 ≡ []
  no_packets raster = ap (leading_packets s (tallest s) (image_of s raster)) none_settled ∙ packets_of-none (reports_last s) (sized s (tallest s))
      (image_blocks (sized s (tallest s)) (image_of s raster))

none_given : (settings : List Setting) → AreSettings settings → HasPackets settings []
none_given settings cameras = record {
  packets = [];
  octets = no_octets settings;
  whole = tt;
  rasters = λ camera lt. omega arith;
  counts = λ camera lt. omega arith;
  own = λ camera lt. sym (no_packets (setting_at settings camera) (cameras.in_range camera lt) (cameras.known camera lt) []);
}

-- ---- a camera's next row

module _ (s : Setting) (range : IsInRange s) (known : s.rows ≡ 0 → ⊥) (k : ℕ) (less : k < s.rows) (raster row : List ℕ)
    (whole : length raster ≡ k * row_length s) where
  abbrev x : ℕ → ℕ → ℤ
  x = image_of s (raster ++ row)

  abbrev a : ℕ
  a = settled_in s (tallest s) k

  abbrev b : ℕ
  b = settled_in s (tallest s) (k + 1)

  -- the packets that it settles and those before don't
  abbrev new : List (List ℕ)
  new = next_packets s (tallest s) x a b

  before_le : k ≤ tallest s
  before_le = let tall = known_tallest s known in omega (arith, tall, less)

  after_le : k + 1 ≤ tallest s
  after_le = let tall = known_tallest s known in omega (arith, tall, less)

  pub grown : settled_packets s raster k ++ new ≡ settled_packets s (raster ++ row) (k + 1)
  grown =
      let height = tall_height s range in
      ap (λ ps. ps ++ new) (sym (images_settle s (tallest s) (tallest s) k range height height before_le before_le x (image_of s raster)
      (same_rows s k raster row whole)))
      ∙ sym (prefix_more s (tallest s) x a b (settled_rises (reports_last s) (sized s (tallest s)) k (k + 1) (omega arith) after_le))

  pub new_own : AllByRecursion (IsOwn s.apid) new
  new_own = grind (arith, nat_tests, own_segments)

  settled_as : (raster : List ℕ) (k : ℕ) → k ≤ tallest s → settled_octets s raster k ≡ joined (settled_packets s raster k)
  settled_as raster k le = settled_same s (tallest s) k raster (image_of s raster) range (tall_height s range) le le (record { at = λ i j hi hj. refl })

  pub octets_grown : settled_octets s raster k ++ joined new ≡ settled_octets s (raster ++ row) (k + 1)
  octets_grown = grind (arith, nat_tests, settled_as, before_le, joined-append, grown, after_le)

module _ (settings : List Setting) (cameras : AreSettings settings) (records : List CameraRow) (h : HasPackets settings records) (r : CameraRow)
    (can : CanFollow settings records r) where
  abbrev s : Setting
  s = setting_at settings r.camera

  abbrev k : ℕ
  k = count_of r.camera records

  abbrev raster : List ℕ
  raster = raster_of r.camera records

  abbrev now : List CameraRow
  now = records ++ r ∷ []

  counted : count_of r.camera now ≡ k + 1
  counted = count_own records r r.camera refl

  rastered : raster_of r.camera now ≡ raster ++ r.row
  rastered = raster_own records r r.camera refl

  abbrev more : List (List ℕ)
  more = new s (cameras.in_range r.camera can.known) (cameras.known r.camera can.known) k can.misses raster r.row (h.rasters r.camera can.known)

  more_own : AllByRecursion (IsOwn s.apid) more
  more_own = new_own s (cameras.in_range r.camera can.known) (cameras.known r.camera can.known) k can.misses raster r.row (h.rasters r.camera can.known)

  settles : settled_by settings r.camera records ++ joined more ≡ settled_by settings r.camera now
  settles = grind (arith, nat_tests, octets_grown, rastered, counted)

  own_now : picked_of s.apid None (h.packets ++ more) ≡ settled_packets s (raster_of r.camera now) (count_of r.camera now)
  own_now = grind (arith, nat_tests, filter-append, own_picked, more_own, grown, rastered, counted)

  different : (camera : ℕ) → camera < length settings → (r.camera ≡ camera → ⊥) → s.apid ≡ (setting_at settings camera).apid → ⊥
  different camera lt ne e = grind (arith, nat_tests, cases_lt)

  other_now : (camera : ℕ) → camera < length settings → (r.camera ≡ camera → ⊥) →
      picked_of (setting_at settings camera).apid None (h.packets ++ more) ≡ settled_packets (setting_at settings camera) (raster_of camera now)
      (count_of camera now)
  other_now camera lt ne =
      let t = setting_at settings camera in
      filter-append (is_picked t.apid None) h.packets more
      ∙ ap (λ ps. picked_of t.apid None h.packets ++ ps) (others_left t.apid s.apid more (different camera lt ne) more_own)
      ∙ append-nil (picked_of t.apid None h.packets) ∙ h.own camera lt
      ∙ ap (λ rs. settled_packets t (flat_map (λ (r : CameraRow). r.row) rs) (length rs)) (sym (records_other records r camera ne))

  rasters_now : (camera : ℕ) → camera < length settings → length (raster_of camera now) ≡ count_of camera now * row_length (setting_at settings camera)
  rasters_now camera lt = grind (arith, nat_tests, length, rastered, length-append, counted, records_other)

  counts_now : (camera : ℕ) → camera < length settings → count_of camera now ≤ (setting_at settings camera).rows
  counts_now camera lt = grind (arith, nat_tests, counted, length, records_other)

  more_given : HasPackets settings now
  more_given = record {
    packets = h.packets ++ more;
    octets = out_with records r settings (joined more) settles ∙ ap (λ zs. zs ++ joined more) h.octets ∙ sym (joined-append h.packets more);
    whole = each_of_both IsPacket h.packets more h.whole (are_whole s.apid more more_own);
    rasters = rasters_now;
    counts = counts_now;
    own = grind (arith, nat_tests, own_now, other_now);
  }

-- ---- all records

module _ (settings : List Setting) (records : List CameraRow) (cameras : AreSettings settings) (accepted : AreAccepted settings records) where
  first_given : (n : ℕ) → n ≤ length records → HasPackets settings (take n records)
  first_given zero le = none_given settings cameras
  first_given (suc n) le =
      let e : n + 1 ≡ suc n = omega arith in
      let lt : n < length records = omega (arith, le) in
      subst (λ m. HasPackets settings (take m records)) e
      (subst (HasPackets settings) (sym (take_more records n _ lt))
      (more_given settings cameras (take n records) (first_given n (omega (arith, le))) (record_at records n) (accepted.each n lt)))

  all_given : HasPackets settings records
  all_given = subst (HasPackets settings) (take_all (length records) records (omega arith)) (first_given (length records) (omega arith))

  -- all that is given is whole packets
  pub none_left : left_over (mux_out settings records) ≡ []
  none_left = ap left_over all_given.octets ∙ splits_left (joined_splits all_given.packets all_given.whole)

  pub keeps_camera : (camera : ℕ) → camera < length settings → KeepsCamera settings records camera
  keeps_camera camera lt =
      let t = setting_at settings camera in
      let h = all_given in
      let range = cameras.in_range camera lt in
      let known = cameras.known camera lt in
      let tall = known_tallest t known in
      let few = h.counts camera lt in
      let n = count_of camera records in
      let raster = raster_of camera records in
      let le : n ≤ tallest t = omega (arith, few, tall) in
      let packets : whole_packets (mux_out settings records) ≡ h.packets = ap whole_packets h.octets ∙ splits_whole (joined_splits h.packets h.whole) in
      let so_far : picked (mux_out settings records) t.apid None ≡ settled_by settings camera records = grind (arith, nat_tests, settled_same, tall_height) in
      grind (arith, nat_tests, rows_whole)
