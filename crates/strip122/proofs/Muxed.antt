-- The effect of a run of `mux` after its note, and what follows for each status.
use Rattle.std.proofs.Common.{◌≡◌, ◌<◌, ◌≤◌, ◌*◌, ℕ, ℤ, suc, Bool, List, [], ◌∷◌, ◌++◌, length, take, refl, sym, ◌∙◌, ap, subst, arith, append_assoc}
use Rattle.std.proofs.Common.{length-append, inl, inr, Result, Ok, Err, Some, append-nil}
use Rattle.strip122.proofs.Reports.{mux_fault_status, mux_fault_line, mux_status, mux_line}
use Rattle.strip122.proofs.BookRuns.{same_parts}
use Rattle.port_122.specs.Outside.{Outside, Exchange, NoRead}
use Rattle.port_122.proofs.Stretches.{since_note, at_end_later}
use Rattle.port_122.proofs.IfKnown.{end_known}
use Rattle.base_122.specs.declared.setting.Setting.{Setting}
use Rattle.raster_rows.specs.Pixels.{pixel_size, whole_pixels}
use Rattle.raster_rows.specs.RowReads.{FirstInRange, IsFirstBad}
use Rattle.raster_rows.proofs.PixelPlaces.{size_some, whole_pixels-is}
use Rattle.strip_coder.specs.Rasters.{row_length}
use Rattle.camera_mux.specs.declared.mux.MuxDone.{MuxDone}
use Rattle.camera_mux.specs.declared.mux.MuxFault.{MuxFault}
use Rattle.camera_mux.specs.declared.mux.MuxFault.TheVariants.{ReadFault, WriteFault, Short, Long, BadCamera, BadPixel}
use Rattle.camera_mux.specs.Records.{CameraRow, setting_at, record_at, octets_of, CanFollow, AreAccepted, AreFull, IsAwaited, IsPart}
use Rattle.camera_mux.specs.MuxProgress.{AreSettings, AsksMux}
use Rattle.camera_mux.specs.MuxAnswers.{Answers, HasBadPixel, Muxes as MuxesOver}
use Rattle.camera_mux.specs.MuxLaws.{CamerasAreKept}
use Rattle.strip122.specs.Notes.{IsNoted, Notes}
use Rattle.strip122.specs.Muxing.{Muxes, MuxedWhole, AreRecords, muxes}
use Rattle.strip122.specs.Outcomes.{AtStatus, MuxRefuses, mux_outcomes}
use Rattle.strip122.proofs.NoteLines.{noted_since, nothing_noted}
use Rattle.strip122.proofs.Behaviours.{Law}
use Rattle.strip122.proofs.Inputs.{not_in_range}
use Rattle.strip122.proofs.ReadOut.{took_prefix}

-- ---- after the note

-- a cause is also valid after a note
causes_later : (settings : List Setting) (a b c : Outside) (records : List CameraRow) (rest gave wrote : List ℕ) (r : Result MuxDone MuxFault) →
    Exchange b c [] [] wrote NoRead →
    Answers settings a b records rest gave r → Answers settings a c records rest gave r
causes_later settings a b c records rest gave wrote (Ok done) n k = (k.0, k.1, at_end_later n k.2, k.3, k.4, k.5)
causes_later settings a b c records rest gave wrote (Err ReadFault) n k = (omega (arith, k.0, n.faults.reads), k.1, k.2)
causes_later settings a b c records rest gave wrote (Err WriteFault) n k = (omega (arith, k.0, n.faults.writes), k.1, k.2)
causes_later settings a b c records rest gave wrote (Err (Short octets)) n k = (k.0, k.1, at_end_later n k.2, k.3, k.4)
causes_later settings a b c records rest gave wrote (Err Long) n k = k
causes_later settings a b c records rest gave wrote (Err (BadCamera place camera)) n k = k
causes_later settings a b c records rest gave wrote (Err (BadPixel camera row column value)) n k = k

module _ (settings : List Setting) (kept : CamerasAreKept) (are : AreSettings settings) (a b : Outside) where
  pub muxed : (done : MuxDone) → MuxesOver settings a b (Ok done) → Muxes settings a b 0
  muxed done run = inr record {
    answer = Ok done;
    records = run.records;
    rest = run.rest;
    gave = run.gave;
    wrote = [];
    accepted = run.accepted;
    since = run.since;
    cause = run.answer;
    keeps = kept.each settings run.records are run.accepted;
    status_is = refl;
    noted = inl refl;
  }

  pub mux_failed : (c : Outside) (fault : MuxFault) (status : ℕ) → MuxesOver settings a b (Err fault) → Notes b c (mux_fault_line fault) →
      status ≡ mux_fault_status fault → Muxes settings a c status
  mux_failed c fault status run n is = inr record {
    answer = Err fault;
    records = run.records;
    rest = run.rest;
    gave = run.gave;
    wrote = n.0;
    accepted = run.accepted;
    since = since_note run.since n.1;
    cause = causes_later settings a b c run.records run.rest run.gave n.0 (Err fault) n.1 run.answer;
    keeps = kept.each settings run.records are run.accepted;
    status_is = is;
    noted = noted_since a b c n.0 _ run.since.faults.notes n.2;
  }

-- no fault has status 0
pub mux_fault_fails : (fault : MuxFault) → mux_fault_status fault ≡ 0 → ⊥
mux_fault_fails ReadFault zero = omega (arith, zero)
mux_fault_fails WriteFault zero = omega (arith, zero)
mux_fault_fails (Short octets) zero = omega (arith, zero)
mux_fault_fails Long zero = omega (arith, zero)
mux_fault_fails (BadCamera place camera) zero = omega (arith, zero)
mux_fault_fails (BadPixel camera row column value) zero = omega (arith, zero)

-- ---- records of the same octets

shorter_prefix : (xs ys us vs : List ℕ) → length ys ≤ length xs → xs ++ us ≡ ys ++ vs → (ws : List ℕ) × (xs ≡ ys ++ ws)
shorter_prefix xs [] us vs size e = (xs, refl)
shorter_prefix [] (y ∷ ys) us vs size e = absurd (omega (arith, size))
shorter_prefix (x ∷ xs) (y ∷ ys) us vs size e =
    let first : x ≡ y = cc in
    let more : xs ++ us ≡ ys ++ vs = cc in
    let rest = shorter_prefix xs ys us vs (omega (arith, size)) more in
    let same = rest.1 in
    (rest.0, cc)

-- each of these records can follow those before it
record FollowOn (settings : List Setting) (before records : List CameraRow) : Type 0 where
  each : (i : ℕ) → i < length records → CanFollow settings (before ++ take i records) (record_at records i)

first_follows : (settings : List Setting) (before : List CameraRow) (r : CameraRow) (rs : List CameraRow) → FollowOn settings before (r ∷ rs) →
    CanFollow settings before r
first_follows settings before r rs all = subst (λ rows. CanFollow settings rows r) (append-nil before) (all.each 0 (omega arith))

rest_follows : (settings : List Setting) (before : List CameraRow) (r : CameraRow) (rs : List CameraRow) → FollowOn settings before (r ∷ rs) →
    FollowOn settings (before ++ r ∷ []) rs
rest_follows settings before r rs all = record {
  each = λ i lt. subst (λ rows. CanFollow settings rows (record_at rs i)) (sym (append_assoc before (r ∷ []) (take i rs)))
      (all.each (suc i) (omega (arith, lt)));
}

accepted_follow : (settings : List Setting) (records : List CameraRow) → AreAccepted settings records → FollowOn settings [] records
accepted_follow settings records all = record { each = all.each }

-- records that go on from others, with these octets
record Continues (settings : List Setting) (before records prefix : List CameraRow) (octets : List ℕ) : Type 0 where
  next : List CameraRow
  records_are : records ≡ prefix ++ next
  octets_are : octets_of next ≡ octets
  follow : FollowOn settings (before ++ prefix) next

-- Of two lists of records that can follow the same ones, one is a prefix of the other if its octets are.
goes_on : (settings : List Setting) (before prefix records : List CameraRow) (octets : List ℕ) → FollowOn settings before prefix →
    FollowOn settings before records →
    octets_of records ≡ octets_of prefix ++ octets → Continues settings before records prefix octets
goes_on settings before [] records octets one other e = record {
  next = records;
  records_are = refl;
  octets_are = e;
  follow = subst (λ rows. FollowOn settings rows records) (sym (append-nil before)) other;
}
goes_on settings before (a ∷ prefix) [] octets one other e = absurd (omega (arith, ap length e))
goes_on settings before (a ∷ prefix) (r ∷ records) octets one other e =
    let own = first_follows settings before a prefix one in
    let their = first_follows settings before r records other in
    let camera : r.camera ≡ a.camera = cc in
    let rows : r.row ++ octets_of records ≡ (a.row ++ octets_of prefix) ++ octets = cc in
    let size : length r.row ≡ length a.row = their.whole ∙ ap (λ c. row_length (setting_at settings c)) camera ∙ sym own.whole in
    let both = same_parts r.row a.row (octets_of records) (octets_of prefix ++ octets) size (rows ∙ append_assoc a.row (octets_of prefix) octets) in
    let make : ℕ → List ℕ → CameraRow = λ c row. record { camera = c; row = row } in
    let same : r ≡ a = ap (λ c. make c r.row) camera ∙ ap (make a.camera) both.0 in
    let more = goes_on settings (before ++ a ∷ []) prefix records octets (rest_follows settings before a prefix one)
    (subst (λ x. FollowOn settings (before ++ x ∷ []) records) same (rest_follows settings before r records other)) both.1 in
    record {
      next = more.next;
      records_are = ap (λ x. x ∷ records) same ∙ ap (λ xs. a ∷ xs) more.records_are;
      octets_are = more.octets_are;
      follow = subst (λ rows. FollowOn settings rows more.next) (append_assoc before (a ∷ []) prefix) more.follow;
    }

-- ---- which records aren't refused

-- a pixel out of range in the octets that begin a row is one of the row
no_bad_pixel : (depth : ℕ) (signed : Bool) (width : ℕ) (row got ws : List ℕ) (column : ℕ) (value : ℤ) → row ≡ got ++ ws →
    length row ≡ width * pixel_size depth →
    FirstInRange depth signed row width → IsFirstBad depth signed got column value → ⊥
no_bad_pixel depth signed width row got ws column value is size all bad =
    let whole : whole_pixels depth row ≡ width = whole_pixels-is depth row width 0 (omega (arith, size)) (size_some depth) in
    not_in_range depth signed got ws column value bad
    (subst (λ xs. FirstInRange depth signed xs (whole_pixels depth xs)) is (subst (FirstInRange depth signed row) (sym whole) all))

module _ (settings : List Setting) (input : List ℕ) (all : AreRecords settings input) (records : List CameraRow) (accepted : AreAccepted settings records)
    (rest more : List ℕ)
    (parts : input ≡ (octets_of records ++ rest) ++ more) where
  after : Continues settings [] all.records records (rest ++ more)
  after = goes_on settings [] records all.records (rest ++ more) (accepted_follow settings records accepted) (accepted_follow settings all.records all.accepted)
      (sym all.octets_are ∙ parts ∙ append_assoc (octets_of records) rest more)

  -- the rest of a part of a record is that of a whole one
  not_short : more ≡ [] → (AreFull settings records → ⊥) → IsPart settings records rest → ⊥
  not_short none lacks part = by after.next after.records_are (after.octets_are ∙ ap (λ xs. rest ++ xs) none ∙ append-nil rest) after.follow
    where
      by : (next : List CameraRow) → all.records ≡ records ++ next → octets_of next ≡ rest → FollowOn settings records next → ⊥
      by [] is e follow = lacks (subst (AreFull settings) (is ∙ append-nil records) all.full)
      by (r ∷ rs) is e follow =
          let own = first_follows settings records r rs follow in
          let p = subst (IsPart settings records) (sym e) part in
          omega (arith, p.1, own.whole, length-append r.row (octets_of rs))

  -- no record follows if each camera has all its rows
  not_long : AreFull settings records → length rest ≡ 1 → ⊥
  not_long full one = by after.next after.octets_are after.follow
    where
      by : (next : List CameraRow) → octets_of next ≡ rest ++ more → FollowOn settings records next → ⊥
      by [] e follow = omega (arith, ap length e, length-append rest more, one)
      by (r ∷ rs) e follow = let own = first_follows settings records r rs follow in omega (arith, own.misses, full.each r.camera own.known)

  not_bad_camera : (camera : ℕ) → rest ≡ camera ∷ [] → (IsAwaited settings records camera → ⊥) → ⊥
  not_bad_camera camera is refused = by after.next (after.octets_are ∙ ap (λ xs. xs ++ more) is) after.follow
    where
      by : (next : List CameraRow) → octets_of next ≡ camera ∷ more → FollowOn settings records next → ⊥
      by [] e follow = omega (arith, ap length e)
      by (r ∷ rs) e follow =
          let own = first_follows settings records r rs follow in
          let same : r.camera ≡ camera = cc in
          refused (subst (IsAwaited settings records) same (record { known = own.known; misses = own.misses }))

  not_bad_pixel : (camera row column : ℕ) (value : ℤ) → HasBadPixel settings records rest camera row column value → ⊥
  not_bad_pixel camera row column value b = by after.next (after.octets_are ∙ ap (λ xs. xs ++ more) b.rest_is) after.follow
    where
      by : (next : List CameraRow) → octets_of next ≡ camera ∷ (b.got ++ more) → FollowOn settings records next → ⊥
      by [] e follow = omega (arith, ap length e)
      by (r ∷ rs) e follow =
          let own = first_follows settings records r rs follow in
          let same : r.camera ≡ camera = cc in
          let octets : r.row ++ octets_of rs ≡ b.got ++ more = cc in
          let size : length r.row ≡ row_length (setting_at settings camera) = own.whole ∙ ap (λ c. row_length (setting_at settings c)) same in
          let parts = shorter_prefix r.row b.got (octets_of rs) more (omega (arith, size, b.within)) octets in
          let s = setting_at settings camera in
          no_bad_pixel s.depth s.signed s.width r.row b.got parts.0 column value parts.1 size
          (subst (λ c. FirstInRange (setting_at settings c).depth (setting_at settings c).signed r.row (setting_at settings c).width) same own.in_range) b.bad

right_records : (settings : List Setting) (old new : Outside) (input : List ℕ) → old.rest ≡ Some input → AreRecords settings input →
    MuxRefuses settings old new → ⊥
right_records settings old new input if_known has r = by r.fault r.cause r.input
  where
    took : List ℕ
    took = octets_of r.records ++ r.rest

    prefix : (rest : List ℕ) × (input ≡ took ++ rest)
    prefix = took_prefix input took old.rest new.rest if_known r.since.rest

    by : (fault : MuxFault) → Answers settings old new r.records r.rest r.gave (Err fault) → mux_fault_status fault ≡ 3 → ⊥
    by (Short octets) k three =
        let all : took ≡ input = end_known input r.since if_known k.2 in
        not_short settings input has r.records r.accepted r.rest [] (sym all ∙ sym (append-nil took)) refl k.1 k.3
    by Long k three = not_long settings input has r.records r.accepted r.rest prefix.0 prefix.1 k.0 k.1
    by (BadCamera place camera) k three = not_bad_camera settings input has r.records r.accepted r.rest prefix.0 prefix.1 camera k.2 k.3
    by (BadPixel camera row column value) k three = not_bad_pixel settings input has r.records r.accepted r.rest prefix.0 prefix.1 camera row column
        value k.0
    by ReadFault k three = omega (arith, three)
    by WriteFault k three = omega (arith, three)

-- ---- each status

mux_ends : (settings : List Setting) (old new : Outside) (status : ℕ) → Muxes settings old new status → AtStatus (mux_outcomes settings) old new status
mux_ends settings old new status (inl none) = subst (AtStatus (mux_outcomes settings) old new) (sym none.status_is) (none.wrote, none.since)
mux_ends settings old new status (inr run) = subst (AtStatus (mux_outcomes settings) old new) (sym run.status_is) (by run.answer run.noted run.cause)
  where
    refuses : (fault : MuxFault) → mux_fault_status fault ≡ 3 → IsNoted old new run.wrote (mux_fault_line fault) →
        Answers settings old new run.records run.rest run.gave (Err fault) → MuxRefuses settings old new
    refuses fault three noted k = record {
      fault = fault;
      records = run.records;
      rest = run.rest;
      gave = run.gave;
      wrote = run.wrote;
      accepted = run.accepted;
      since = run.since;
      input = three;
      cause = k;
      noted = noted;
    }

    whole : (done : MuxDone) → IsNoted old new run.wrote [] → Answers settings old new run.records run.rest run.gave (Ok done) → MuxedWhole settings old new
    whole done noted k =
        let silent = nothing_noted old new run.wrote [] refl noted in
        let quiet : Exchange old new (octets_of run.records ++ run.rest) run.gave []
        (AsksMux settings run.records (octets_of run.records ++ run.rest)) =
        subst (λ w. Exchange old new (octets_of run.records ++ run.rest) run.gave w (AsksMux settings run.records (octets_of run.records ++ run.rest)))
        silent run.since in
        let all : octets_of run.records ++ run.rest ≡ octets_of run.records = ap (λ xs. octets_of run.records ++ xs) k.1 ∙ append-nil (octets_of run.records) in
        record {
          records = run.records;
          accepted = run.accepted;
          full = k.0;
          since = subst (λ g. Exchange old new (octets_of run.records) g [] (AsksMux settings run.records (octets_of run.records))) k.3
              (subst (λ t. Exchange old new t run.gave [] (AsksMux settings run.records t)) all quiet);
          keeps = run.keeps;
          ended = k.2;
        }

    by : (r : Result MuxDone MuxFault) → IsNoted old new run.wrote (mux_line r) → Answers settings old new run.records run.rest run.gave r →
        AtStatus (mux_outcomes settings) old new (mux_status r)
    by (Ok done) noted k = whole done noted k
    by (Err (Short octets)) noted k = refuses (Short octets) refl noted k
    by (Err Long) noted k = refuses Long refl noted k
    by (Err (BadCamera place camera)) noted k = refuses (BadCamera place camera) refl noted k
    by (Err (BadPixel camera row column value)) noted k = refuses (BadPixel camera row column value) refl noted k
    by (Err ReadFault) noted k = k.0
    by (Err WriteFault) noted k = k.0

pub mux_law : (settings : List Setting) → Law (muxes settings) (mux_outcomes settings)
mux_law settings = record {
  ends = mux_ends settings;
  right = right_records settings;
  whole = λ old new input if_known w.
      record { records = w.records; accepted = w.accepted; full = w.full; octets_are = sym (end_known input w.since if_known w.ended) };
  part = λ old new input if_known never. absurd never;
}
