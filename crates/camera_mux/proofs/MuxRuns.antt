-- The steps of a mux.
use Rattle.std.proofs.lemmas.Bool.Decides.{nat_tests}
use Rattle.std.proofs.Common.{◌≡◌, ◌⊎◌, ◌≤◌, ◌<◌, ◌+◌, ℕ, List, [], ◌∷◌, ◌++◌, length, take, refl, sym, ap, ◌∙◌, subst, arith, append_assoc}
use Rattle.std.proofs.Common.{length-append, slice_index, EachIndex, None, Some, Err, append-nil, take_all}
use Rattle.std.proofs.lemmas.List.{take-append-le, length-take-le}
use Rattle.std.proofs.Math.Seq.{take-append-add, take-append_seam}
use Rattle.std.proofs.lemmas.Bool.{cases_lt}
use Rattle.port_122.specs.Outside.{Outside, Exchange, AtStart, NoRead, ReadFailed}
use Rattle.port_122.proofs.Stretches.{since_out, since_weaker, rose_since}
use Rattle.port_122.proofs.ReadCalls.{since_in, since_asked}
use Rattle.base_122.specs.declared.setting.Setting.{Setting}
use Rattle.raster_rows.specs.RowReads.{InRow}
use Rattle.strip_coder.specs.declared.work.Work.{Work}
use Rattle.strip_coder.specs.Rasters.{settled_octets}
use Rattle.camera_mux.specs.declared.camera_rows.Place.{Place}
use Rattle.camera_mux.specs.declared.mux.MuxFault.{MuxFault}
use Rattle.camera_mux.specs.declared.mux.MuxFault.TheVariants.{ReadFault, WriteFault, Short, Long, BadCamera, BadPixel}
use Rattle.camera_mux.specs.declared.muxing.Progress.{Progress}
use Rattle.camera_mux.specs.Records.{CameraRow, setting_at, octets_of, count_of, raster_of, CanFollow, AreFull, IsAwaited, IsPart}
use Rattle.camera_mux.specs.MuxOut.{mux_out}
use Rattle.camera_mux.specs.RowSteps.{TakesOctets, FailsAtRow}
use Rattle.camera_mux.specs.MuxProgress.{AsksMux, HasMuxed, SawOctet}
use Rattle.camera_mux.specs.MuxAnswers.{Muxes}
use Rattle.camera_mux.proofs.RecordLaws.{take_before, size_more, octets_more, count_own, raster_own, out_cut, accepted_more}

-- ---- read calls

-- after these records and a part of one that can follow
asks_at : (settings : List Setting) (records : List CameraRow) (took part : List ℕ) (i : ℕ) → take i took ≡ octets_of records ++ part →
    IsPart settings records part → AsksMux settings records took i (length (mux_out settings records))
asks_at settings records took part i is follows =
    let all : records ≡ take (length records) records = sym (take_all (length records) records (omega arith)) in
    record {
      n = length records;
      most = omega arith;
      part = part;
      taken = is ∙ ap (λ rs. octets_of rs ++ part) all;
      follows = subst (λ rs. IsPart settings rs part) all follows;
      given = ap (λ rs. length (mux_out settings rs)) all;
    }

-- before more octets are taken
asks_before : (settings : List Setting) (records : List CameraRow) (took more : List ℕ) (i j : ℕ) → i ≤ length took → AsksMux settings records took i j →
    AsksMux settings records (took ++ more) i j
asks_before settings records took more i j le x = record {
  n = x.n;
  most = x.most;
  part = x.part;
  taken = take-append-le i took more le ∙ x.taken;
  follows = x.follows;
  given = x.given;
}

-- before one more record is accepted
asks_more : (settings : List Setting) (records : List CameraRow) (r : CameraRow) (took : List ℕ) (i j : ℕ) → AsksMux settings records took i j →
    AsksMux settings (records ++ r ∷ []) took i j
asks_more settings records r took i j x =
    let same : take x.n records ≡ take x.n (records ++ r ∷ []) = sym (take_before records r x.n x.most) in
    record {
      n = x.n;
      most = omega (arith, size_more records r, x.most);
      part = x.part;
      taken = x.taken ∙ ap (λ rs. octets_of rs ++ x.part) same;
      follows = subst (λ rs. IsPart settings rs x.part) same x.follows;
      given = x.given ∙ ap (λ rs. length (mux_out settings rs)) same;
    }

-- ---- a step

module _ {settings : List Setting} {works : List Work} {start now : Outside} {v : Progress} (arrived : HasMuxed settings works start now v) where
  -- the octets after the records were asked for
  pub asked : {new : Outside} {more : List ℕ} → Exchange now new more [] [] AtStart →
      Exchange start new (octets_of arrived.records ++ more) (mux_out settings arrived.records) []
      (AsksMux settings arrived.records (octets_of arrived.records ++ more))
  asked {more = more} read =
      let took = octets_of arrived.records in
      since_asked (since_weaker arrived.since (λ i j le x. asks_before settings arrived.records took more i j le x)) read
      (asks_at settings arrived.records (took ++ more) [] (length took) (take-append_seam took more ∙ sym (append-nil took)) tt)

  -- a row of a camera is left
  pub is_missing : (EachIndex v.left (λ k. slice_index v.left k ≡ 0) → ⊥) → AreFull settings arrived.records → ⊥
  is_missing some full = grind (arith, nat_tests, cases_lt, length)

  -- the octet wasn't read
  pub octet_failed : {new : Outside} → ReadFailed now new → Muxes settings start new (Err ReadFault)
  octet_failed f = record {
    records = arrived.records;
    rest = [];
    gave = mux_out settings arrived.records;
    accepted = arrived.accepted;
    since = asked f.since;
    answer = (rose_since arrived.since.faults.reads f.rose, tt, refl);
  }

  -- there is none
  pub octet_missing : {new : Outside} → (AreFull settings arrived.records → ⊥) → SawOctet now new None → Muxes settings start new (Err (Short v.octets))
  octet_missing missing x = record {
    records = arrived.records;
    rest = [];
    gave = mux_out settings arrived.records;
    accepted = arrived.accepted;
    since = asked x.0;
    answer = (arrived.octets_are ∙ ap length (sym (append-nil (octets_of arrived.records))), missing, x.1, tt, refl);
  }

  not_awaited : (camera : ℕ) → (length settings ≤ camera) ⊎ (slice_index v.left camera ≡ 0) → IsAwaited settings arrived.records camera → ⊥
  not_awaited camera given a = grind (arith, nat_tests)

  -- it is no camera that has rows left
  pub camera_refused : {new : Outside} (camera : ℕ) → (AreFull settings arrived.records → ⊥) → (length settings ≤ camera) ⊎ (slice_index v.left camera ≡ 0) →
      SawOctet now new (Some camera) →
      Muxes settings start new (Err (BadCamera v.records camera))
  camera_refused camera missing none x = record {
    records = arrived.records;
    rest = camera ∷ [];
    gave = mux_out settings arrived.records;
    accepted = arrived.accepted;
    since = asked x;
    answer = (arrived.records_are, missing, refl, not_awaited camera none, refl);
  }

  -- ---- a camera's row

  module _ {m : Outside} (camera : ℕ) (known : camera < length settings) (some : 0 < slice_index v.left camera) (octet : SawOctet now m (Some camera)) where
    awaited : IsAwaited settings arrived.records camera
    awaited = let left = arrived.left camera known in record { known = known; misses = omega (arith, left, some) }

    abbrev begun : List ℕ
    begun = octets_of arrived.records ++ camera ∷ []

    row_octets : (got : List ℕ) → begun ++ got ≡ octets_of arrived.records ++ camera ∷ got
    row_octets got = append_assoc (octets_of arrived.records) (camera ∷ []) got

    -- octets of it were taken
    part_since : {q : Outside} (got : List ℕ) → Exchange m q got [] [] (InRow (setting_at settings camera).depth (setting_at settings camera).signed
        (setting_at settings camera).width got) →
        Exchange start q (octets_of arrived.records ++ camera ∷ got) (mux_out settings arrived.records) []
        (AsksMux settings arrived.records (octets_of arrived.records ++ camera ∷ got))
    part_since {q = q} got read =
        subst (λ t. Exchange start q t (mux_out settings arrived.records) [] (AsksMux settings arrived.records t)) (row_octets got)
        (since_in (since_weaker (asked octet) (λ i j le x. asks_before settings arrived.records begun got i j le x)) read
        (λ i j le r.
        let g : length (mux_out settings arrived.records) ≡ length (mux_out settings arrived.records) + j = omega (arith, r.1) in
        subst (AsksMux settings arrived.records (begun ++ got) (length begun + i)) g
        (asks_at settings arrived.records (begun ++ got) (camera ∷ take i got) (length begun + i) (take-append-add begun got i ∙ row_octets (take i got))
        (awaited, omega (arith, length-take-le i got le, r.0), r.2))))

    -- all of it was, and octets were given after it
    pub whole_since : {between q : Outside} (got part : List ℕ) → TakesOctets (setting_at settings camera) m between got →
        Exchange between q [] part [] NoRead →
        Exchange start q (octets_of (arrived.records ++ record { camera = camera; row = got } ∷ [])) (mux_out settings arrived.records ++ part) []
        (AsksMux settings (arrived.records ++ record { camera = camera; row = got } ∷ [])
        (octets_of (arrived.records ++ record { camera = camera; row = got } ∷ [])))
    whole_since {q = q} got part row out =
        let r : CameraRow = record { camera = camera; row = got } in
        let took = octets_of arrived.records ++ camera ∷ got in
        subst (λ t. Exchange start q t (mux_out settings arrived.records ++ part) [] (AsksMux settings (arrived.records ++ r ∷ []) t))
        (sym (octets_more arrived.records r))
        (since_out (since_weaker (part_since got row.since) (λ i j le x. asks_more settings arrived.records r took i j x)) out)

    pub can_follow : {between : Outside} (got : List ℕ) → TakesOctets (setting_at settings camera) m between got →
        CanFollow settings arrived.records (record { camera = camera; row = got })
    can_follow got row = let a = awaited in record { known = known; misses = a.misses; whole = row.whole; in_range = row.in_range }

    -- it was refused, or not read or written to its end
    pub row_failed : {q : Outside} (place : Place) (fault : MuxFault) → (AreFull settings arrived.records → ⊥) → place.camera ≡ camera →
        place.octets ≡ v.octets + 1 →
        FailsAtRow (setting_at settings camera) (count_of camera arrived.records) (raster_of camera arrived.records) place m q fault →
        Muxes settings start q (Err fault)
    row_failed place ReadFault missing here_is octets_is x = record {
      records = arrived.records;
      rest = camera ∷ x.0;
      gave = mux_out settings arrived.records;
      accepted = arrived.accepted;
      since = part_since x.0 x.1.since;
      answer = (rose_since arrived.since.faults.reads (rose_since octet.faults.reads x.2), (awaited, x.1.inside, x.1.in_range), refl);
    }
    row_failed place (Short octets) missing here_is octets_is x = record {
      records = arrived.records;
      rest = camera ∷ x.0;
      gave = mux_out settings arrived.records;
      accepted = arrived.accepted;
      since = part_since x.0 x.1.since;
      answer = grind (arith, nat_tests, length-append, awaited);
    }
    row_failed place (BadPixel number row column value) missing here_is octets_is x = record {
      records = arrived.records;
      rest = camera ∷ x.0;
      gave = mux_out settings arrived.records;
      accepted = arrived.accepted;
      since = part_since x.0 x.1;
      answer = grind (arith, nat_tests, awaited);
    }
    row_failed {q = q} place WriteFault missing here_is octets_is x =
        let r : CameraRow = record { camera = camera; row = x.got } in
        let s = setting_at settings camera in
        let raster = raster_of camera (arrived.records ++ r ∷ []) in
        let settles = ap (λ zs. take x.cut.some (settled_octets s zs (count_of camera arrived.records + 1))) (sym (raster_own arrived.records r camera refl))
        ∙ ap (λ n. take x.cut.some (settled_octets s raster n)) (sym (count_own arrived.records r camera refl)) in
        let prefix = out_cut arrived.records r settings x.cut.gave x.cut.some (x.cut.prefix ∙ settles) in
        record {
          records = arrived.records ++ r ∷ [];
          rest = [];
          gave = mux_out settings arrived.records ++ x.cut.gave;
          accepted = accepted_more arrived.records r settings arrived.accepted (can_follow x.got x.octets);
          since = subst (λ t. Exchange start q t (mux_out settings arrived.records ++ x.cut.gave) [] (AsksMux settings (arrived.records ++ r ∷ []) t))
              (sym (append-nil (octets_of (arrived.records ++ r ∷ []))))
              (whole_since x.got x.cut.gave x.octets x.cut.out);
          answer = grind (arith, nat_tests, rose_since);
        }
    row_failed place Long missing here_is octets_is x = absurd x
    row_failed place (BadCamera number other) missing here_is octets_is x = absurd x
