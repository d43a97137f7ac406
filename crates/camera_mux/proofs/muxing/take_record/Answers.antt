use Rattle.std.proofs.lemmas.Bool.Decides.{nat_tests}
use Rattle.std.proofs.Common.{◌≡◌, ◌<◌, ◌≤◌, ◌+◌, ◌-◌, ◌*◌, length, inl, inr, refl, sym, ap, ◌∙◌, subst, arith, sum, slice_index, slice_index_or, slice_set}
use Rattle.std.proofs.Common.{Some}
use Rattle.strip_coder.specs.Rasters.{row_length}
use Rattle.camera_mux.specs.declared.camera_rows.Place.{Place}
use Rattle.camera_mux.specs.Records.{setting_at, raster_of}
use Rattle.camera_mux.specs.RowSteps.{GivesRow, FailsAtRow}
use Rattle.camera_mux.specs.MuxProgress.{IsReady, HasMuxed, SawOctet}
use Rattle.camera_mux.proofs.MuxRuns.{octet_failed, octet_missing, camera_refused, row_failed, is_missing}
use Rattle.camera_mux.proofs.MuxTaken.{record_taken, less_left, made_set, rows_taken, work_taken}
use Rattle.camera_mux.proofs.muxing.take_record.Goals as goal

pub returns-in_default-clause-record : goal.returns-in_default-clause-record
returns-in_default-clause-record g c = λ start arrived. octet_failed arrived c.in_default.ensures

pub returns-in_default-octet-clause-record : goal.returns-in_default-octet-clause-record
returns-in_default-octet-clause-record g c = λ start arrived.
    octet_missing arrived (is_missing arrived c.requires.misses) (subst (SawOctet (g.X.Port.outside c.args.port.now) (g.X.Port.outside c.next_octet.new.port))
    c.in_default-octet.is c.in-Ok.ensures)

pub returns-then-index-settings-clause-record : goal.returns-then-index-settings-clause-record
returns-then-index-settings-clause-record g c = λ start arrived.
    let index = c.from-index.ensures in
    let far : length c.args.settings.now ≤ c.in-Some.camera = omega (arith, index, c.if-index-settings.true) in
    camera_refused arrived c.in-Some.camera (is_missing arrived c.requires.misses) (inl far)
    (subst (SawOctet (g.X.Port.outside c.args.port.now) (g.X.Port.outside c.next_octet.new.port)) c.in-Some.is c.in-Ok.ensures)

pub returns-then-progress-index-eq0-clause-made : goal.returns-then-progress-index-eq0-clause-made
returns-then-progress-index-eq0-clause-made g c = λ camera d lt. (c.requires.going.1.ready camera d lt).made

pub returns-then-progress-index-eq0-clause-record : goal.returns-then-progress-index-eq0-clause-record
returns-then-progress-index-eq0-clause-record g c = λ start arrived.
    let none : slice_index c.args.progress.now.left c.in-Some.camera ≡ 0 = ap (slice_index c.args.progress.now.left) (sym c.from-index.ensures)
    ∙ c.if-progress-index-eq0.true in
    camera_refused arrived c.in-Some.camera (is_missing arrived c.requires.misses) (inr none)
    (subst (SawOctet (g.X.Port.outside c.args.port.now) (g.X.Port.outside c.next_octet.new.port)) c.in-Some.is c.in-Ok.ensures)

pub take_next_row-requires-clause-made : goal.take_next_row-requires-clause-made
take_next_row-requires-clause-made g c = grind (arith, nat_tests, length)

pub take_next_row-requires-clause-taken : goal.take_next_row-requires-clause-taken
take_next_row-requires-clause-taken g c = grind (arith, nat_tests, length, slice_index, work_taken)

pub returns-in-Ok-take_next_row-clause-made : goal.returns-in-Ok-take_next_row-clause-made
returns-in-Ok-take_next_row-clause-made g c =
    let known : c.from-index.result < length c.args.settings.now = omega (arith, c.if-index-settings.false) in
    made_set c.args.settings.now c.args.works.now c.from-index.result c.take_next_row.new.work c.requires.same known
    (λ camera d lt. (c.requires.going.1.ready camera d lt).made) c.take_next_row.ensures.made

pub returns-in-Err-clause-made : goal.returns-in-Err-clause-made
returns-in-Err-clause-made g c =
    let known : c.from-index.result < length c.args.settings.now = omega (arith, c.if-index-settings.false) in
    made_set c.args.settings.now c.args.works.now c.from-index.result c.take_next_row.new.work c.requires.same known
    (λ camera d lt. (c.requires.going.1.ready camera d lt).made) c.take_next_row.ensures.made

pub returns-in-Ok-take_next_row-clause-record : goal.returns-in-Ok-take_next_row-clause-record
returns-in-Ok-take_next_row-clause-record g c = λ start arrived.
    let settings = c.args.settings.now in
    let index = c.from-index.result in
    let s = setting_at settings index in
    let known : index < length settings = omega (arith, c.if-index-settings.false) in
    let some : 0 < slice_index c.args.progress.now.left index = omega (arith, c.if-progress-index-eq0.false) in
    let p = g.X.Port.outside c.args.port.now in
    let m = g.X.Port.outside c.next_octet.new.port in
    let q = g.X.Port.outside c.take_next_row.new.port in
    let here : SawOctet p m (Some c.in-Some.camera) = subst (SawOctet p m) c.in-Some.is c.in-Ok.ensures in
    let octet : SawOctet p m (Some index) = subst (λ n. SawOctet p m (Some n)) (sym c.from-index.ensures) here in
    let raster = raster_of index arrived.records in
    let rows = rows_taken arrived index known in
    let whole : length raster ≡ (s.rows - slice_index c.args.progress.now.left index) * row_length s =
    arrived.rasters index known ∙ ap (λ n. n * row_length s) (sym rows) in
    let ready = subst (λ n. IsReady s n raster (slice_index_or c.args.works.now index c.index-works-index.result)) (sym rows)
    (arrived.ready index c.index-works-index.result known) in
    let done = c.in-Ok-take_next_row.done in
    let new = c.take_next_row.new.work in
    let gives = subst (λ n. GivesRow s n raster m q new done) rows (c.in-Ok-take_next_row.ensures.row raster whole ready) in
    subst (λ v. HasMuxed settings (slice_set c.args.works.now index new) start q v × (sum v.left < sum c.args.progress.now.left)) (sym c.add.ensures) (
      record_taken c.requires.settings c.requires.same arrived index known some octet new done c.take_next_row.ensures.made gives,
      less_left c.requires.settings c.requires.same arrived index known some octet new done c.take_next_row.ensures.made gives,
    )

pub returns-in-Err-clause-record : goal.returns-in-Err-clause-record
returns-in-Err-clause-record g c = λ start arrived.
    let settings = c.args.settings.now in
    let index = c.from-index.result in
    let s = setting_at settings index in
    let known : index < length settings = omega (arith, c.if-index-settings.false) in
    let some : 0 < slice_index c.args.progress.now.left index = omega (arith, c.if-progress-index-eq0.false) in
    let p = g.X.Port.outside c.args.port.now in
    let m = g.X.Port.outside c.next_octet.new.port in
    let q = g.X.Port.outside c.take_next_row.new.port in
    let here : SawOctet p m (Some c.in-Some.camera) = subst (SawOctet p m) c.in-Some.is c.in-Ok.ensures in
    let octet : SawOctet p m (Some index) = subst (λ n. SawOctet p m (Some n)) (sym c.from-index.ensures) here in
    let raster = raster_of index arrived.records in
    let rows = rows_taken arrived index known in
    let whole : length raster ≡ (s.rows - slice_index c.args.progress.now.left index) * row_length s =
    arrived.rasters index known ∙ ap (λ n. n * row_length s) (sym rows) in
    let ready = subst (λ n. IsReady s n raster (slice_index_or c.args.works.now index c.index-works-index.result)) (sym rows)
    (arrived.ready index c.index-works-index.result known) in
    let place : Place = record { camera = c.in-Some.camera; octets = c.args.progress.now.octets + 1 } in
    let fails = subst (λ n. FailsAtRow s n raster place m q c.in-Err.fault) rows (c.in-Err.ensures.row raster whole ready) in
    row_failed arrived index known some octet place c.in-Err.fault (is_missing arrived c.requires.misses) (sym c.from-index.ensures) refl fails
