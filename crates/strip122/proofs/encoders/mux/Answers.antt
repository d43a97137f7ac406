use Rattle.std.proofs.Common.{◌≡◌, ◌<◌, ◌∙◌, ℕ, refl, sym, subst}
use Rattle.camera_mux.specs.MuxProgress.{AreSettings}
use Rattle.strip122.specs.Muxing.{Muxes}
use Rattle.std.proofs.Common.{true, length}
use Rattle.plane_defs.specs.Codes.{is_book_sound}
use Rattle.camera_mux.specs.Records.{setting_at}
use Rattle.strip122.proofs.CameraWorks.{are_settings, sound_cameras}
use Rattle.strip122.proofs.ClosedCameras.{cameras_closed}
use Rattle.strip122.proofs.Muxed.{muxed, mux_failed, mux_fault_fails}
use Rattle.strip122.proofs.encoders.mux.Goals as goal

pub works_for-requires-clause-books : goal.works_for-requires-clause-books
works_for-requires-clause-books g c =
    subst (λ settings. (camera : ℕ) → camera < length settings → is_book_sound (setting_at settings camera).book ≡ true)
    (sym (c.as_slice.ensures.value ∙ c.in-Ok.ensures))
    (sound_cameras c.args.setting.now c.args.cameras c.requires.book)

pub works_for-requires-clause-settings : goal.works_for-requires-clause-settings
works_for-requires-clause-settings g c =
    subst AreSettings (sym (c.as_slice.ensures.value ∙ c.in-Ok.ensures)) (are_settings c.args.setting.now c.args.cameras c.requires.range c.requires.height
    c.requires.cameras)

pub returns-in-Ok-mux_rows-clause-runs : goal.returns-in-Ok-mux_rows-clause-runs
returns-in-Ok-mux_rows-clause-runs g c =
    let is = c.as_slice-2.ensures.value ∙ c.in-Ok.ensures in
    let are = subst AreSettings (sym is) (are_settings c.args.setting.now c.args.cameras c.requires.range c.requires.height c.requires.cameras) in
    subst (λ settings. Muxes settings (g.X.Port.outside c.args.port.now) (g.X.Port.outside c.mux_rows.new.port) 0) is
    (muxed c.as_slice-2.result.now c.cameras_are_kept.ensures are _ _ c.in-Ok-mux_rows.field-0 c.in-Ok-mux_rows.ensures.muxes)

pub returns-clause-runs : goal.returns-clause-runs
returns-clause-runs g c =
    let is = c.as_slice-2.ensures.value ∙ c.in-Ok.ensures in
    let are = subst AreSettings (sym is) (are_settings c.args.setting.now c.args.cameras c.requires.range c.requires.height c.requires.cameras) in
    subst (λ settings. Muxes settings (g.X.Port.outside c.args.port.now) (g.X.Port.outside c.note_mux_fault.new.port) c.mux_fault_status.result) is
    (mux_failed c.as_slice-2.result.now c.cameras_are_kept.ensures are _ _ _ c.in-Err.fault c.mux_fault_status.result c.in-Err.ensures.muxes
    c.note_mux_fault.ensures c.mux_fault_status.ensures)

pub returns-in-Ok-mux_rows-clause-closed : goal.returns-in-Ok-mux_rows-clause-closed
returns-in-Ok-mux_rows-clause-closed g c zero =
    let is = c.as_slice-2.ensures.value ∙ c.in-Ok.ensures in
    let are = subst AreSettings (sym is) (are_settings c.args.setting.now c.args.cameras c.requires.range c.requires.height c.requires.cameras) in
    cameras_closed c.picking_keeps.ensures c.texts_are_short.ensures c.heights_are_known.ensures c.round_trip.ensures c.args.setting.now c.args.cameras
    c.requires.range c.requires.height c.requires.cameras
    c.requires.book c.ten_weights.ensures _ _ 0
    (subst (λ settings. Muxes settings (g.X.Port.outside c.args.port.now) (g.X.Port.outside c.mux_rows.new.port) 0) is
    (muxed c.as_slice-2.result.now c.cameras_are_kept.ensures are _ _ c.in-Ok-mux_rows.field-0 c.in-Ok-mux_rows.ensures.muxes)) refl

pub returns-clause-closed : goal.returns-clause-closed
returns-clause-closed g c zero = absurd (mux_fault_fails c.in-Err.fault (sym c.mux_fault_status.ensures ∙ zero))
