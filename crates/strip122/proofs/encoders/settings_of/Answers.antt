use Rattle.std.proofs.Common.{◌∙◌, ◌+◌, ℕ, [], ◌∷◌, ◌++◌, ap, sym}
use Rattle.base_122.specs.declared.setting.Setting.{Setting}
use Rattle.strip122.specs.Muxing.{camera_settings}
use Rattle.strip122.proofs.CameraWorks.{settings_more}
use Rattle.strip122.proofs.encoders.settings_of.Goals as goal

pub loop-camera-preserved : goal.loop-camera-preserved
loop-camera-preserved c =
    let s = c.args.setting.now in
    let of_apid : ℕ → Setting = λ apid. record s { apid = apid } in
    c.in_ok-push.ensures.items
    ∙ ap (λ settings. settings ++ of_apid (s.apid + c.from-in-loop-camera.result) ∷ []) c.loop-camera.invariant
    ∙ ap (λ n. camera_settings s c.loop-camera.camera ++ of_apid (s.apid + n) ∷ []) c.from-in-loop-camera.ensures
    ∙ sym (settings_more s c.loop-camera.camera)
