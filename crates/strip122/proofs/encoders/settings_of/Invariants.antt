use Rattle.std.proofs.Common.{◌≡◌}
use Rattle.strip122.specs.Muxing.{camera_settings}
use Rattle.strip122.proofs.encoders.settings_of.Given as goal

abbrev pub invariant-loop-camera : goal.invariant-loop-camera
invariant-loop-camera l = l.settings.items ≡ camera_settings l.setting l.camera
