-- The law of the packets of each camera among all that is given. This project's own.
use Rattle.std.specs.Prelude.{◌≡◌, ◌<◌, ℕ, List, length, None}
use Rattle.base_122.specs.declared.setting.Setting.{Setting}
use Rattle.stream_defs.specs.Output.{output}
use Rattle.strip_coder.specs.Rasters.{image_of}
use Rattle.camera_mux.specs.Picked.{picked}
use Rattle.camera_mux.specs.Records.{CameraRow, setting_at, count_of, raster_of, AreAccepted}
use Rattle.camera_mux.specs.MuxOut.{settled_by, mux_out}
use Rattle.camera_mux.specs.MuxProgress.{AreSettings}

-- The packets of a camera's APID are, in order, exactly those that its rows settle, and if it has all its rows, exactly all packets of its
-- image: what the camera gives alone.
pub record KeepsCamera (settings : List Setting) (records : List CameraRow) (camera : ℕ) : Type 0 where
  pub so_far : picked (mux_out settings records) (setting_at settings camera).apid None ≡ settled_by settings camera records
  pub whole : count_of camera records ≡ (setting_at settings camera).rows →
      picked (mux_out settings records) (setting_at settings camera).apid None ≡ output (setting_at settings camera) (setting_at settings camera).rows
      (image_of (setting_at settings camera) (raster_of camera records))

pub record CamerasAreKept : Type 0 where
  pub each : (settings : List Setting) (records : List CameraRow) → AreSettings settings → AreAccepted settings records → (camera : ℕ) →
      camera < length settings → KeepsCamera settings records camera
