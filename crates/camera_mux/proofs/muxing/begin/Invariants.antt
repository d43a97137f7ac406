use Rattle.std.proofs.Common.{◌≡◌, ℕ, ◌<◌, ◌≤◌, length, slice_index}
use Rattle.camera_mux.specs.Records.{setting_at}
use Rattle.camera_mux.proofs.muxing.begin.Given as goal

abbrev pub invariant-loop-camera : goal.invariant-loop-camera
invariant-loop-camera l = record {
  size : length l.left ≡ 16;
  left : (c : ℕ) → c < l.camera → slice_index l.left c ≡ (setting_at l.settings c).rows;
  others : (c : ℕ) → l.camera ≤ c → slice_index l.left c ≡ 0;
}
