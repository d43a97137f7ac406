use Rattle.std.proofs.Common.{◌≡◌, ◌<◌, ℕ, length, slice_index_or}
use Rattle.strip_coder.specs.declared.work.Work.{Work}
use Rattle.strip_coder.specs.Works.{IsMadeFor}
use Rattle.camera_mux.specs.Records.{setting_at}
use Rattle.strip122.proofs.encoders.works_for.Given as goal

abbrev pub invariant-loop-setting : goal.invariant-loop-setting
invariant-loop-setting l = record {
  size : length l.works.items ≡ l.setting-index;
  made : (camera : ℕ) (d : Work) → camera < l.setting-index → IsMadeFor (setting_at l.settings camera) (slice_index_or l.works.items camera d);
}
