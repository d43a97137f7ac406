use Rattle.std.proofs.Common.{◌≡◌, length, sum}
use Rattle.camera_mux.specs.MuxProgress.{HasMuxed}
use Rattle.camera_mux.proofs.muxing.mux_rows.Given as goal

abbrev pub invariant-loop-port : goal.invariant-loop-port
invariant-loop-port g l = record {
  same : length l.works ≡ length l.settings;
  muxed : HasMuxed l.settings l.works (g.X.Port.outside l.fn.port) (g.X.Port.outside l.port) l.progress;
}

abbrev pub decreases-loop-port : goal.decreases-loop-port
decreases-loop-port g l = sum l.progress.left
