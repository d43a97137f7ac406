use Rattle.std.proofs.Common.{refl}
use Rattle.camera_mux.proofs.MuxEnds.{none_muxed, all_muxed, long_muxed}
use Rattle.camera_mux.proofs.MuxRuns.{octet_failed}
use Rattle.camera_mux.proofs.muxing.mux_rows.Goals as goal

pub loop-port-init : goal.loop-port-init
loop-port-init g c = record {
  same = c.requires.same;
  muxed =
      none_muxed (g.X.Port.outside c.args.port.now) c.begin-progress.result c.requires c.begin-progress.ensures;
}

pub loop-port-smaller : goal.loop-port-smaller
loop-port-smaller g c = (c.in_default.ensures.record (g.X.Port.outside c.args.port.now) c.loop-port.invariant.muxed).1

pub loop-port-preserved : goal.loop-port-preserved
loop-port-preserved g c = record {
  same = c.take_record.ensures.same;
  muxed =
      (c.in_default.ensures.record (g.X.Port.outside c.args.port.now) c.loop-port.invariant.muxed).0;
}

pub returns-in-Ok-true-clause-made : goal.returns-in-Ok-true-clause-made
returns-in-Ok-true-clause-made g c = λ camera d lt. (c.loop-port.invariant.muxed.ready camera d lt).made

pub returns-in-Ok-false-clause-made : goal.returns-in-Ok-false-clause-made
returns-in-Ok-false-clause-made g c = λ camera d lt. (c.loop-port.invariant.muxed.ready camera d lt).made

pub returns-in-Err-at_end-clause-made : goal.returns-in-Err-at_end-clause-made
returns-in-Err-at_end-clause-made g c = λ camera d lt. (c.loop-port.invariant.muxed.ready camera d lt).made

pub returns-in-Ok-true-clause-muxes : goal.returns-in-Ok-true-clause-muxes
returns-in-Ok-true-clause-muxes g c = all_muxed c.requires.cameras c.loop-port.invariant.muxed (c.loop-port-test.ensures.0 refl)
    (rw c.in-Ok-true.field-0-test at c.in-Ok-true.ensures)

pub returns-in-Ok-false-clause-muxes : goal.returns-in-Ok-false-clause-muxes
returns-in-Ok-false-clause-muxes g c = long_muxed c.requires.cameras c.loop-port.invariant.muxed (c.loop-port-test.ensures.0 refl)
    (rw c.in-Ok-false.field-0-test at c.in-Ok-false.ensures)

pub returns-in-Err-at_end-clause-muxes : goal.returns-in-Err-at_end-clause-muxes
returns-in-Err-at_end-clause-muxes g c = octet_failed c.loop-port.invariant.muxed c.in-Err-at_end.ensures
