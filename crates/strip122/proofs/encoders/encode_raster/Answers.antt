use Rattle.std.proofs.Common.{sym, ◌∙◌}
use Rattle.strip122.proofs.ClosedRasters.{encoded_closed}
use Rattle.strip_coder.specs.Answers.{Answers}
use Rattle.strip_coder.specs.Rasters.{given_for}
use Rattle.strip122.proofs.Encoded.{raster_done, encode_failed, fault_fails, image_encoded}
use Rattle.strip122.proofs.encoders.encode_raster.Goals as goal

pub returns-in-Ok-clause-runs : goal.returns-in-Ok-clause-runs
returns-in-Ok-clause-runs g c =
    let s = c.args.setting.now in
    let run = c.in-Ok.ensures.encodes in
    raster_done s (Answers s) (given_for s) _ _ run.took run.gave c.in-Ok.field-0 run.since run.asks run.answer

pub returns-in-Err-clause-runs : goal.returns-in-Err-clause-runs
returns-in-Err-clause-runs g c = encode_failed c.args.setting.now _ _ _ c.in-Err.fault c.fault_status.result c.in-Err.ensures.encodes c.note_fault.ensures
    c.fault_status.ensures

pub returns-in-Ok-clause-closed : goal.returns-in-Ok-clause-closed
returns-in-Ok-clause-closed g c zero =
    encoded_closed c.texts_are_short.ensures c.heights_are_known.ensures c.round_trip.ensures c.args.setting.now _ _ c.requires.range c.requires.book
    c.ten_weights.ensures
    (image_encoded c.args.setting.now _ _ c.in-Ok.field-0 c.in-Ok.ensures.encodes)

pub returns-in-Err-clause-closed : goal.returns-in-Err-clause-closed
returns-in-Err-clause-closed g c zero = absurd (fault_fails c.in-Err.fault (sym c.fault_status.ensures ∙ zero))
