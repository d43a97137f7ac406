use Rattle.std.proofs.Common.{sym, ◌∙◌, arith, inr}
use Rattle.strip122.proofs.ClosedStreams.{bare_closed}
use Rattle.bare_stream.specs.Answers.{BareAnswers}
use Rattle.bare_stream.specs.Rasters.{texts_for}
use Rattle.strip122.proofs.Encoded.{raster_done, fault_fails}
use Rattle.strip122.proofs.BareRuns.{bare_image_encoded, bare_lacks_memory, bare_encode_failed}
use Rattle.strip122.proofs.encoders.bare_encode.Goals as goal

pub returns-in_default-clause-runs : goal.returns-in_default-clause-runs
returns-in_default-clause-runs g c = bare_lacks_memory c.args.setting.now _ _ c.note_line.ensures

pub returns-in-Ok-encode_bare-clause-runs : goal.returns-in-Ok-encode_bare-clause-runs
returns-in-Ok-encode_bare-clause-runs g c =
    let s = c.args.setting.now in
    let run = c.in-Ok-encode_bare.ensures.encodes in
    inr (raster_done s (BareAnswers s) (texts_for s) _ _ run.took run.gave c.in-Ok-encode_bare.field-0 run.since run.asks run.answer)

pub returns-clause-runs : goal.returns-clause-runs
returns-clause-runs g c = bare_encode_failed c.args.setting.now _ _ _ c.in-Err.fault c.fault_status.result c.in-Err.ensures.encodes c.note_fault.ensures
    c.fault_status.ensures

pub invariant_of-work-4 : goal.invariant_of-work-4
invariant_of-work-4 g c =
    let third = c.encode_bare.new.work.strip.third in record { wide = third.wide; long = third.long; room = third.room }

pub invariant_of-work-in-Ok-encode_bare-2 : goal.invariant_of-work-in-Ok-encode_bare-2
invariant_of-work-in-Ok-encode_bare-2 g c =
    let third = c.encode_bare.new.work.strip.third in record { wide = third.wide; long = third.long; room = third.room }

pub returns-in-Ok-encode_bare-clause-closed : goal.returns-in-Ok-encode_bare-clause-closed
returns-in-Ok-encode_bare-clause-closed g c zero =
    bare_closed c.bare_streams_are_read.ensures c.images_are_bare_streams.ensures c.bare_round_trip.ensures c.args.setting.now _ _
    (record { in_range = c.requires.range; known = λ none. omega (arith, none, c.requires.height.0); no_total = c.requires.no_total }) c.requires.book
    c.ten_weights.ensures
    (bare_image_encoded c.args.setting.now _ _ c.in-Ok-encode_bare.field-0 c.in-Ok-encode_bare.ensures.encodes)

pub returns-clause-closed : goal.returns-clause-closed
returns-clause-closed g c zero = absurd (fault_fails c.in-Err.fault (sym c.fault_status.ensures ∙ zero))

pub returns-in_default-clause-closed : goal.returns-in_default-clause-closed
returns-in_default-clause-closed g c zero = absurd (omega (arith, zero))
