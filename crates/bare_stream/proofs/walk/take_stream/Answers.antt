use Rattle.bare_stream.proofs.StreamEnd.{end_faulted, stream_read}
use Rattle.bare_stream.proofs.walk.take_stream.Goals as goal

pub returns-in-Err-expect_end-clause-run : goal.returns-in-Err-expect_end-clause-run
returns-in-Err-expect_end-clause-run g c = λ wish start reading.
    end_faulted g.X.Port.outside wish start c.take_segments.new.input c.expect_end.new.input c.take_segments.new.walk
    (c.in_default.ensures.run wish start reading) c.in-Err-expect_end.fault c.in-Err-expect_end.ensures

pub returns-clause-run : goal.returns-clause-run
returns-clause-run g c = λ wish start reading.
    stream_read g.X.Port.outside wish start c.take_segments.new.input c.expect_end.new.input c.take_segments.new.walk
    (c.in_default.ensures.run wish start reading) c.geometry.result c.geometry.ensures c.in_default-expect_end.ensures
