use Rattle.std.proofs.Common.{arith}
use Rattle.strip_decoder.specs.WalkSteps.{walking}
use Rattle.strip_decoder.proofs.Decoding.{rows_few, written_few}
use Rattle.strip_decoder.proofs.engine.finish.Goals as goal

pub rows_written-written-requires : goal.rows_written-written-requires
rows_written-written-requires g c = rows_few g.S.BlockSink.sink (walking c.args.walk) c.requires.current

pub end_at-requires : goal.end_at-requires
end_at-requires g c =
    let most = written_few c.args.geometry.now c.args.walk.at.row c.requires.range (rows_few g.S.BlockSink.sink (walking c.args.walk) c.requires.current) in
    omega (arith, most, c.rows_written-written.ensures)
