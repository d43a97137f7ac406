use Rattle.std.proofs.Common.{◌≡◌, ◌-◌, vec_len}
use Rattle.port_122.specs.Outside.{NoFewerFaults}
use Rattle.segment_code.specs.Readers.{wish_of}
use Rattle.strip_decoder.specs.WalkSteps.{walking, IsCurrent, passed_in, total_in}
use Rattle.strip_decoder.specs.Rooms.{IsRoom}
use Rattle.strip_decoder.specs.Segments.{IsAt}
use Rattle.strip_decoder.specs.Runs.{Run, WalksIn}
use Rattle.strip_decoder.proofs.engine.take_segments.Given as goal

abbrev pub invariant-segments : goal.invariant-segments
invariant-segments g l = record {
  current : IsCurrent g.S.BlockSink.sink (walking l.walk);
  at : IsAt l.assembly (walking l.walk) l.start;
  room : IsRoom l.walk.geometry (vec_len l.room.blocks) (vec_len l.room.marks);
  pixels : l.room.pixels ≡ l.initial.room.pixels;
  texts : wish_of l.room.reader ≡ wish_of l.initial.room.reader;
  faults : NoFewerFaults (g.X.Port.outside l.initial.port) (g.X.Port.outside l.port);
  run : (w : Run) → w.pixels ≡ l.initial.room.pixels → w.texts ≡ wish_of l.initial.room.reader →
      WalksIn g.S.BlockSink.sink w (g.X.Port.outside l.initial.port) l.initial.assembly (walking l.initial.walk) l.initial.start →
      WalksIn g.S.BlockSink.sink w (g.X.Port.outside l.port) l.assembly (walking l.walk) l.start;
}

abbrev pub decreases-segments : goal.decreases-segments
decreases-segments g l = total_in (walking l.walk) - passed_in (walking l.walk)
