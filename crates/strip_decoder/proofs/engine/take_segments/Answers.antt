use Rattle.std.proofs.Common.{arith, refl, sym, subst, ◌∙◌}
use Rattle.strip_decoder.specs.WalkSteps.{walking}
use Rattle.strip_decoder.specs.Segments.{FollowsFound}
use Rattle.strip_decoder.proofs.Between.{found_at, finds_faults}
use Rattle.strip_decoder.proofs.RunFinds.{found_run}
use Rattle.strip_decoder.proofs.RunFinishes.{run_ends, find_breaks, found_in, found_breaks}
use Rattle.strip_decoder.proofs.RunPasses.{failed}
use Rattle.strip_decoder.proofs.SegmentTakes.{all_takes, faults_then, fewer_left, found_follows, found_takes, is_done, more_taken, room_shorter, shorter_then}
use Rattle.strip_decoder.proofs.engine.take_segments.Goals as goal

pub segments-init : goal.segments-init
segments-init g c = record {
  current = c.requires.current;
  at = c.requires.at;
  room = c.requires.room;
  pixels = refl;
  texts = refl;
  faults =
      record { reads = omega arith; writes = omega arith; notes = omega arith };
  run = λ w pixels texts to. to;
}

pub returns-in-Err-clause-runs : goal.returns-in-Err-clause-runs
returns-in-Err-clause-runs g c w pixels texts to = c.in-Err.ensures.runs w (pixels ∙ sym c.segments.invariant.pixels) (texts ∙ sym c.segments.invariant.texts)
    (c.segments.invariant.run w pixels texts to)

pub returns-in-Ok-None-clause-takes : goal.returns-in-Ok-None-clause-takes
returns-in-Ok-None-clause-takes g c =
    let taken = c.in-Ok.ensures.takes in
    let finds = rw c.in-Ok-None.field-0-is at c.in-Ok-None.ensures in
    all_takes g.S.BlockSink.sink (g.X.Port.outside c.args.port.now) (g.X.Port.outside c.take_segment.new.port) (g.X.Port.outside c.find_next.new.port)
    c.args.assembly.now c.take_segment.new.assembly c.find_next.new.assembly (walking c.args.walk.now) (walking c.take_segment.new.walk)
    taken.current taken.between finds (faults_then c.segments.invariant.faults
    (faults_then taken.faults (finds_faults c.take_segment.new.assembly c.find_next.new.assembly _ c.in-Ok-None.ensures)))

pub returns-in-Ok-None-clause-runs : goal.returns-in-Ok-None-clause-runs
returns-in-Ok-None-clause-runs g c w pixels texts to =
    let taken = c.in-Ok.ensures.takes in
    let finds = rw c.in-Ok-None.field-0-is at c.in-Ok-None.ensures in
    run_ends g.S.BlockSink.sink w (g.X.Port.outside c.take_segment.new.port) (g.X.Port.outside c.find_next.new.port) c.take_segment.new.assembly
    c.find_next.new.assembly (walking c.take_segment.new.walk) taken.current taken.between
    (c.in-Ok.ensures.runs w (pixels ∙ sym c.segments.invariant.pixels) (texts ∙ sym c.segments.invariant.texts) (c.segments.invariant.run w pixels texts to))
    finds.ends.0 finds.ends.1

pub returns-in-Err-find_next-clause-runs : goal.returns-in-Err-find_next-clause-runs
returns-in-Err-find_next-clause-runs g c w pixels texts to =
    let taken = c.in-Ok.ensures.takes in
    find_breaks g.S.BlockSink.sink w (g.X.Port.outside c.take_segment.new.port) (g.X.Port.outside c.find_next.new.port) c.take_segment.new.assembly
    c.find_next.new.assembly (walking c.take_segment.new.walk) taken.current taken.between
    (c.in-Ok.ensures.runs w (pixels ∙ sym c.segments.invariant.pixels) (texts ∙ sym c.segments.invariant.texts) (c.segments.invariant.run w pixels texts to))
    c.in-Err-find_next.fault c.in-Err-find_next.ensures

pub follow_found-requires-clause-current : goal.follow_found-requires-clause-current
follow_found-requires-clause-current g c = c.in-Ok.ensures.takes.current

pub follow_found-requires-clause-found : goal.follow_found-requires-clause-found
follow_found-requires-clause-found g c =
    found_at c.take_segment.new.assembly c.find_next.new.assembly (walking c.take_segment.new.walk) c.in-Ok-Some.next c.in-Ok.ensures.takes.between
    (rw c.in-Ok-Some.field-0-is at c.in-Ok-Some.ensures)

pub segments-smaller : goal.segments-smaller
segments-smaller g c =
    let k = g.S.BlockSink.sink in
    let taken = c.in-Ok.ensures.takes in
    let found = found_at c.take_segment.new.assembly c.find_next.new.assembly (walking c.take_segment.new.walk) c.in-Ok-Some.next taken.between
    (rw c.in-Ok-Some.field-0-is at c.in-Ok-Some.ensures) in
    let follows = found_follows k c.take_segment.new.room.pixels c.find_next.new.assembly (walking c.take_segment.new.walk)
    (walking c.follow_found.new.walk) c.in-Ok-Some.next found c.in-Ok-follow_found.ensures in
    fewer_left k (walking c.segments.walk) (walking c.take_segment.new.walk) (walking c.follow_found.new.walk)
    (more_taken k (walking c.segments.walk) (walking c.take_segment.new.walk) taken) follows

pub segments-preserved : goal.segments-preserved
segments-preserved g c =
    let k = g.S.BlockSink.sink in
    let taken = c.in-Ok.ensures.takes in
    let finds = rw c.in-Ok-Some.field-0-is at c.in-Ok-Some.ensures in
    let found = found_at c.take_segment.new.assembly c.find_next.new.assembly (walking c.take_segment.new.walk) c.in-Ok-Some.next taken.between finds in
    let follows = found_follows k c.take_segment.new.room.pixels c.find_next.new.assembly (walking c.take_segment.new.walk)
    (walking c.follow_found.new.walk) c.in-Ok-Some.next found c.in-Ok-follow_found.ensures in
    let pixels = c.in-Ok.ensures.pixels ∙ c.segments.invariant.pixels in
    record {
      current = follows.current;
      at = follows.at;
      room = room_shorter c.segments.invariant.room (shorter_then taken.geometry follows.shorter) c.in-Ok.ensures.blocks c.in-Ok.ensures.marks;
      pixels = pixels;
      texts = c.in-Ok.ensures.texts ∙ c.segments.invariant.texts;
      faults = faults_then c.segments.invariant.faults (faults_then taken.faults
          (finds_faults c.take_segment.new.assembly c.find_next.new.assembly _ c.in-Ok-Some.ensures));
      run = λ w same texts to.
          found_in k w (g.X.Port.outside c.find_next.new.port) c.find_next.new.assembly (walking c.take_segment.new.walk) (walking c.follow_found.new.walk)
          c.in-Ok-Some.next found
          (found_run k w (g.X.Port.outside c.take_segment.new.port) (g.X.Port.outside c.find_next.new.port) c.take_segment.new.assembly
          c.find_next.new.assembly (walking c.take_segment.new.walk) c.in-Ok-Some.next taken.current taken.between
          (c.in-Ok.ensures.runs w (same ∙ sym c.segments.invariant.pixels) (texts ∙ sym c.segments.invariant.texts) (c.segments.invariant.run w same texts to))
          finds found)
          (subst (λ n. FollowsFound k n c.find_next.new.assembly c.in-Ok-Some.next (walking c.take_segment.new.walk) (walking c.follow_found.new.walk)
          is_done) (pixels ∙ sym same) c.in-Ok-follow_found.ensures);
    }

pub returns-in-Err-follow_found-clause-takes : goal.returns-in-Err-follow_found-clause-takes
returns-in-Err-follow_found-clause-takes g c =
    let k = g.S.BlockSink.sink in
    let taken = c.in-Ok.ensures.takes in
    let found = found_at c.take_segment.new.assembly c.find_next.new.assembly (walking c.take_segment.new.walk) c.in-Ok-Some.next taken.between
    (rw c.in-Ok-Some.field-0-is at c.in-Ok-Some.ensures) in
    found_takes k c.take_segment.new.room.pixels (g.X.Port.outside c.args.port.now) (g.X.Port.outside c.find_next.new.port) c.args.assembly.now
    c.find_next.new.assembly (walking c.args.walk.now) (walking c.take_segment.new.walk) (walking c.follow_found.new.walk) c.in-Ok-Some.next
    c.in-Err-follow_found.fault found c.in-Err-follow_found.ensures

pub returns-in-Err-follow_found-clause-runs : goal.returns-in-Err-follow_found-clause-runs
returns-in-Err-follow_found-clause-runs g c w same texts to =
    let k = g.S.BlockSink.sink in
    let taken = c.in-Ok.ensures.takes in
    let finds = rw c.in-Ok-Some.field-0-is at c.in-Ok-Some.ensures in
    let found = found_at c.take_segment.new.assembly c.find_next.new.assembly (walking c.take_segment.new.walk) c.in-Ok-Some.next taken.between finds in
    let pixels = c.in-Ok.ensures.pixels ∙ c.segments.invariant.pixels in
    found_breaks k w (g.X.Port.outside c.find_next.new.port) c.find_next.new.assembly (walking c.take_segment.new.walk) (walking c.follow_found.new.walk)
    c.in-Ok-Some.next taken.current found
    (found_run k w (g.X.Port.outside c.take_segment.new.port) (g.X.Port.outside c.find_next.new.port) c.take_segment.new.assembly c.find_next.new.assembly
    (walking c.take_segment.new.walk) c.in-Ok-Some.next taken.current taken.between
    (c.in-Ok.ensures.runs w (same ∙ sym c.segments.invariant.pixels) (texts ∙ sym c.segments.invariant.texts) (c.segments.invariant.run w same texts to)) finds
    found)
    c.in-Err-follow_found.fault (subst (λ n. FollowsFound k n c.find_next.new.assembly c.in-Ok-Some.next (walking c.take_segment.new.walk)
    (walking c.follow_found.new.walk) (failed c.in-Err-follow_found.fault)) (pixels ∙ sym same) c.in-Err-follow_found.ensures)
