use Rattle.std.proofs.Common.{◌≡◌, length, vec_len, ◌∙◌, sym, ap, subst, arith, Bool, Result, Ok, Err, is_ok, is_err}
use Rattle.segment_code.specs.Readers.{wish_of}
use Rattle.strip_decoder.specs.WalkSteps.{walking, PassesBlocks, AreBlocks}
use Rattle.strip_decoder.specs.declared.ending.DecodeFault.{DecodeFault}
use Rattle.strip_decoder.specs.Segments.{FollowsHeld, ReadsText, segment_values}
use Rattle.strip_decoder.proofs.Between.{may_follow, segment_low}
use Rattle.strip_decoder.proofs.SegmentTakes.{accepted_blocks, blocks_fit, follow_takes, has_followed, is_done, read_takes, segment_taken, text_goes}
use Rattle.strip_decoder.proofs.SegmentTakes.{write_later}
use Rattle.strip_decoder.proofs.RunPasses.{failed, held_breaks, whole_runs, whole_breaks, text_breaks}
use Rattle.strip_decoder.proofs.segments.take_segment.Goals as goal

-- how a text was read, as the type of its result is
abbrev read_text_as : Bool → Result Bool DecodeFault
read_text_as accepted = Ok accepted

abbrev failed_text : DecodeFault → Result Bool DecodeFault
failed_text fault = Err fault

pub returns-in_default-clause-takes : goal.returns-in_default-clause-takes
returns-in_default-clause-takes g c = c.in_default.ensures.reaches c.args.assembly.now c.requires.at

pub returns-in_default-clause-runs : goal.returns-in_default-clause-runs
returns-in_default-clause-runs g c w pixels texts to = c.in_default.ensures.runs w c.args.assembly.now c.requires.at to

pub returns-in-Err-clause-takes : goal.returns-in-Err-clause-takes
returns-in-Err-clause-takes g c =
    let at = c.in-Ok.ensures.reaches c.args.assembly.now c.requires.at in
    read_takes g.S.BlockSink.sink (wish_of c.args.room.now.reader) (g.X.Port.outside c.args.port.now) (g.X.Port.outside c.reach_segment.new.port)
    (g.X.Port.outside c.read_text.new.port) c.args.assembly.now c.read_text.new.assembly (walking c.args.walk.now) (walking c.reach_segment.new.walk)
    c.args.start.now.head c.read_text.new.room.blocks.items c.in-Err.fault at.faults c.in-Err.ensures.reads

pub returns-in-Err-clause-runs : goal.returns-in-Err-clause-runs
returns-in-Err-clause-runs g c w pixels texts to =
    let at = c.in-Ok.ensures.reaches c.args.assembly.now c.requires.at in
    text_breaks g.S.BlockSink.sink w (g.X.Port.outside c.reach_segment.new.port) (g.X.Port.outside c.read_text.new.port) c.args.assembly.now
    c.read_text.new.assembly (walking c.reach_segment.new.walk) c.args.start.now
    (c.in-Ok.ensures.runs w c.args.assembly.now c.requires.at to) at.at at.current at.there c.in-Err.fault c.read_text.new.room.blocks.items
    (subst (λ b. ReadsText b (g.X.Port.outside c.reach_segment.new.port) (g.X.Port.outside c.read_text.new.port) c.args.assembly.now
    c.read_text.new.assembly c.args.start.now.head c.read_text.new.room.blocks.items (failed_text c.in-Err.fault)) (sym texts) c.in-Err.ensures.reads)

pub follow_held-requires-clause-current : goal.follow_held-requires-clause-current
follow_held-requires-clause-current g c = (c.in-Ok.ensures.reaches c.args.assembly.now c.requires.at).current

pub follow_held-requires-clause-held : goal.follow_held-requires-clause-held
follow_held-requires-clause-held g c =
    let at = c.in-Ok.ensures.reaches c.args.assembly.now c.requires.at in
    may_follow c.args.assembly.now c.read_text.new.assembly (walking c.reach_segment.new.walk) c.args.start.now at.at
    (text_goes (wish_of c.args.room.now.reader) (g.X.Port.outside c.reach_segment.new.port) (g.X.Port.outside c.read_text.new.port)
    c.args.assembly.now c.read_text.new.assembly c.args.start.now.head c.read_text.new.room.blocks.items c.in-Ok-read_text.accepted
    c.in-Ok-read_text.ensures.reads)
    (segment_low (walking c.reach_segment.new.walk) c.args.start.now at.at.next.fits at.there)

pub returns-in-Err-follow_held-clause-takes : goal.returns-in-Err-follow_held-clause-takes
returns-in-Err-follow_held-clause-takes g c =
    let at = c.in-Ok.ensures.reaches c.args.assembly.now c.requires.at in
    follow_takes g.S.BlockSink.sink c.read_text.new.room.pixels (g.X.Port.outside c.args.port.now) (g.X.Port.outside c.read_text.new.port)
    (g.X.Port.outside c.reach_segment.new.port) c.args.assembly.now c.read_text.new.assembly (walking c.args.walk.now)
    (walking c.reach_segment.new.walk) (walking c.follow_held.new.walk)
    c.args.start.now c.in-Err-follow_held.fault at.at at.there
    (text_goes (wish_of c.args.room.now.reader) (g.X.Port.outside c.reach_segment.new.port) (g.X.Port.outside c.read_text.new.port)
    c.args.assembly.now c.read_text.new.assembly c.args.start.now.head c.read_text.new.room.blocks.items c.in-Ok-read_text.accepted
    c.in-Ok-read_text.ensures.reads)
    c.in-Err-follow_held.ensures

pub returns-in-Err-follow_held-clause-runs : goal.returns-in-Err-follow_held-clause-runs
returns-in-Err-follow_held-clause-runs g c w pixels texts to =
    let k = g.S.BlockSink.sink in
    let at = c.in-Ok.ensures.reaches c.args.assembly.now c.requires.at in
    held_breaks k w (g.X.Port.outside c.reach_segment.new.port) (g.X.Port.outside c.read_text.new.port) c.args.assembly.now c.read_text.new.assembly
    (walking c.reach_segment.new.walk) c.args.start.now
    (c.in-Ok.ensures.runs w c.args.assembly.now c.requires.at to) at.at at.current at.there (walking c.follow_held.new.walk) c.in-Ok-read_text.accepted
    c.read_text.new.room.blocks.items
    (subst (λ b. ReadsText b (g.X.Port.outside c.reach_segment.new.port) (g.X.Port.outside c.read_text.new.port) c.args.assembly.now
    c.read_text.new.assembly c.args.start.now.head c.read_text.new.room.blocks.items (read_text_as c.in-Ok-read_text.accepted)) (sym texts)
    c.in-Ok-read_text.ensures.reads)
    c.in-Err-follow_held.fault
    (subst (λ n. FollowsHeld k n c.read_text.new.assembly (walking c.reach_segment.new.walk) (walking c.follow_held.new.walk)
    (failed c.in-Err-follow_held.fault)) (c.in-Ok-read_text.ensures.pixels ∙ sym pixels) c.in-Err-follow_held.ensures)

pub pass_segment-requires-clause-current : goal.pass_segment-requires-clause-current
pass_segment-requires-clause-current g c =
    let at = c.in-Ok.ensures.reaches c.args.assembly.now c.requires.at in
    (has_followed g.S.BlockSink.sink c.read_text.new.room.pixels c.args.assembly.now c.read_text.new.assembly (walking c.reach_segment.new.walk)
    (walking c.follow_held.new.walk) c.args.start.now at.at at.current at.there
    (text_goes (wish_of c.args.room.now.reader) (g.X.Port.outside c.reach_segment.new.port) (g.X.Port.outside c.read_text.new.port)
    c.args.assembly.now c.read_text.new.assembly c.args.start.now.head c.read_text.new.room.blocks.items c.in-Ok-read_text.accepted
    c.in-Ok-read_text.ensures.reads) c.in-Ok-follow_held.ensures).current

pub pass_segment-requires-clause-room : goal.pass_segment-requires-clause-room
pass_segment-requires-clause-room g c =
    let at = c.in-Ok.ensures.reaches c.args.assembly.now c.requires.at in
    let followed = has_followed g.S.BlockSink.sink c.read_text.new.room.pixels c.args.assembly.now c.read_text.new.assembly
    (walking c.reach_segment.new.walk) (walking c.follow_held.new.walk) c.args.start.now at.at at.current at.there
    (text_goes (wish_of c.args.room.now.reader) (g.X.Port.outside c.reach_segment.new.port) (g.X.Port.outside c.read_text.new.port)
    c.args.assembly.now c.read_text.new.assembly c.args.start.now.head c.read_text.new.room.blocks.items c.in-Ok-read_text.accepted
    c.in-Ok-read_text.ensures.reads) c.in-Ok-follow_held.ensures in
    omega (arith, followed.count, at.there, followed.fits.blocks, followed.fits.within)

pub pass_segment-requires-clause-parts : goal.pass_segment-requires-clause-parts
pass_segment-requires-clause-parts g c e =
    let start = c.args.start.now in
    let q = walking c.follow_held.new.walk in
    let w1 = g.X.Port.outside c.reach_segment.new.port in
    let w2 = g.X.Port.outside c.read_text.new.port in
    let at = c.in-Ok.ensures.reaches c.args.assembly.now c.requires.at in
    let followed = has_followed g.S.BlockSink.sink c.read_text.new.room.pixels c.args.assembly.now c.read_text.new.assembly
    (walking c.reach_segment.new.walk) q start at.at at.current at.there
    (text_goes (wish_of c.args.room.now.reader) w1 w2 c.args.assembly.now c.read_text.new.assembly start.head c.read_text.new.room.blocks.items
    c.in-Ok-read_text.accepted c.in-Ok-read_text.ensures.reads) c.in-Ok-follow_held.ensures in
    let long : length c.read_text.new.room.blocks.items ≡ vec_len c.args.room.now.blocks =
    sym c.read_text.new.room.blocks.ok.0 ∙ c.in-Ok-read_text.ensures.blocks in
    let cells : c.deref.result.now ≡ c.read_text.new.room.blocks.items = c.deref.ensures.value in
    let room = (blocks_fit c.args.walk.now.geometry start _ _ c.requires.room c.requires.at.next.fits).0 in
    subst (AreBlocks start.head.blocks q.geometry) (sym cells)
    (accepted_blocks c.texts_read_as_wished.ensures (wish_of c.args.room.now.reader) c.args.room.now.reader.tables.value.words.sound q.geometry start
    c.read_text.new.room.blocks.items w1 w2 c.args.assembly.now c.read_text.new.assembly c.in-Ok-read_text.accepted followed.fits
    (omega (arith, long, room)) c.in-Ok-read_text.ensures.reads e)

pub returns-in_default-pass_segment-clause-takes : goal.returns-in_default-pass_segment-clause-takes
returns-in_default-pass_segment-clause-takes g c =
    let at = c.in-Ok.ensures.reaches c.args.assembly.now c.requires.at in
    let goes = text_goes (wish_of c.args.room.now.reader) (g.X.Port.outside c.reach_segment.new.port) (g.X.Port.outside c.read_text.new.port)
    c.args.assembly.now c.read_text.new.assembly c.args.start.now.head c.read_text.new.room.blocks.items c.in-Ok-read_text.accepted
    c.in-Ok-read_text.ensures.reads in
    write_later g.S.BlockSink.sink c.pass_segment.result (g.X.Port.outside c.args.port.now) (g.X.Port.outside c.reach_segment.new.port)
    (g.X.Port.outside c.read_text.new.port) (g.X.Port.outside c.pass_segment.new.port) (walking c.follow_held.new.walk) (walking c.pass_segment.new.walk)
    _ _ (ap is_err c.in_default-pass_segment.is) at.faults goes.passes.since.faults c.pass_segment.ensures

pub returns-in_default-pass_segment-clause-runs : goal.returns-in_default-pass_segment-clause-runs
returns-in_default-pass_segment-clause-runs g c w pixels texts to =
    let k = g.S.BlockSink.sink in
    let start = c.args.start.now in
    let p = walking c.reach_segment.new.walk in
    let q = walking c.follow_held.new.walk in
    let w1 = g.X.Port.outside c.reach_segment.new.port in
    let w2 = g.X.Port.outside c.read_text.new.port in
    let at = c.in-Ok.ensures.reaches c.args.assembly.now c.requires.at in
    let follows = subst (λ n. FollowsHeld k n c.read_text.new.assembly p q is_done) (c.in-Ok-read_text.ensures.pixels ∙ sym pixels)
    c.in-Ok-follow_held.ensures in
    let followed = has_followed k w.pixels c.args.assembly.now c.read_text.new.assembly p q start at.at at.current at.there
    (text_goes (wish_of c.args.room.now.reader) w1 w2 c.args.assembly.now c.read_text.new.assembly start.head c.read_text.new.room.blocks.items
    c.in-Ok-read_text.accepted c.in-Ok-read_text.ensures.reads) follows in
    let long : length c.read_text.new.room.blocks.items ≡ vec_len c.args.room.now.blocks =
    sym c.read_text.new.room.blocks.ok.0 ∙ c.in-Ok-read_text.ensures.blocks in
    let cells : c.deref.result.now ≡ c.read_text.new.room.blocks.items = c.deref.ensures.value in
    let room = (blocks_fit c.args.walk.now.geometry start _ _ c.requires.room c.requires.at.next.fits).0 in
    let passes = subst (λ xs. PassesBlocks k c.pass_segment.result (segment_values c.in-Ok-read_text.accepted xs) start.head.blocks w2
    (g.X.Port.outside c.pass_segment.new.port) q (walking c.pass_segment.new.walk)) cells c.pass_segment.ensures in
    whole_breaks k w w1 w2 c.args.assembly.now c.read_text.new.assembly p start (c.in-Ok.ensures.runs w c.args.assembly.now c.requires.at to) at.at
    at.current at.there q followed c.in-Ok-read_text.accepted c.read_text.new.room.blocks.items (omega (arith, long, room))
    (subst (λ b. ReadsText b w1 w2 c.args.assembly.now c.read_text.new.assembly start.head c.read_text.new.room.blocks.items
    (read_text_as c.in-Ok-read_text.accepted)) (sym texts) c.in-Ok-read_text.ensures.reads)
    c.pass_segment.result (g.X.Port.outside c.pass_segment.new.port) (walking c.pass_segment.new.walk) (ap is_err c.in_default-pass_segment.is) passes

pub returns-clause-takes : goal.returns-clause-takes
returns-clause-takes g c =
    let k = g.S.BlockSink.sink in
    let start = c.args.start.now in
    let p = walking c.reach_segment.new.walk in
    let q = walking c.follow_held.new.walk in
    let w1 = g.X.Port.outside c.reach_segment.new.port in
    let w2 = g.X.Port.outside c.read_text.new.port in
    let at = c.in-Ok.ensures.reaches c.args.assembly.now c.requires.at in
    let followed = has_followed k c.read_text.new.room.pixels c.args.assembly.now c.read_text.new.assembly p q start at.at at.current at.there
    (text_goes (wish_of c.args.room.now.reader) w1 w2 c.args.assembly.now c.read_text.new.assembly start.head c.read_text.new.room.blocks.items
    c.in-Ok-read_text.accepted c.in-Ok-read_text.ensures.reads) c.in-Ok-follow_held.ensures in
    segment_taken k (wish_of c.args.room.now.reader) c.read_text.new.room.pixels c.pass_segment.result (g.X.Port.outside c.args.port.now) w1 w2
    (g.X.Port.outside c.pass_segment.new.port) c.args.assembly.now c.read_text.new.assembly start (walking c.args.walk.now) p q
    (walking c.pass_segment.new.walk)
    c.read_text.new.room.blocks.items c.in-Ok-read_text.accepted _ (ap is_ok c.in-Ok-pass_segment.is) c.requires.at at c.in-Ok-read_text.ensures.reads
    followed c.pass_segment.ensures

pub returns-clause-runs : goal.returns-clause-runs
returns-clause-runs g c w pixels texts to =
    let k = g.S.BlockSink.sink in
    let start = c.args.start.now in
    let p = walking c.reach_segment.new.walk in
    let q = walking c.follow_held.new.walk in
    let w1 = g.X.Port.outside c.reach_segment.new.port in
    let w2 = g.X.Port.outside c.read_text.new.port in
    let at = c.in-Ok.ensures.reaches c.args.assembly.now c.requires.at in
    let follows = subst (λ n. FollowsHeld k n c.read_text.new.assembly p q is_done) (c.in-Ok-read_text.ensures.pixels ∙ sym pixels)
    c.in-Ok-follow_held.ensures in
    let followed = has_followed k w.pixels c.args.assembly.now c.read_text.new.assembly p q start at.at at.current at.there
    (text_goes (wish_of c.args.room.now.reader) w1 w2 c.args.assembly.now c.read_text.new.assembly start.head c.read_text.new.room.blocks.items
    c.in-Ok-read_text.accepted c.in-Ok-read_text.ensures.reads) follows in
    let long : length c.read_text.new.room.blocks.items ≡ vec_len c.args.room.now.blocks =
    sym c.read_text.new.room.blocks.ok.0 ∙ c.in-Ok-read_text.ensures.blocks in
    let cells : c.deref.result.now ≡ c.read_text.new.room.blocks.items = c.deref.ensures.value in
    let room = (blocks_fit c.args.walk.now.geometry start _ _ c.requires.room c.requires.at.next.fits).0 in
    let passes = subst (λ xs. PassesBlocks k c.pass_segment.result (segment_values c.in-Ok-read_text.accepted xs) start.head.blocks w2
    (g.X.Port.outside c.pass_segment.new.port) q (walking c.pass_segment.new.walk)) cells c.pass_segment.ensures in
    whole_runs k w w1 w2 c.args.assembly.now c.read_text.new.assembly p start (c.in-Ok.ensures.runs w c.args.assembly.now c.requires.at to) at.at
    at.current at.there q followed c.in-Ok-read_text.accepted c.read_text.new.room.blocks.items (omega (arith, long, room))
    (subst (λ b. ReadsText b w1 w2 c.args.assembly.now c.read_text.new.assembly start.head c.read_text.new.room.blocks.items
    (read_text_as c.in-Ok-read_text.accepted)) (sym texts) c.in-Ok-read_text.ensures.reads)
    c.pass_segment.result (g.X.Port.outside c.pass_segment.new.port) (walking c.pass_segment.new.walk) (ap is_ok c.in-Ok-pass_segment.is) passes
