use Rattle.std.proofs.Common.{◌≡◌, refl, sym, ap, subst, ◌∙◌, true, false, is_some, Ok}
use Rattle.std.proofs.lemmas.Bool.{false≢true}
use Rattle.base_122.specs.Ranges.{IsGeometryInRange}
use Rattle.stream_defs.specs.Begun.{placed}
use Rattle.strip_decoder.specs.WalkSteps.{walking, IsFresh}
use Rattle.strip_decoder.specs.Walks.{Walks, run_of}
use Rattle.strip_decoder.proofs.Staying.{placed_range, placed_within}
use Rattle.strip_decoder.proofs.Between.{found_first, finds_faults}
use Rattle.strip_decoder.proofs.RunStarts.{found_one, first_valid, first_arrives}
use Rattle.strip_decoder.proofs.SegmentTakes.{room_shorter, shorter_same}
use Rattle.strip_decoder.proofs.Decoding.{no_memory_first, first_fails, first_none, never_none, too_many, no_memory, walk_done, walk_fails}
use Rattle.strip_decoder.proofs.engine.walk_segments.Goals as goal

pub returns-in_default : goal.returns-in_default
returns-in_default g c = no_memory_first g.S.BlockSink.sink c.args.wish.now (g.X.Port.outside c.args.port.now)

pub returns-in-Ok-None : goal.returns-in-Ok-None
returns-in-Ok-None g c =
    first_none g.S.BlockSink.sink c.args.wish.now (g.X.Port.outside c.args.port.now) (g.X.Port.outside c.find_next.new.port) c.in-Ok.assembly
    c.find_next.new.assembly c.in-Ok.ensures (rw c.in-Ok-None.field-0-is at c.in-Ok-None.ensures)

pub returns-in-Err : goal.returns-in-Err
returns-in-Err g c =
    first_fails g.S.BlockSink.sink c.args.wish.now (g.X.Port.outside c.args.port.now) (g.X.Port.outside c.find_next.new.port) c.in-Ok.assembly
    c.find_next.new.assembly c.in-Ok.ensures c.in-Err.fault c.in-Err.ensures

pub returns-in_default-geometry : goal.returns-in_default-geometry
returns-in_default-geometry g c =
    let k = g.S.BlockSink.sink in
    let w = run_of c.args.wish.now (g.X.Port.outside c.args.port.now) in
    let found = found_one k w (g.X.Port.outside c.find_next.new.port) c.in-Ok.assembly c.find_next.new.assembly c.in-Ok-Some.start c.in-Ok.ensures
    (rw c.in-Ok-Some.field-0-is at c.in-Ok-Some.ensures) in
    absurd (never_none k c.args.wish.now (g.X.Port.outside c.args.port.now) (g.X.Port.outside c.find_next.new.port) c.find_next.new.assembly
    c.in-Ok-Some.start found (sym c.geometry.ensures.current ∙ c.in_default-geometry.is))

pub returns-then-pixels-wish : goal.returns-then-pixels-wish
returns-then-pixels-wish g c =
    let k = g.S.BlockSink.sink in
    let w = run_of c.args.wish.now (g.X.Port.outside c.args.port.now) in
    let found = found_one k w (g.X.Port.outside c.find_next.new.port) c.in-Ok.assembly c.find_next.new.assembly c.in-Ok-Some.start c.in-Ok.ensures
    (rw c.in-Ok-Some.field-0-is at c.in-Ok-Some.ensures) in
    too_many k c.args.wish.now (g.X.Port.outside c.args.port.now) (g.X.Port.outside c.find_next.new.port) c.find_next.new.assembly c.in-Ok-Some.start found
    c.in-Some.geometry _ (sym c.in-Some.ensures.current)
    c.pixels_reached-pixels.ensures c.if-pixels-wish.true

pub returns-in_default-new : goal.returns-in_default-new
returns-in_default-new g c =
    let k = g.S.BlockSink.sink in
    let w = run_of c.args.wish.now (g.X.Port.outside c.args.port.now) in
    let found = found_one k w (g.X.Port.outside c.find_next.new.port) c.in-Ok.assembly c.find_next.new.assembly c.in-Ok-Some.start c.in-Ok.ensures
    (rw c.in-Ok-Some.field-0-is at c.in-Ok-Some.ensures) in
    no_memory k c.args.wish.now (g.X.Port.outside c.args.port.now) (g.X.Port.outside c.find_next.new.port) c.find_next.new.assembly c.in-Ok-Some.start found

pub returns-in_default-begin_walk : goal.returns-in_default-begin_walk
returns-in_default-begin_walk g c =
    let k = g.S.BlockSink.sink in
    let w = run_of c.args.wish.now (g.X.Port.outside c.args.port.now) in
    let found = found_one k w (g.X.Port.outside c.find_next.new.port) c.in-Ok.assembly c.find_next.new.assembly c.in-Ok-Some.start c.in-Ok.ensures
    (rw c.in-Ok-Some.field-0-is at c.in-Ok-Some.ensures) in
    no_memory k c.args.wish.now (g.X.Port.outside c.args.port.now) (g.X.Port.outside c.find_next.new.port) c.find_next.new.assembly c.in-Ok-Some.start found

pub begin_walk-requires-clause-range : goal.begin_walk-requires-clause-range
begin_walk-requires-clause-range g c = subst IsGeometryInRange (sym c.placed-tallest.ensures) (placed_range c.in-Some.geometry c.in-Some.ensures.in_range)

pub pass_all-requires-clause-current : goal.pass_all-requires-clause-current
pass_all-requires-clause-current g c =
    first_valid g.S.BlockSink.sink (placed c.in-Some.geometry) (walking c.in-Ok-begin_walk.walk)
    (placed_range c.in-Some.geometry c.in-Some.ensures.in_range) (placed_within c.in-Some.geometry c.in-Some.ensures.in_range)
    (subst (λ h. IsFresh g.S.BlockSink.sink h (walking c.in-Ok-begin_walk.walk)) c.placed-tallest.ensures c.in-Ok-begin_walk.ensures)

pub pass_all-requires-clause-at : goal.pass_all-requires-clause-at
pass_all-requires-clause-at g c =
    found_first g.S.BlockSink.sink c.args.wish.now.apid c.args.wish.now.octets c.in-Ok.assembly c.find_next.new.assembly (walking c.in-Ok-begin_walk.walk)
    c.in-Ok-Some.start c.in-Some.geometry c.in-Ok.ensures
    (rw c.in-Ok-Some.field-0-is at c.in-Ok-Some.ensures) (sym c.in-Some.ensures.current) c.in-Some.ensures.in_range
    (subst (λ h. IsFresh g.S.BlockSink.sink h (walking c.in-Ok-begin_walk.walk)) c.placed-tallest.ensures c.in-Ok-begin_walk.ensures)

pub pass_all-requires-clause-room : goal.pass_all-requires-clause-room
pass_all-requires-clause-room g c = room_shorter c.in-Ok-new.ensures.room (shorter_same c.in-Ok-begin_walk.ensures.geometry) refl refl

pub returns-in_default-geometry-2 : goal.returns-in_default-geometry-2
returns-in_default-geometry-2 g c =
    absurd (let no : false ≡ true = ap is_some (sym c.in_default-geometry-2.is ∙ c.geometry-2.ensures.current) ∙ c.in-Ok-pass_all.ensures.image in
    false≢true no)

pub returns-in-Err-pass_all : goal.returns-in-Err-pass_all
returns-in-Err-pass_all g c =
    let k = g.S.BlockSink.sink in
    let w = run_of c.args.wish.now (g.X.Port.outside c.args.port.now) in
    let found = found_one k w (g.X.Port.outside c.find_next.new.port) c.in-Ok.assembly c.find_next.new.assembly c.in-Ok-Some.start c.in-Ok.ensures
    (rw c.in-Ok-Some.field-0-is at c.in-Ok-Some.ensures) in
    let few = rw c.pixels_reached-pixels.ensures at c.if-pixels-wish.false in
    let arrives = first_arrives k w (g.X.Port.outside c.find_next.new.port) c.find_next.new.assembly (walking c.in-Ok-begin_walk.walk) c.in-Ok-Some.start _
    c.in-Some.geometry found c.in-Ok-begin_walk.ensures (sym c.in-Some.ensures.current) few in
    let faults = finds_faults c.in-Ok.assembly c.find_next.new.assembly _ c.in-Ok-Some.ensures in
    walk_fails k c.args.wish.now (g.X.Port.outside c.args.port.now) (g.X.Port.outside c.find_next.new.port) (g.X.Port.outside c.pass_all.new.port)
    faults.reads faults.writes
    c.in-Err-pass_all.fault c.in-Err-pass_all.ensures.passes (c.in-Err-pass_all.ensures.runs w (sym c.in-Ok-new.ensures.pixels)
    (sym c.in-Ok-new.ensures.texts) arrives)

pub returns : goal.returns
returns g c =
    let k = g.S.BlockSink.sink in
    let w = run_of c.args.wish.now (g.X.Port.outside c.args.port.now) in
    let found = found_one k w (g.X.Port.outside c.find_next.new.port) c.in-Ok.assembly c.find_next.new.assembly c.in-Ok-Some.start c.in-Ok.ensures
    (rw c.in-Ok-Some.field-0-is at c.in-Ok-Some.ensures) in
    let few = rw c.pixels_reached-pixels.ensures at c.if-pixels-wish.false in
    let arrives = first_arrives k w (g.X.Port.outside c.find_next.new.port) c.find_next.new.assembly (walking c.in-Ok-begin_walk.walk) c.in-Ok-Some.start _
    c.in-Some.geometry found c.in-Ok-begin_walk.ensures (sym c.in-Some.ensures.current) few in
    subst (λ walked. Walks k c.args.wish.now (g.X.Port.outside c.args.port.now) (g.X.Port.outside c.pass_all.new.port) (Ok walked)) (sym c.finish.ensures)
    (walk_done k c.args.wish.now (g.X.Port.outside c.args.port.now) (g.X.Port.outside c.pass_all.new.port) (walking c.pass_all.new.walk)
    c.in-Some-geometry.geometry c.pass_all.new.assembly.framing c.framing.result
    (c.in-Ok-pass_all.ensures.runs w (sym c.in-Ok-new.ensures.pixels) (sym c.in-Ok-new.ensures.texts) arrives c.in-Some-geometry.geometry
    (sym c.geometry-2.ensures.current ∙ c.in-Some-geometry.is)) c.framing.ensures.found)
