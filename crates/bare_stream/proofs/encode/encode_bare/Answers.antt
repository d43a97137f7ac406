use Rattle.std.proofs.Common.{refl}
use Rattle.base_122.proofs.GeometryRanges.{in_range-image_geometry}
use Rattle.bare_stream.proofs.Counts.{rows_in}
use Rattle.bare_stream.proofs.Runs.{run_done, run_long, run_unread}
use Rattle.bare_stream.proofs.encode.encode_bare.Goals as goal

pub segments-requires : goal.segments-requires
segments-requires g c =
    let s = c.args.setting.now in
    rw c.geometry_for.ensures (in_range-image_geometry s s.rows c.requires.in_range
    (rows_in s (record { in_range = c.requires.in_range; known = c.requires.known; no_total = c.requires.no_total })))

pub returns-in-Ok-true-clause-encodes : goal.returns-in-Ok-true-clause-encodes
returns-in-Ok-true-clause-encodes g c =
    run_done c.args.setting.now (record { in_range = c.requires.in_range; known = c.requires.known; no_total = c.requires.no_total })
    (g.X.Port.outside c.args.port.now) (g.X.Port.outside c.write_texts.new.port) c.write_texts.new.work c.in_ok-write_texts.ensures.texts _
    (rw c.geometry_for.ensures at c.segments.ensures) refl refl
    (rw c.in-Ok-true.field-0-test at c.in-Ok-true.ensures)

pub returns-in-Ok-false-clause-encodes : goal.returns-in-Ok-false-clause-encodes
returns-in-Ok-false-clause-encodes g c =
    run_long c.args.setting.now (record { in_range = c.requires.in_range; known = c.requires.known; no_total = c.requires.no_total })
    (g.X.Port.outside c.args.port.now) (g.X.Port.outside c.write_texts.new.port) c.write_texts.new.work c.in_ok-write_texts.ensures.texts
    (rw c.in-Ok-false.field-0-test at c.in-Ok-false.ensures)

pub returns-in-Err-clause-encodes : goal.returns-in-Err-clause-encodes
returns-in-Err-clause-encodes g c =
    run_unread c.args.setting.now (record { in_range = c.requires.in_range; known = c.requires.known; no_total = c.requires.no_total })
    (g.X.Port.outside c.args.port.now) (g.X.Port.outside c.write_texts.new.port) c.write_texts.new.work c.in_ok-write_texts.ensures.texts c.in-Err.ensures
