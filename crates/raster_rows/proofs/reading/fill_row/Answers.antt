use Rattle.std.proofs.Common.{rules, arith, ◌≡◌, ◌<◌, ◌-◌, ◌*◌, ℕ, ℤ, Bool, List, min, length, w32, to_z, of_z}
use Rattle.std.proofs.lemmas.Int.{to_z-of_z}
use Rattle.std.proofs.lemmas.Grind.{common_steps}
use borrow.Rule.Slice.PartMut.{put_mid}
use mir.Val.{SFits}
use Rattle.port_122.specs.Outside.{Outside, Read}
use Rattle.raster_rows.specs.Pixels.{pixel_size}
use Rattle.raster_rows.proofs.RowRuns.{RowSoFar, row_start, row_unread, row_short}
use Rattle.raster_rows.proofs.RowSteps.{PieceRead, row_done, row_bad, row_next, buffer_more, left_within}
use Rattle.raster_rows.proofs.reading.fill_row.Goals as goal

pub loop-column-init : goal.loop-column-init
loop-column-init g c =
    row_start c.args.row.form.depth c.args.row.form.signed c.args.row.width (g.X.Port.outside c.args.port.now) c.args.into.now c.args.buffer.now

pub returns-in_default : goal.returns-in_default
returns-in_default g c = row_unread c.args.row.number c.loop-column.invariant c.loop-column-test.true c.in_default.ensures

pub returns-then-count-eq0 : goal.returns-then-count-eq0
returns-then-count-eq0 g c =
    let none : Read _ _ c.read.new.into 0 = rw (c.if-count-eq0.true) at c.in-Ok.ensures in
    row_short c.args.row.number _ c.loop-column.invariant c.loop-column-test.true none (search rules) (search rules)

pub returns : goal.returns
returns g c = row_done c.args.row.number _ c.loop-column.invariant c.loop-column-test.false

-- the piece that was read
piece_of : {depth width column held count left : ℕ} {signed : Bool} {old now new : Outside} {before mid : List ℤ} {buffer piece : List ℕ} (k : ℕ) →
    RowSoFar depth signed width old now before mid buffer column held → column < width → Read now new piece count →
    left ≡ (width - column) * pixel_size depth → length piece ≡ min (left - held) (length buffer - held) → length (put_mid held k buffer piece)
    ≡ length buffer →
    PieceRead depth signed width old now new before mid buffer piece (put_mid held k buffer piece) column held count
piece_of {depth = depth} {width = width} {column = column} {held = held} {count = count} {left = left} {buffer = buffer} {piece = piece} k p lt q left_is
    long same = grind (arith, common_steps, buffer_more, left_within)

pub returns-in-Err : goal.returns-in-Err
returns-in-Err g c =
    let h = c.read.auto.into in
    let fits : SFits w32 c.in-Err.bad.value = search rules in
    row_bad c.args.row.number (to_z w32 (of_z w32 c.in-Err.bad.value))
    (piece_of _ c.loop-column.invariant c.loop-column-test.true c.in-Ok.ensures c.octets.ensures (search rules) (search rules))
    c.pixels-whole.ensures c.in-Err.ensures (to_z-of_z w32 c.in-Err.bad.value fits)

pub loop-column-preserved : goal.loop-column-preserved
loop-column-preserved g c = grind (arith, common_steps, row_next, piece_of)
