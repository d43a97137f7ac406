use Rattle.std.proofs.Common.{◌+◌, refl, ap, subst, set, take, map, arith}
use Rattle.std.proofs.lemmas.Int.{to_z-of_z}
use mir.Syntax.{w64}
use Rattle.port_122.specs.Outside.{WritesAll}
use Rattle.raster_rows.specs.Pixels.{clamped, pixel_octets}
use Rattle.quick_look.proofs.RowTakes.{value_taken, row_taken}
use Rattle.quick_look.proofs.row.take_value.Goals as goal

pub returns-then-row : goal.returns-then-row
returns-then-row g c block gives g' n valid within =
    let s = c.args.row.now in
    let now = ap (set s.values.items s.column) (to_z-of_z w64 c.args.value c.ranges.value) in
    value_taken s _ c.args.value (s.column + 1) block gives g' n valid
    (record { depth = refl; signed = refl; shift = refl; columns = refl; column = refl; values = now; wide = refl }) (g.X.Port.outside c.args.port.now) refl
    (omega (arith, c.if-row.true))

pub returns : goal.returns
returns g c block gives g' n valid within =
    let s = c.args.row.now in
    let now = ap (set s.values.items s.column) (to_z-of_z w64 c.args.value c.ranges.value) in
    let out = subst (λ xs. WritesAll c.write_row.result (g.X.Port.outside c.args.port.now) (g.X.Port.outside c.write_row.new.port)
    (pixel_octets s.depth (map (clamped s.depth s.signed) (take s.columns xs)))) c.deref.ensures.value c.write_row.ensures in
    row_taken s _ c.args.value 0 block gives g' n valid
    (record { depth = refl; signed = refl; shift = refl; columns = refl; column = refl; values = now; wide = refl }) c.write_row.result
    (g.X.Port.outside c.args.port.now) (g.X.Port.outside c.write_row.new.port)
    refl (omega (arith, c.if-row.false)) out
