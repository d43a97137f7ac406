use Rattle.std.proofs.Common.{◌≤◌, ◌+◌, ◌*◌, arith, mul-le-mul}
use Rattle.std.proofs.Math.Nat.{div-le_self}
use Rattle.encoder_rows.proofs.room.end_room.Goals as goal

pub returns-clause-few : goal.returns-clause-few
returns-clause-few c =
    let width = c.requires.in_range.width in
    let few = c.segment_room.ensures.few in
    let columns : c.from-columns.result ≤ 131072 = omega (arith, width, c.div_ceil.ensures, c.from-columns.ensures) in
    let parts : c.div_ceil-2.result + 1 ≤ 524290 = omega (arith, columns, c.div_ceil-2.ensures, div-le_self (4 * c.from-columns.result) c.from.result) in
    let most : (c.div_ceil-2.result + 1) * c.segment_room.result ≤ 524290 * 8589934592 =
    mul-le-mul {m₁ = c.segment_room.result} {m₂ = 8589934592} parts (omega (arith, few)) in
    omega (arith, most)
