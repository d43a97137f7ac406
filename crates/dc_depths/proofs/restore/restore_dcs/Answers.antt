use Rattle.std.proofs.Common.{◌≡◌, ◌≤◌, ◌<◌, ◌*◌, ◌+◌, ◌^◌, ◌+ℤ◌, ℤ, get_or, length, ◌∙◌, arith, pos, w32, to_z, of_z, rules, unsigned_abs}
use Rattle.std.proofs.lemmas.Int.{ints, to_z-of_z, fits_signed_from_abs}
use Rattle.number_defs.proofs.CellPlaces.{place_within}
use Rattle.number_defs.specs.Cells.{cell_at}
use Rattle.dc_depths.proofs.DcCells.{not_set, set_more, set_all}
use Rattle.dc_depths.proofs.Restored.{moved, moved_given}
use Rattle.dc_depths.proofs.restore.restore_dcs.Goals as goal

fits : (a h : ℤ) → unsigned_abs a + 536870912 < 2147483648 → unsigned_abs h ≤ 134217728 → unsigned_abs (a +ℤ h) < 2 ^ 31
fits a h room few = omega (arith, ints, room, few)

pub overflow_add-blocks : goal.overflow_add-blocks
overflow_add-blocks c =
    let at = c.loop-block.block in
    let cells = c.loop-block.blocks in
    let next = moved c.args.plan.now.shift c.q-q.result c.args.reach c.args.blocks.now in
    let place : at * 64 < length c.args.blocks.now = place_within (length c.args.blocks.now) 64 at (omega arith)
    (omega (arith, c.div_ceil-block-end.ensures)) in
    let cell : to_z w32 (of_z w32 (get_or cells (at * 64) (pos 0))) ≡ get_or cells (at * 64) (pos 0) =
    to_z-of_z w32 (get_or cells (at * 64) (pos 0)) (search rules) in
    let half : to_z w32 (of_z w32 c.half_interval.result) ≡ c.half_interval.result = to_z-of_z w32 c.half_interval.result (search rules) in
    let was : get_or cells (at * 64) (pos 0) ≡ cell_at 64 c.args.blocks.now at = c.loop-block.invariant.dcs at place ∙ not_set next at c.args.blocks.now in
    rw (cell, half, was) (fits_signed_from_abs w32 _ (fits (cell_at 64 c.args.blocks.now at) c.half_interval.result (c.requires.room.at at place)
    c.half_interval.ensures.small))

pub loop-block-preserved : goal.loop-block-preserved
loop-block-preserved c =
    let at = c.loop-block.block in
    let cells = c.loop-block.blocks in
    let next = moved c.args.plan.now.shift c.q-q.result c.args.reach c.args.blocks.now in
    let place : at * 64 < length c.args.blocks.now = place_within (length c.args.blocks.now) 64 at (omega arith)
    (omega (arith, c.div_ceil-block-end.ensures)) in
    let cell : to_z w32 (of_z w32 (get_or cells (at * 64) (pos 0))) ≡ get_or cells (at * 64) (pos 0) =
    to_z-of_z w32 (get_or cells (at * 64) (pos 0)) (search rules) in
    let half : to_z w32 (of_z w32 c.half_interval.result) ≡ c.half_interval.result = to_z-of_z w32 c.half_interval.result (search rules) in
    let was : get_or cells (at * 64) (pos 0) ≡ cell_at 64 c.args.blocks.now at = c.loop-block.invariant.dcs at place ∙ not_set next at c.args.blocks.now in
    let is = rw c.low_of.ensures at c.half_interval.ensures.is in
    let sum = to_z-of_z w32 (cell_at 64 c.args.blocks.now at +ℤ c.half_interval.result)
    (fits_signed_from_abs w32 _ (fits (cell_at 64 c.args.blocks.now at) c.half_interval.result (c.requires.room.at at place)
    c.half_interval.ensures.small)) in
    rw (cell, half, was, sum) (set_more next at (cell_at 64 c.args.blocks.now at +ℤ c.half_interval.result) place (is (cell_at 64 c.args.blocks.now at))
    c.loop-block.invariant)

pub returns : goal.returns
returns c = λ given first s lows.
    let next = moved c.args.plan.now.shift c.q-q.result c.args.reach c.args.blocks.now in
    moved_given c.args.plan.now.shift _ c.args.reach given s lows (rw c.q-q.ensures at
    (set_all next c.loop-block.block (omega (arith, c.div_ceil-block-end.ensures)) c.loop-block.invariant))
