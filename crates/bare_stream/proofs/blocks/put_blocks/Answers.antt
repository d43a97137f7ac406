use Rattle.std.proofs.Common.{arith, ap, subst, sym, ◌≡◌, ◌+◌, ◌-◌, ◌*◌}
use Rattle.base_122.specs.declared.geometry.Geometry.{Geometry}
use Rattle.base_122.specs.Sizes.{total_blocks}
use Rattle.block_families.specs.Places.{AreWeighted}
use Rattle.picture_rows.specs.Pictures.{picture_state}
use Rattle.bare_stream.specs.Blocks.{HasPutBlocks}
use Rattle.wave_defs.specs.Held.{block_at}
use Rattle.bare_stream.proofs.BlocksPut.{none_put, put_then, broke_then, puts_failed}
use Rattle.bare_stream.proofs.blocks.put_blocks.Goals as goal

pub loop-place-init : goal.loop-place-init
loop-place-init g c = none_put c.args.blocks.now (picture_state c.args.picture.now) (g.X.Port.outside c.args.port.now) c.requires.current

pub put_block-requires-clause-current : goal.put_block-requires-clause-current
put_block-requires-clause-current g c = c.loop-place.invariant.current

pub put_block-requires-clause-room : goal.put_block-requires-clause-room
put_block-requires-clause-room g c =
    let total = ap (λ (g : Geometry). total_blocks g.width g.rows) c.loop-place.invariant.geometry in omega (
      arith,
      total,
      c.loop-place.invariant.count,
      c.loop-place-test.true,
      c.requires.room,
    )

pub put_block-requires-clause-parts : goal.put_block-requires-clause-parts
put_block-requires-clause-parts g c =
    let block : 64 * c.loop-place.place + 64 - 64 * c.loop-place.place ≡ 64 = omega arith in
    rw block (subst (λ (g' : Geometry). AreWeighted (block_at c.args.blocks.now c.loop-place.place) g'.weights.shifts) (sym c.loop-place.invariant.geometry)
    (c.requires.parts.at c.loop-place.place c.loop-place-test.true))

pub returns-in_err-put_block : goal.returns-in_err-put_block
returns-in_err-put_block g c =
    let block : 64 * c.loop-place.place + 64 - 64 * c.loop-place.place ≡ 64 = omega arith in
    puts_failed c.from_residual.result c.args.blocks.now c.args.count _ c.from_residual.ensures.0
    (broke_then c.args.blocks.now c.loop-place.place (picture_state c.args.picture.now) (picture_state c.loop-place.picture) c.loop-place.invariant {c =
    g.X.Port.outside c.put_block.new.port} c.args.count c.loop-place-test.true c.requires.current c.requires.room (rw block at c.in_err-put_block.ensures))

pub loop-place-preserved : goal.loop-place-preserved
loop-place-preserved g c =
    let block : 64 * c.loop-place.place + 64 - 64 * c.loop-place.place ≡ 64 = omega arith in
    put_then c.args.blocks.now c.loop-place.place (picture_state c.args.picture.now) (picture_state c.loop-place.picture) c.loop-place.invariant {c =
    g.X.Port.outside c.put_block.new.port} (picture_state c.put_block.new.picture) (rw block at c.in_ok-put_block.ensures)

pub returns : goal.returns
returns g c =
    let end = c.loop-place.auto.place-end in
    subst (λ n. HasPutBlocks c.args.blocks.now n (g.X.Port.outside c.args.port.now) (g.X.Port.outside c.loop-place.port) (picture_state c.args.picture.now)
    (picture_state c.loop-place.picture)) (omega (arith, end, c.loop-place-test.false)) c.loop-place.invariant
