use Rattle.std.proofs.Common.{arith, ap, subst, sym, ◌≡◌, ◌+◌, ◌-◌, ◌*◌}
use Rattle.stream_defs.specs.Agreement.{blocks_of}
use Rattle.strip_decoder.specs.Sinks.{IsBlock}
use Rattle.strip_decoder.specs.WalkSteps.{walking, held}
use Rattle.strip_decoder.proofs.BlockSteps.{none_passed, passed_then, failed_then, passes_failed}
use Rattle.strip_decoder.proofs.blocks.put_blocks.Goals as goal

pub loop-place-init : goal.loop-place-init
loop-place-init g c = none_passed g.S.BlockSink.sink (held c.args.blocks.now) (walking c.args.walk.now) (g.X.Port.outside c.args.port.now) c.requires.current

pub give_block-requires-clause-current : goal.give_block-requires-clause-current
give_block-requires-clause-current g c = c.loop-place.invariant.current

pub give_block-requires-clause-room : goal.give_block-requires-clause-room
give_block-requires-clause-room g c = let total = ap blocks_of c.loop-place.invariant.geometry in omega (
  arith,
  total,
  c.loop-place.invariant.count,
  c.loop-place-test.true,
  c.requires.room,
)

pub give_block-requires-clause-fits : goal.give_block-requires-clause-fits
give_block-requires-clause-fits g c =
    let block : 64 * c.loop-place.place + 64 - 64 * c.loop-place.place ≡ 64 = omega arith in
    rw block (subst (λ g'. IsBlock g' (held c.args.blocks.now c.loop-place.place)) (sym c.loop-place.invariant.geometry)
    (c.requires.parts.at c.loop-place.place c.loop-place-test.true))

pub returns-in_err-give_block : goal.returns-in_err-give_block
returns-in_err-give_block g c =
    let block : 64 * c.loop-place.place + 64 - 64 * c.loop-place.place ≡ 64 = omega arith in
    passes_failed g.S.BlockSink.sink c.from_residual.result (held c.args.blocks.now) c.args.count _ c.from_residual.ensures.0
    (failed_then g.S.BlockSink.sink (held c.args.blocks.now) c.loop-place.place (walking c.args.walk.now) (walking c.loop-place.walk) c.loop-place.invariant
    {c = g.X.Port.outside c.give_block.new.port} c.args.count c.loop-place-test.true (rw block at c.in_err-give_block.ensures))

pub loop-place-preserved : goal.loop-place-preserved
loop-place-preserved g c =
    let block : 64 * c.loop-place.place + 64 - 64 * c.loop-place.place ≡ 64 = omega arith in
    passed_then g.S.BlockSink.sink (held c.args.blocks.now) c.loop-place.place (walking c.args.walk.now) (walking c.loop-place.walk) c.loop-place.invariant
    {c = g.X.Port.outside c.give_block.new.port} (walking c.give_block.new.walk) (rw block at c.in_ok-give_block.ensures)
