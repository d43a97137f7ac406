use Rattle.std.proofs.Common.{◌≡◌, ◌*◌, ◌<◌, refl, subst, arith, Ok, flat_map}
use Rattle.std.proofs.lemmas.Result.{err_from_is_err_and}
use Rattle.bit_pipe.specs.SinkState.{sink_state}
use Rattle.plane_defs.specs.Entries.{stage_number}
use Rattle.plane_defs.specs.Spans.{span}
use Rattle.plane_defs.specs.Planes.{of_block, gaggle_size}
use Rattle.plane_defs.specs.Marks.{depths_of}
use Rattle.plane_coder.specs.Spells.{Spells}
use Rattle.plane_coder.specs.Views.{plane_in}
use Rattle.block_masks.proofs.Marking.{length-depths_of}
use Rattle.plane_coder.proofs.Sending.{none_spelled, more_spelled, spelled_ended}
use Rattle.plane_coder.proofs.stages.put_blocks.Goals as goal

pub loop-place-init : goal.loop-place-init
loop-place-init g c =
    let f = of_block (plane_in c.args.view.now (depths_of c.args.marks.now)) (stage_number g.row.STAGE) in
    record { so_far = none_spelled f (16 * c.args.g) _ _ c.requires.«open»; is_open = c.requires.«open»; silent = c.requires.silent }

pub loop-place-preserved : goal.loop-place-preserved
loop-place-preserved g c =
    let i = c.loop-place.invariant in
    let f = of_block (plane_in c.args.view.now (depths_of c.args.marks.now)) (stage_number g.row.STAGE) in
    let p = c.in_ok-put_block_at.ensures.spells in
    record {
      so_far = more_spelled f (16 * c.args.g) c.loop-place.place _ refl i.so_far p;
      is_open = p.is_open;
      silent = c.in_ok-put_block_at.ensures.silent;
    }

pub returns-in_err-put_block_at : goal.returns-in_err-put_block_at
returns-in_err-put_block_at g c =
    let p = err_from_is_err_and c.from_residual.result c.from_residual.ensures.1 in
    let plane = plane_in c.args.view.now (depths_of c.args.marks.now) in
    let below : c.loop-place.place < gaggle_size plane c.args.g =
    omega (arith, c.min-place-end.ensures, c.loop-place-test.true, length-depths_of c.args.marks.now) in
    let f = of_block plane (stage_number g.row.STAGE) in
    rw (p.1, p.2)
    (spelled_ended f (16 * c.args.g) c.loop-place.place (gaggle_size plane c.args.g) _ below refl c.loop-place.invariant.so_far
    c.in_err-put_block_at.ensures.spells)

pub returns : goal.returns
returns g c =
    let plane = plane_in c.args.view.now (depths_of c.args.marks.now) in
    let all : c.loop-place.place ≡ gaggle_size plane c.args.g =
    omega (arith, c.min-place-end.ensures, c.loop-place-test.false, c.loop-place.auto.place-end, length-depths_of c.args.marks.now) in
    subst (λ n. Spells g.O.OctetOut.sink c.args.view.now.tables.now.book c.args.pending.now.gaggle c.loop-place.pending.gaggle (Ok tt)
    (sink_state g.O.OctetOut.sink c.args.out.now) (sink_state g.O.OctetOut.sink c.loop-place.out)
    (flat_map (of_block plane (stage_number g.row.STAGE)) (span (16 * c.args.g) n))) all c.loop-place.invariant.so_far
