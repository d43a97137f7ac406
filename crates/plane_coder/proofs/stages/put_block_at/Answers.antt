use Rattle.std.proofs.Common.{arith, rules, ◌≡◌, FitsSigned, w32, get_or, pos, subst}
use Rattle.std.proofs.lemmas.Int.{to_z-of_z}
use Rattle.bit_pipe.specs.SinkState.{sink_state}
use Rattle.plane_defs.specs.Entries.{stage_number}
use Rattle.plane_defs.specs.Marks.{depth_of}
use Rattle.plane_coder.specs.Spells.{Spells}
use Rattle.plane_coder.proofs.BlockReads.{stage_there}
use Rattle.plane_coder.proofs.stages.put_block_at.Goals as goal

pub returns-clause-spells : goal.returns-clause-spells
returns-clause-spells g c =
    let fits : FitsSigned w32 (get_or c.args.marks.now c.args.r (pos 0)) = search rules in
    let depth : c.depth_of.result ≡ depth_of (get_or c.args.marks.now c.args.r (pos 0)) = simp to_z-of_z at c.depth_of.ensures.value in
    let view = c.args.view.now in
    let plan = view.plan.now in
    let is = stage_there (stage_number g.row.STAGE) view.segment.now.numbers c.args.marks.now plan.weights.shifts plan.plane plan.q c.args.r
    c.depth_of.result c.requires.whole (omega (arith, c.requires.block, c.requires.whole)) depth in
    let k = g.O.OctetOut.sink in
    subst (λ l. Spells k view.tables.now.book c.args.pending.now.gaggle c.put_block_stage.new.pending.gaggle c.put_block_stage.result
    (sink_state k c.args.out.now) (sink_state k c.put_block_stage.new.out) l) is (c.put_block_stage.ensures.spells view.tables.now.book)
