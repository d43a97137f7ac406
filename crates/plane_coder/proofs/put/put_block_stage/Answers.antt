use Rattle.std.proofs.Common.{ap, sym, ◌∙◌, subst, Ok}
use Rattle.bit_pipe.specs.SinkState.{sink_state}
use Rattle.plane_defs.specs.declared.stages.Stage.TheVariants as stages
use Rattle.wave_defs.specs.Held.{block_at}
use Rattle.plane_defs.specs.Entries.{block_entries, refinement}
use Rattle.plane_coder.specs.Spells.{Spells}
use Rattle.plane_coder.proofs.Spelling.{spells_none}
use Rattle.plane_coder.proofs.BlockStages.{first_stage, last_stage, shallow, spells_deep, deep_refinement}
use Rattle.plane_coder.proofs.put.put_block_stage.Goals as goal

pub returns-then-this-eq0-clause-spells : goal.returns-then-this-eq0-clause-spells
returns-then-this-eq0-clause-spells g c book =
    let p = c.args.view.now.plan.now in
    let block = block_at c.args.view.now.segment.now.numbers c.args.r in
    rw (first_stage g.row.STAGE block p.weights.shifts p.plane p.q c.args.depth c.if-this-eq0.true) (c.put_dc_bit.ensures book c.args.pending.now.gaggle)

pub returns-then-depth-view-clause-spells : goal.returns-then-depth-view-clause-spells
returns-then-depth-view-clause-spells g c book =
    let k = g.O.OctetOut.sink in
    let p = c.args.view.now.plan.now in
    let a = c.args.pending.now.gaggle in
    let block = block_at c.args.view.now.segment.now.numbers c.args.r in
    let is = last_stage g.row.STAGE c.requires.stage c.if-this-eq0.false in
    let none = ap (λ s. block_entries s block c.args.depth p.weights.shifts p.plane p.q) is ∙ shallow stages.Refinement block p.weights.shifts p.plane p.q
    c.args.depth (λ e. absurd cc) c.if-depth-view.true in
    subst (λ l. Spells k book a a (Ok tt) (sink_state k c.args.out.now) (sink_state k c.args.out.now) l) (sym none) (spells_none a _ c.requires.«open»)

pub returns-clause-spells : goal.returns-clause-spells
returns-clause-spells g c book =
    let plan = c.args.view.now.plan.now in
    let block = block_at c.args.view.now.segment.now.numbers c.args.r in
    let is = last_stage g.row.STAGE c.requires.stage c.if-this-eq0.false in
    rw is (spells_deep refinement stages.Refinement block _ plan _ c.args.depth deep_refinement c.plane_masks.ensures.block c.plane_masks.ensures.plan
    c.if-depth-view.false (c.put_refinement.ensures.spells book))
