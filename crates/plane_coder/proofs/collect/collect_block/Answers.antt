use Rattle.std.proofs.Common.{arith, rules, ◌≡◌, ap, FitsSigned, w32, get_or, pos, sym, ◌∙◌}
use Rattle.std.proofs.lemmas.Int.{to_z-of_z}
use Rattle.plane_defs.specs.declared.stages.Stage.{Stage}
use Rattle.plane_defs.specs.declared.stages.Stage.TheVariants as stages
use Rattle.plane_defs.specs.Entries.{block_entries}
use Rattle.block_masks.specs.declared.plan.CodedPlane.{CodedPlane}
use Rattle.plane_defs.specs.Marks.{depth_of}
use Rattle.wave_defs.specs.Held.{block_at}
use Rattle.plane_coder.proofs.Listing.{lists_nothing}
use Rattle.plane_coder.proofs.Collecting.{collects_same}
use Rattle.plane_coder.proofs.BlockReads.{stage_there}
use Rattle.plane_coder.proofs.BlockStages.{shallow}
use Rattle.plane_coder.proofs.collect.collect_block.Goals as goal

pub returns-then-depth-view : goal.returns-then-depth-view
returns-then-depth-view g c =
    let fits : FitsSigned w32 (get_or c.args.marks.now c.args.r (pos 0)) = search rules in
    let depth : c.depth_of-depth.result ≡ depth_of (get_or c.args.marks.now c.args.r (pos 0)) = simp to_z-of_z at c.depth_of-depth.ensures.value in
    let numbers = c.args.view.now.segment.now.numbers in
    let plan = c.args.view.now.plan.now in
    let d = c.depth_of-depth.result in
    let block = block_at numbers c.args.r in
    let w = plan.weights.shifts in
    let there = λ (s : Stage). stage_there s numbers c.args.marks.now w plan.plane plan.q c.args.r d c.requires.whole
    (omega (arith, c.requires.block, c.requires.whole)) depth in
    record {
      parents = lists_nothing c.args.words.now.parents _ 1 (sym (shallow stages.Parents block w plan.plane plan.q d (λ e. absurd cc) c.if-depth-view.true) ∙
          there stages.Parents);
      children = lists_nothing c.args.words.now.children _ 5
          (sym (shallow stages.Children block w plan.plane plan.q d (λ e. absurd cc) c.if-depth-view.true) ∙ there stages.Children);
      grandchildren = lists_nothing c.args.words.now.grandchildren _ 16
          (sym (shallow stages.Grandchildren block w plan.plane plan.q d (λ e. absurd cc) c.if-depth-view.true) ∙ there stages.Grandchildren);
    }

pub returns : goal.returns
returns g c =
    let fits : FitsSigned w32 (get_or c.args.marks.now c.args.r (pos 0)) = search rules in
    let depth : c.depth_of-depth.result ≡ depth_of (get_or c.args.marks.now c.args.r (pos 0)) = simp to_z-of_z at c.depth_of-depth.ensures.value in
    let numbers = c.args.view.now.segment.now.numbers in
    let plan = c.args.view.now.plan.now in
    let made = c.plane_masks.result.plan.now in
    let d = c.depth_of-depth.result in
    let there = λ (s : Stage). stage_there s numbers c.args.marks.now plan.weights.shifts plan.plane plan.q c.args.r d c.requires.whole
    (omega (arith, c.requires.block, c.requires.whole)) depth in
    collects_same (λ s.
    ap (λ b. block_entries s b d made.weights.shifts made.plane made.q) c.plane_masks.ensures.block
    ∙ ap (λ (p : CodedPlane). block_entries s (block_at numbers c.args.r) d p.weights.shifts p.plane p.q) c.plane_masks.ensures.plan ∙ there s)
    c.add_block.ensures
