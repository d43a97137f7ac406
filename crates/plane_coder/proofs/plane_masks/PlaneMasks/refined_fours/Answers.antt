use Rattle.plane_coder.proofs.plane_masks.PlaneMasks.refined_fours.Goals as goal

pub returns : goal.returns
returns c = record {
  due = c.refined.result;
  bits = c.args.self.now.bits;
  due_shown = c.refined.ensures;
  bits_shown = c.args.self.now.bits_shown;
  paired = c.of.ensures;
}
