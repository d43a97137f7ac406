use Rattle.std.proofs.Common.{ℕ, ◌&&◌, get_or, pos}
use Rattle.plane_defs.specs.Sets.{significant, type_due}
use Rattle.plane_defs.specs.Entries.{negative}
use Rattle.block_masks.proofs.Viewing.{from_zero}
use Rattle.plane_coder.specs.Viewed.{block_in}
use Rattle.plane_coder.proofs.plane_masks.PlaneMasks.types_in.Goals as goal

pub returns : goal.returns
returns c g among =
    let s = c.args.self.now in
    let block = block_in s in
    let plane = s.plan.now.plane in
    let at = c.args.at in
    let count = c.args.count in
    let within = c.requires.within in
    let one = significant block plane in
    let type = type_due block s.plan.now.weights.shifts plane in
    let minus = λ (q : ℕ). negative (get_or block q (pos 0)) in
    let due = c.both-due.ensures.if_known type g at count (from_zero at (c.part.ensures.if_known type 0 64 s.due_shown within)) among in
    let ones = c.both-ones.ensures.if_known (λ p. type p && g p) one at count due (from_zero at (c.part-2.ensures.if_known one 0 64 s.reached_shown within)) in
    let less = c.both-minus.ensures.if_known (λ p. (type p && g p) && one p) minus at count ones
    (from_zero at (c.part-3.ensures.if_known minus 0 64 s.negative_shown within)) in
    record {
      plain = c.except-plain.result;
      ones = c.both-ones.result;
      plain_shown = c.except-plain.ensures.if_known (λ p. ((type p && g p) && one p) && minus p) (λ p. type p && g p) at count less due;
      ones_shown = ones;
      paired = c.of.ensures;
    }
