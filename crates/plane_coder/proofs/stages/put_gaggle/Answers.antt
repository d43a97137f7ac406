use Rattle.std.proofs.Common.{◌≤◌, ◌+◌, ap, ◌∙◌, sym, subst, arith, length}
use Rattle.bit_pipe.specs.SinkState.{sink_state, Puts}
use Rattle.block_masks.specs.declared.gaggle.Gaggle.{Gaggle}
use Rattle.block_masks.specs.Gaggles.{Agrees}
use Rattle.plane_defs.specs.Marks.{depths_of}
use Rattle.plane_defs.specs.Planes.{before_stage}
use Rattle.plane_coder.specs.Kept.{free_at, bits_between, octet_in}
use Rattle.plane_coder.specs.Views.{plane_in}
use Rattle.plane_coder.proofs.Sending.{stage_put}
use Rattle.plane_coder.proofs.GaggleMasks.{length-free_at}
use Rattle.plane_coder.proofs.Spelling.{on_ok, puts_open}
use Rattle.plane_coder.proofs.stages.put_gaggle.Goals as goal

pub returns-then-this-eq0 : goal.returns-then-this-eq0
returns-then-this-eq0 g c = stage_put c.put_blocks.ensures

pub returns-in_default : goal.returns-in_default
returns-in_default g c = stage_put c.put_again.ensures

pub put_kept-requires-clause-whole : goal.put_kept-requires-clause-whole
put_kept-requires-clause-whole g c = ap length c.in-Some.ensures.free ∙ length-free_at c.args.view.now.kept.now c.args.g c.in-Some.ensures.full

pub returns : goal.returns
returns g c =
    let k = g.O.OctetOut.sink in
    let number = g.row.STAGE in
    let masks = free_at c.args.view.now.kept.now c.args.g in
    let p = plane_in c.args.view.now (depths_of c.args.marks.now) in
    let at = c.in-Some.ensures in
    let room : octet_in masks number ≤ 32 = omega (arith, at.to, at.room) in
    let kept = (c.requires.kept at.full).at number (omega (arith, c.if-this-eq0.false)) (omega (arith, c.requires.stage, c.if-this-eq4.false)) room in
    let bits = (λ i. bits_between (at.free i) (at.from i) (at.to i)) ∙ kept.bits in
    let sent = ap (λ (h : Gaggle). h.sent) c.new.ensures.gaggle ∙ at.sent in
    record {
      puts = λ agrees. subst (Puts {T = Unit {0}} k c.put_kept.result (sink_state k c.args.out.now) (sink_state k c.put_kept.new.out)) bits c.put_kept.ensures;
      agrees = λ agrees. on_ok c.put_kept.result (subst (λ f. Agrees f (before_stage p (number + 1) c.args.g)) (sym sent) kept.flags);
      is_open = puts_open c.put_kept.result (sink_state k c.args.out.now) (sink_state k c.put_kept.new.out) _ c.requires.«open» c.put_kept.ensures;
      options = ap (λ (h : Gaggle). h.options) c.new.ensures.gaggle;
    }
