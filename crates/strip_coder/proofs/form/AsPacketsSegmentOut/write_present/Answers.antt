use Rattle.std.proofs.Common.{refl, ◌∙◌, arith}
use Rattle.strip_coder.specs.Plans.{packed}
use Rattle.strip_coder.proofs.SegmentSteps.{some_filled, few_filled, packets_out, packets_cut}
use Rattle.strip_coder.proofs.SegmentCounts.{segments_few}
use Rattle.strip_coder.proofs.form.AsPacketsSegmentOut.write_present.Goals as goal

pub write_segment-requires-clause-some : goal.write_segment-requires-clause-some
write_segment-requires-clause-some g c = some_filled (packed c.args.plan.now) c.args.work.now c.requires.in_range c.requires.full

pub write_segment-requires-clause-most : goal.write_segment-requires-clause-most
write_segment-requires-clause-most g c = few_filled (packed c.args.plan.now) c.args.work.now c.requires.in_range c.requires.full

pub write_segment-requires-clause-texts : goal.write_segment-requires-clause-texts
write_segment-requires-clause-texts g c =
    let few = segments_few (packed c.args.plan.now) c.args.work.now.at.index c.requires.in_range c.requires.full.index in
    let texts = c.requires.full.ready.1 in
    omega (arith, few, texts)

pub returns-in_default : goal.returns-in_default
returns-in_default g c =
    let w = c.args.work.now in
    packets_cut c.args.plan.now w _ c.requires.in_range c.requires.full (record {
      strip = refl;
      row = refl;
      blocks = c.in_default.ensures.most;
      writer = refl;
      room =
          refl;
    }) c.in_default.ensures.text

pub overflow_add-work : goal.overflow_add-work
overflow_add-work g c =
    let few = segments_few (packed c.args.plan.now) c.args.work.now.at.index c.requires.in_range c.requires.full.index in
    omega (arith, few)

pub returns : goal.returns
returns g c =
    let w = c.args.work.now in
    packets_out c.args.plan.now w _ c.requires.in_range c.requires.full (record {
      strip = refl;
      row = refl;
      blocks = c.clear.ensures.most ∙ c.in-Ok.ensures.most;
      writer =
          refl;
      room = refl;
    }) c.in-Ok.octets c.clear.ensures.numbers refl refl refl c.saturating_add-work.ensures c.in-Ok.ensures.text
