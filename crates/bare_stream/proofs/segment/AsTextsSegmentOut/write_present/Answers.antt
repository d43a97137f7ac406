use Rattle.std.proofs.Common.{refl, ◌∙◌, arith}
use Rattle.strip_coder.specs.Plans.{job_of}
use Rattle.strip_coder.proofs.SegmentSteps.{some_filled, few_filled}
use Rattle.strip_coder.proofs.SegmentCounts.{segments_few}
use Rattle.bare_stream.specs.Works.{texts}
use Rattle.bare_stream.proofs.Presents.{texts_out, texts_cut}
use Rattle.bare_stream.proofs.segment.AsTextsSegmentOut.write_present.Goals as goal

pub write_segment-requires-clause-some : goal.write_segment-requires-clause-some
write_segment-requires-clause-some g c = some_filled (job_of texts c.args.plan.now) c.args.work.now c.requires.in_range c.requires.full

pub write_segment-requires-clause-most : goal.write_segment-requires-clause-most
write_segment-requires-clause-most g c = few_filled (job_of texts c.args.plan.now) c.args.work.now c.requires.in_range c.requires.full

pub returns-in_default : goal.returns-in_default
returns-in_default g c =
    texts_cut c.args.plan.now c.args.work.now _ c.requires.in_range c.requires.full
    (record { strip = refl; row = refl; blocks = c.in_default.ensures.most; writer = refl; room = refl }) refl c.in_default.ensures.text

pub overflow_add-work : goal.overflow_add-work
overflow_add-work g c =
    let few = segments_few (job_of texts c.args.plan.now) c.args.work.now.at.index c.requires.in_range c.requires.full.index in
    omega (arith, few)

pub overflow_add-work-2 : goal.overflow_add-work-2
overflow_add-work-2 g c =
    let few = segments_few (job_of texts c.args.plan.now) c.args.work.now.at.index c.requires.in_range c.requires.full.index in
    let used = c.requires.full.ready.1 in
    let octets = c.in-Ok.ensures.text.few in
    omega (arith, few, used, octets)

pub returns : goal.returns
returns g c =
    texts_out c.args.plan.now c.args.work.now _ c.requires.in_range c.requires.full
    (record { strip = refl; row = refl; blocks = c.clear.ensures.most ∙ c.in-Ok.ensures.most; writer = refl; room = refl }) refl
    c.in-Ok.octets c.clear.ensures.numbers refl refl refl refl c.in-Ok.ensures.text
