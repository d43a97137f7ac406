use Rattle.strip_coder.specs.Plans.{packed, whole}
use Rattle.bare_stream.proofs.Presents.{head_made}
use Rattle.bare_stream.proofs.segment.write_segment.Goals as goal

pub returns-clause-text : goal.returns-clause-text
returns-clause-text g c =
    let depths = c.depths-depths in
    let head = head_made (whole (packed c.args.plan.now)) c.args.index _ depths.result.0 depths.result.1 c.make_head-head.result c.args.blocks.now.numbers
    c.make_head-head.ensures c.len.ensures depths.ensures.dc depths.ensures.ac in
    let before = rw (depths.ensures.dc, depths.ensures.ac) at c.parts_before.ensures in
    rw (c.requires.book, head, before) at c.write_text.ensures.text
