use Rattle.std.proofs.Common.{◌∙◌, arith}
use Rattle.std.proofs.lemmas.Result.{err_from_is_err_and}
use Rattle.std.proofs.lemmas.Grind.{common_steps}
use Rattle.item_defs.specs.Items.{text}
use Rattle.bit_pipe.proofs.Putting.{adds_start, puts_whole, puts_then, puts_cut}
use Rattle.wave_defs.specs.Held.{blocks_in}
use Rattle.segment_code.specs.CodedParts.{coded_planes}
use Rattle.segment_code.proofs.Parts.{rest_none, rest_parts}
use Rattle.segment_code.proofs.DepthMarks.{are_depths, depths_put}
use Rattle.segment_code.proofs.Holding.{plain_marks, held_plain}
use Rattle.segment_code.proofs.encode.put_rest.Goals as goal

pub returns-then-head-clause-puts : goal.returns-then-head-clause-puts
returns-then-head-clause-puts g c = grind (arith, common_steps, rest_none, puts_whole, adds_start)

pub put_depths-requires-clause-depths : goal.put_depths-requires-clause-depths
put_depths-requires-clause-depths g c =
    let plain = rw c.blocks-2.view_is at (plain_marks c.blocks-2.invariant c.deref_mut.result.now c.reset_marks.new.marks c.deref_mut.ensures.value
    c.reset_marks.ensures) in
    rw (c.deref.ensures.value ∙ plain) (are_depths (blocks_in c.args.blocks.now.numbers) c.args.head.now.depth_ac c.requires.ac)

pub invariant_of-blocks : goal.invariant_of-blocks
invariant_of-blocks g c = held_plain c.blocks-2.invariant c.deref_mut.result.now c.reset_marks.new.marks c.deref_mut.ensures.value c.reset_marks.ensures

pub invariant_of-blocks-2 : goal.invariant_of-blocks-2
invariant_of-blocks-2 g c = held_plain c.blocks-2.invariant c.deref_mut.result.now c.reset_marks.new.marks c.deref_mut.ensures.value c.reset_marks.ensures

pub returns-in_err-put_depths-clause-puts : goal.returns-in_err-put_depths-clause-puts
returns-in_err-put_depths-clause-puts g c =
    let h = c.args.head.now in
    let blocks = blocks_in c.args.blocks.now.numbers in
    let e = err_from_is_err_and c.from_residual.result c.from_residual.ensures.1 in
    let plain = rw c.blocks-2.view_is at (plain_marks c.blocks-2.invariant c.deref_mut.result.now c.reset_marks.new.marks c.deref_mut.ensures.value
    c.reset_marks.ensures) in
    let same = depths_put c.args.tables.now.book h blocks c.deref.result.now _ (c.deref.ensures.value ∙ plain) c.select_of.ensures in
    rw (e.1, e.2) (rw (rest_parts c.args.tables.now.book h blocks c.if-head.false)
    (puts_cut (text (coded_planes c.args.tables.now.book h blocks h.depth_ac)) (rw same at c.in_err-put_depths.ensures)))

pub returns-clause-puts : goal.returns-clause-puts
returns-clause-puts g c =
    let h = c.args.head.now in
    let blocks = blocks_in c.args.blocks.now.numbers in
    let plain = rw c.blocks-2.view_is at (plain_marks c.blocks-2.invariant c.deref_mut.result.now c.reset_marks.new.marks c.deref_mut.ensures.value
    c.reset_marks.ensures) in
    let same = depths_put c.args.tables.now.book h blocks c.deref.result.now _ (c.deref.ensures.value ∙ plain) c.select_of.ensures in
    let planes = rw c.blocks-2.view_is at c.put_planes.ensures.puts in
    rw (rest_parts c.args.tables.now.book h blocks c.if-head.false) (puts_then (rw same at c.in_ok-put_depths.ensures.ends) planes)
