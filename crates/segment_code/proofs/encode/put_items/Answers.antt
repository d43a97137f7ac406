use Rattle.std.proofs.Common.{◌≡◌, ◌∙◌}
use Rattle.std.proofs.lemmas.Result.{err_from_is_err_and}
use Rattle.wave_defs.specs.Held.{blocks_in}
use Rattle.bit_pipe.proofs.Putting.{puts_then, puts_cut}
use Rattle.segment_defs.specs.Depths.{dcs_of}
use Rattle.number_defs.specs.DcPart.{dc_q, dc_bits}
use Rattle.segment_code.proofs.DcFits.{dcs_fit, dcs_in_range, held_dcs}
use Rattle.segment_code.proofs.DcText.{dc_part_bits}
use Rattle.segment_code.proofs.Parts.{text_parts}
use Rattle.segment_code.proofs.encode.put_items.Goals as goal

pub put_dc-requires-clause-fit : goal.put_dc-requires-clause-fit
put_dc-requires-clause-fit g c =
    let p = c.args.plan.now in
    let cells = c.blocks-2.inside.masks.numbers in
    let same : c.blocks-2.inside.masks ≡ c.args.blocks.now = c.blocks-2.view_is in
    dcs_in_range c.dcs.result.now cells c.dcs.ensures.long c.dcs.ensures.dcs _ (dc_bits p.depth_dc p.depth_ac p.shift) (dc_q p.depth_dc p.depth_ac p.shift)
    (dcs_fit cells c.args.head.now.blocks p.depth_dc p.depth_ac p.shift (rw c.requires.plan_dc c.requires.fits.depth_dc.0) (rw same c.requires.count)
    (rw same (c.requires.plan_dc ∙ c.requires.dc)))

pub returns-in_err-put_dc-clause-encodes : goal.returns-in_err-put_dc-clause-encodes
returns-in_err-put_dc-clause-encodes g c =
    let e = err_from_is_err_and c.from_residual.result c.from_residual.ensures.1 in
    let p = c.requires in
    let cells = c.args.blocks.now.numbers in
    let held : c.dcs.result.now ≡ dcs_of (blocks_in cells) = held_dcs c.dcs.result.now cells (rw c.blocks-2.view_is at c.dcs.ensures.long)
    (rw c.blocks-2.view_is at c.dcs.ensures.dcs) in
    let same = dc_part_bits c.args.tables.now.book c.args.head.now cells c.dcs.result.now c.args.plan.now.shift _ held p.plan_shift c.select_of.ensures in
    rw (e.1, e.2) (record {
      puts = rw (text_parts c.args.tables.now.book c.args.head.now (blocks_in cells))
          (puts_cut _ (rw same at (rw (p.plan_dc, p.plan_ac) at c.in_err-put_dc.ensures)));
    })

pub returns-clause-encodes : goal.returns-clause-encodes
returns-clause-encodes g c =
    let p = c.requires in
    let cells = c.args.blocks.now.numbers in
    let held : c.dcs.result.now ≡ dcs_of (blocks_in cells) = held_dcs c.dcs.result.now cells (rw c.blocks-2.view_is at c.dcs.ensures.long)
    (rw c.blocks-2.view_is at c.dcs.ensures.dcs) in
    let same = dc_part_bits c.args.tables.now.book c.args.head.now cells c.dcs.result.now c.args.plan.now.shift _ held p.plan_shift c.select_of.ensures in
    record {
      puts = rw (text_parts c.args.tables.now.book c.args.head.now (blocks_in cells))
          (puts_then (rw same at (rw (p.plan_dc, p.plan_ac) at c.in_ok-put_dc.ensures)).ends c.put_rest.ensures.puts);
    }
