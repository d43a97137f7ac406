use Rattle.std.proofs.Common.{◌≡◌, ◌+◌, ◌%◌, ◌∙◌, length, sym, ap, arith}
use Rattle.wave_defs.specs.Held.{blocks_in}
use Rattle.block_masks.specs.Slices.{numbers_in}
use Rattle.plane_defs.specs.Marks.{depths_of}
use Rattle.plane_reader.specs.Blocks.{terms_of}
use Rattle.plane_reader.proofs.PlaneReads.{blocks_now, settled_numbers, ready_next, await_next, below_next, signs_read, plane_settled}
use Rattle.plane_reader.proofs.plane.take_plane.Goals as goal

pub returns-clause-plane : goal.returns-clause-plane
returns-clause-plane g c =
    let plan = c.args.terms.now.plan.now in
    let cells = c.args.cells.now in
    let depths = depths_of c.args.marks.now in
    let numbers = blocks_in (numbers_in cells) in
    let t = terms_of plan c.args.terms.now.tables.now.words.book in
    let x = c.take_stages-read.ensures in
    let s = x.stages in
    let mid = c.take_stages-read.new.cells in
    let result = c.take_stages-read.result in
    let even : length cells % 64 ≡ 0 = omega (arith, c.requires.whole) in
    let same = blocks_now plan.plane cells plan.low even c.requires.ready mid x.keeps s.now s.has s.dcs in
    let signs = signs_read t depths numbers (c.args.last + 1) s.now result s.read in
    let settled = settled_numbers plan.plane cells plan.low even c.requires.ready mid x.keeps s.now s.has signs c.settle_above.new.cells
    c.settle_above.ensures in
    plane_settled plan.low s (same ∙ ap blocks_in (sym settled)) c.settle_above.ensures

pub returns-clause-below : goal.returns-clause-below
returns-clause-below g c = λ planes over below. below_next c.args.terms.now.plan.now.low over c.take_stages-read.ensures.keeps c.settle_above.ensures below

pub returns-clause-ready : goal.returns-clause-ready
returns-clause-ready g c =
    let plan = c.args.terms.now.plan.now in
    let cells = c.args.cells.now in
    let depths = depths_of c.args.marks.now in
    let numbers = blocks_in (numbers_in cells) in
    let t = terms_of plan c.args.terms.now.tables.now.words.book in
    let x = c.take_stages-read.ensures in
    let s = x.stages in
    let mid = c.take_stages-read.new.cells in
    let even : length cells % 64 ≡ 0 = omega (arith, c.requires.whole) in
    let signs = signs_read t depths numbers (c.args.last + 1) s.now c.take_stages-read.result s.read in
    ready_next plan.plane cells plan.low even c.requires.ready mid x.keeps s.now s.has signs c.settle_above.new.cells c.settle_above.ensures

pub returns-clause-dcs : goal.returns-clause-dcs
returns-clause-dcs g c =
    let plan = c.args.terms.now.plan.now in
    let cells = c.args.cells.now in
    let depths = depths_of c.args.marks.now in
    let numbers = blocks_in (numbers_in cells) in
    let t = terms_of plan c.args.terms.now.tables.now.words.book in
    let x = c.take_stages-read.ensures in
    let s = x.stages in
    let mid = c.take_stages-read.new.cells in
    let even : length cells % 64 ≡ 0 = omega (arith, c.requires.whole) in
    let same = blocks_now plan.plane cells plan.low even c.requires.ready mid x.keeps s.now s.has s.dcs in
    let signs = signs_read t depths numbers (c.args.last + 1) s.now c.take_stages-read.result s.read in
    let settled = settled_numbers plan.plane cells plan.low even c.requires.ready mid x.keeps s.now s.has signs c.settle_above.new.cells
    c.settle_above.ensures in
    await_next plan.plane plan.q numbers s.now c.requires.dcs (same ∙ ap blocks_in (sym settled))
