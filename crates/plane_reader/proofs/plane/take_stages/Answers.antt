use Rattle.std.proofs.Common.{◌≡◌, ◌+◌, ◌-◌, ◌%◌, ◌∙◌, suc, length, subst, arith, Ok, Err}
use Rattle.std.proofs.lemmas.Result.{err_from_is_err_and}
use Rattle.bit_pipe.specs.declared.fault.Part.TheVariants.{Whole, Ended}
use Rattle.bit_pipe.specs.SourceState.{source_state}
use Rattle.block_masks.proofs.Marking.{length-depths_of}
use Rattle.block_masks.specs.Slices.{numbers_in}
use Rattle.plane_defs.specs.Marks.{depths_of}
use Rattle.plane_defs.specs.PlaneScript.{blocks_script}
use Rattle.wave_defs.specs.Held.{blocks_in}
use Rattle.plane_reader.specs.Blocks.{terms_of}
use Rattle.plane_reader.specs.Gaggles.{TakesStage}
use Rattle.plane_reader.proofs.ClearStates.{known_clear}
use Rattle.plane_reader.proofs.PlaneReads.{begins, count_blocks, above_now, planes_others, planes_slots, above_planes}
use Rattle.plane_reader.proofs.StageReads.{stages_start, first_cut, first_fault, stages_more, stages_cut, stages_fault, stages_done}
use Rattle.plane_reader.proofs.plane.take_stages.Goals as goal

pub returns-in_err-take_dcs-clause-stages : goal.returns-in_err-take_dcs-clause-stages
returns-in_err-take_dcs-clause-stages g c =
    let e = err_from_is_err_and c.from_residual.result c.from_residual.ensures.1 in
    let plan = c.args.terms.now.plan.now in
    let cells = c.args.cells.now in
    let depths = depths_of c.args.marks.now in
    let numbers = blocks_in (numbers_in cells) in
    let even : length cells % 64 ≡ 0 = omega (arith, c.requires.whole) in
    let long : length depths ≡ length numbers = omega (arith, length-depths_of c.args.marks.now, count_blocks cells, c.requires.whole) in
    let s = c.in_err-take_dcs.ensures.stage depths numbers c.clear.new.marks long (omega (
      arith,
      count_blocks cells,
      c.requires.whole,
      c.clear_raw.ensures.long,
    )) c.requires.dcs (begins plan.plane cells plan.low even c.requires.ready c.clear.ensures c.clear_raw.ensures) in
    let more : c.args.last + 1 ≡ suc c.args.last = omega arith in
    rw (e.1, e.2) (first_fault (terms_of plan c.args.terms.now.tables.now.words.book) depths more _ s)

pub returns-in_default-clause-stages : goal.returns-in_default-clause-stages
returns-in_default-clause-stages g c =
    let x = rw c.in_default.is at c.in_ok-take_dcs.ensures in
    let plan = c.args.terms.now.plan.now in
    let cells = c.args.cells.now in
    let depths = depths_of c.args.marks.now in
    let numbers = blocks_in (numbers_in cells) in
    let even : length cells % 64 ≡ 0 = omega (arith, c.requires.whole) in
    let long : length depths ≡ length numbers = omega (arith, length-depths_of c.args.marks.now, count_blocks cells, c.requires.whole) in
    let s = x.stage depths numbers c.clear.new.marks long (omega (arith, count_blocks cells, c.requires.whole, c.clear_raw.ensures.long)) c.requires.dcs
    (begins plan.plane cells plan.low even c.requires.ready c.clear.ensures c.clear_raw.ensures) in
    let more : c.args.last + 1 ≡ suc c.args.last = omega arith in
    first_cut (terms_of plan c.args.terms.now.tables.now.words.book) depths more s

pub loop-number-init : goal.loop-number-init
loop-number-init g c =
    let x = rw c.in-Whole.is at c.in_ok-take_dcs.ensures in
    let plan = c.args.terms.now.plan.now in
    let cells = c.args.cells.now in
    let depths = depths_of c.args.marks.now in
    let numbers = blocks_in (numbers_in cells) in
    let even : length cells % 64 ≡ 0 = omega (arith, c.requires.whole) in
    let long : length depths ≡ length numbers = omega (arith, length-depths_of c.args.marks.now, count_blocks cells, c.requires.whole) in
    let s = x.stage depths numbers c.clear.new.marks long (omega (arith, count_blocks cells, c.requires.whole, c.clear_raw.ensures.long)) c.requires.dcs
    (begins plan.plane cells plan.low even c.requires.ready c.clear.ensures c.clear_raw.ensures) in
    let more : c.args.last + 1 ≡ suc (c.args.last + 1 - 1) = omega arith in
    record {
      is_in = x.is_in;
      known = known_clear c.clear.ensures;
      keeps = planes_others c.clear_raw.ensures x.keeps;
      depths = c.clear.ensures.depths;
      left = stages_start (terms_of plan c.args.terms.now.tables.now.words.book) depths more s;
    }

pub loop-number-preserved : goal.loop-number-preserved
loop-number-preserved g c =
    let x = rw c.in-Whole-2.is at c.in_ok-take_stage.ensures in
    let i = c.loop-number.invariant in
    let plan = c.args.terms.now.plan.now in
    let t = terms_of plan c.args.terms.now.tables.now.words.book in
    let cells = c.args.cells.now in
    let depths = depths_of c.args.marks.now in
    let numbers = blocks_in (numbers_in cells) in
    let even : length cells % 64 ≡ 0 = omega (arith, c.requires.whole) in
    let n = c.loop-number.number in
    let more : c.args.last + 1 - n ≡ suc (c.args.last + 1 - (n + 1)) = omega (arith, c.loop-number-test.true) in
    let l = i.left in
    let s = x.stage numbers l.state (above_planes numbers plan.low i.keeps (above_now plan.plane cells plan.low even c.requires.ready)) l.have in
    let here = subst (λ d. TakesStage g.I.OctetIn.source plan.plane numbers (blocks_script t d numbers n l.state)
    (Ok Whole) c.take_stage.new.cells c.take_stage.new.marks (source_state c.loop-number.input) (source_state c.take_stage.new.input)) i.depths s in
    record {
      is_in = x.is_in;
      known = x.known;
      keeps = planes_slots i.keeps x.keeps;
      depths = x.depths ∙ i.depths;
      left = stages_more t depths more l here;
    }

pub returns-in_err-take_stage-clause-stages : goal.returns-in_err-take_stage-clause-stages
returns-in_err-take_stage-clause-stages g c =
    let e = err_from_is_err_and c.from_residual-in_err-take_stage.result c.from_residual-in_err-take_stage.ensures.1 in
    let x = c.in_err-take_stage.ensures in
    let i = c.loop-number.invariant in
    let plan = c.args.terms.now.plan.now in
    let t = terms_of plan c.args.terms.now.tables.now.words.book in
    let cells = c.args.cells.now in
    let depths = depths_of c.args.marks.now in
    let numbers = blocks_in (numbers_in cells) in
    let even : length cells % 64 ≡ 0 = omega (arith, c.requires.whole) in
    let n = c.loop-number.number in
    let more : c.args.last + 1 - n ≡ suc (c.args.last + 1 - (n + 1)) = omega (arith, c.loop-number-test.true) in
    let l = i.left in
    let s = x.stage numbers l.state (above_planes numbers plan.low i.keeps (above_now plan.plane cells plan.low even c.requires.ready)) l.have in
    let here = subst (λ d. TakesStage g.I.OctetIn.source plan.plane numbers (blocks_script t d numbers n l.state)
    (Err c.in_err-take_stage.field-0.0) c.take_stage.new.cells c.take_stage.new.marks (source_state c.loop-number.input)
    (source_state c.take_stage.new.input)) i.depths s in
    rw (e.1, e.2) (stages_fault t depths more l _ here)

pub returns-in_default-2-clause-stages : goal.returns-in_default-2-clause-stages
returns-in_default-2-clause-stages g c =
    let x = rw c.in_default-2.is at c.in_ok-take_stage.ensures in
    let i = c.loop-number.invariant in
    let plan = c.args.terms.now.plan.now in
    let t = terms_of plan c.args.terms.now.tables.now.words.book in
    let cells = c.args.cells.now in
    let depths = depths_of c.args.marks.now in
    let numbers = blocks_in (numbers_in cells) in
    let even : length cells % 64 ≡ 0 = omega (arith, c.requires.whole) in
    let n = c.loop-number.number in
    let more : c.args.last + 1 - n ≡ suc (c.args.last + 1 - (n + 1)) = omega (arith, c.loop-number-test.true) in
    let l = i.left in
    let s = x.stage numbers l.state (above_planes numbers plan.low i.keeps (above_now plan.plane cells plan.low even c.requires.ready)) l.have in
    let here = subst (λ d. TakesStage g.I.OctetIn.source plan.plane numbers (blocks_script t d numbers n l.state)
    (Ok Ended) c.take_stage.new.cells c.take_stage.new.marks (source_state c.loop-number.input) (source_state c.take_stage.new.input)) i.depths s in
    stages_cut t depths more l here

pub returns-clause-stages : goal.returns-clause-stages
returns-clause-stages g c =
    let plan = c.args.terms.now.plan.now in
    let i = c.loop-number.invariant in
    stages_done (terms_of plan c.args.terms.now.tables.now.words.book) (depths_of c.args.marks.now) (omega (arith, c.loop-number-test.false)) i.is_in i.left
