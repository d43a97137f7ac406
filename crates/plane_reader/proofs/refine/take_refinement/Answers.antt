use Rattle.std.proofs.Common.{sym, rules}
use Rattle.std.proofs.lemmas.Result.{err_from_is_err_and}
use Rattle.item_defs.specs.Bits.{bit}
use Rattle.block_masks.proofs.Viewing.{shows_own}
use Rattle.item_defs.specs.Scripts.{in_turn}
use Rattle.plane_reader.specs.HeldTakes.{marked_script}
use Rattle.plane_reader.specs.Blocks.{terms_of}
use Rattle.plane_reader.proofs.RefineReads.{refinement_is, refined_marks, half_fault, half_cut, half_then}
use Rattle.plane_reader.proofs.refine.take_refinement.Goals as goal

pub returns-in_err-take_half-clause-refinement : goal.returns-in_err-take_half-clause-refinement
returns-in_err-take_half-clause-refinement g c = λ block s is marked.
    let p = err_from_is_err_and c.from_residual.result c.from_residual.ensures.1 in
    let plan = c.args.plan.now in
    let t = terms_of plan c.args.reading.now.tables.now.words.book in
    let mask = c.without-refined.result in
    let item = marked_script (bit mask) in
    let shown = c.both.ensures.if_known _ _ 0 64 (shows_own c.args.above 64 c.ranges.above.fits) plan.shown in
    let marks = refined_marks mask c.args.above plan.plane plan.weights.shifts block shown marked c.without-refined.ensures.others in
    let own = shows_own mask 64 (search rules) in
    rw (p.1, p.2, sym (refinement_is t block (bit mask) c.without-refined.ensures.gone marks s)) (half_fault (in_turn item 0 32 s) (in_turn item 32 32) _
    (c.in_err-take_half.ensures.bits s (bit mask) is own))

pub returns-in_default-clause-refinement : goal.returns-in_default-clause-refinement
returns-in_default-clause-refinement g c = λ block s is marked.
    let x = rw c.in_default.is at c.in_ok-take_half.ensures in
    let plan = c.args.plan.now in
    let t = terms_of plan c.args.reading.now.tables.now.words.book in
    let mask = c.without-refined.result in
    let item = marked_script (bit mask) in
    let shown = c.both.ensures.if_known _ _ 0 64 (shows_own c.args.above 64 c.ranges.above.fits) plan.shown in
    let marks = refined_marks mask c.args.above plan.plane plan.weights.shifts block shown marked c.without-refined.ensures.others in
    let own = shows_own mask 64 (search rules) in
    rw (sym (refinement_is t block (bit mask) c.without-refined.ensures.gone marks s)) (half_cut (in_turn item 0 32 s) (in_turn item 32 32) (x.bits s
    (bit mask) is own))

pub returns-clause-refinement : goal.returns-clause-refinement
returns-clause-refinement g c = λ block s is marked.
    let x = rw c.in-Some.is at c.in_ok-take_half.ensures in
    let plan = c.args.plan.now in
    let t = terms_of plan c.args.reading.now.tables.now.words.book in
    let mask = c.without-refined.result in
    let item = marked_script (bit mask) in
    let shown = c.both.ensures.if_known _ _ 0 64 (shows_own c.args.above 64 c.ranges.above.fits) plan.shown in
    let marks = refined_marks mask c.args.above plan.plane plan.weights.shifts block shown marked c.without-refined.ensures.others in
    let own = shows_own mask 64 (search rules) in
    let q = x.bits s (bit mask) is own in
    rw (sym (refinement_is t block (bit mask) c.without-refined.ensures.gone marks s)) (half_then (in_turn item 0 32 s) (in_turn item 32 32) q _
    (c.take_half-2.ensures.bits q.now (bit mask) q.is own))
