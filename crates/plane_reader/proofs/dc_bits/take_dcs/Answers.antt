use Rattle.std.proofs.Common.{◌≡◌, ◌&&◌, nat_lt, true, false, sym, ◌∙◌}
use Rattle.plane_defs.specs.Sets.{coded}
use Rattle.plane_reader.specs.Blocks.{terms_of}
use Rattle.plane_reader.proofs.DcReads.{quiet_stage, dcs_closed, dcs_await, due_low}
use Rattle.plane_reader.proofs.DcReads.{others_kept}
use Rattle.plane_reader.proofs.dc_bits.take_dcs.Goals as goal

pub returns-then-not-is_due-clause-stage : goal.returns-then-not-is_due-clause-stage
returns-then-not-is_due-clause-stage g c = λ depths numbers marks same whole await have.
    let plan = c.args.terms.now.plan.now in
    let off : (coded plan.weights.shifts plan.plane 0 && nat_lt plan.plane plan.q) ≡ false = sym c.is_due.ensures ∙ c.if-not-is_due.true in
    quiet_stage (terms_of plan c.args.terms.now.tables.now.words.book) depths numbers same c.requires.open whole off have

pub returns-then-not-is_due-clause-keeps : goal.returns-then-not-is_due-clause-keeps
returns-then-not-is_due-clause-keeps g c = others_kept c.args.cells.now

pub returns-clause-stage : goal.returns-clause-stage
returns-clause-stage g c = λ depths numbers marks same whole await have.
    let plan = c.args.terms.now.plan.now in
    let on : (coded plan.weights.shifts plan.plane 0 && nat_lt plan.plane plan.q) ≡ true = sym c.is_due.ensures ∙ c.if-not-is_due.false in
    let low = due_low (coded plan.weights.shifts plan.plane 0) plan.plane plan.q on in
    dcs_closed (terms_of plan c.args.terms.now.tables.now.words.book) depths numbers same on c.open-reading.ensures.none c.close.ensures.stays
    c.close.ensures.none c.close.ensures.kept c.take_bits-read.result
    (c.take_bits-read.ensures.bits numbers marks whole (dcs_await numbers low await) have)
