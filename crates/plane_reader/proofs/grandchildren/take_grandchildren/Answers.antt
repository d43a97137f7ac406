use Rattle.std.proofs.Common.{◌≡◌, ◌+◌, ◌&&◌, ◌||◌, not, ap, sym, ◌∙◌, arith, rules}
use Rattle.std.specs.List.{list_any}
use Rattle.std.proofs.lemmas.Result.{err_from_is_err_and}
use Rattle.item_defs.specs.Bits.{bit}
use Rattle.plane_defs.specs.Sets.{coded, members}
use Rattle.plane_defs.specs.declared.sets.Set.TheVariants.{Grandchildren}
use Rattle.block_masks.proofs.Viewing.{shows_own}
use Rattle.plane_defs.specs.States.{with_options}
use Rattle.plane_defs.specs.StageScripts.{above, is_due, is_childless}
use Rattle.plane_reader.specs.Blocks.{terms_of}
use Rattle.plane_reader.proofs.TypeReads.{on}
use Rattle.plane_reader.proofs.DueSets.{both_are, is_false, among_is}
use Rattle.plane_reader.proofs.GrandchildReads.{sixteens_due, sixteens_now, forced_shown, sixteens_word, sixteens_rest, word_fault, word_cut, word_then}
use Rattle.plane_reader.proofs.grandchildren.take_grandchildren.Goals as goal

pub wanted_places-requires-clause-due : goal.wanted_places-requires-clause-due
wanted_places-requires-clause-due g c =
    let within = c.both-due.ensures.within in
    let live = c.except-live.ensures.within 3 c.args.plan.now.live_shown.grandchildren.small in
    omega (arith, within, live)

pub returns-in_err-new-clause-grandchildren : goal.returns-in_err-new-clause-grandchildren
returns-in_err-new-clause-grandchildren g c = λ block earlier s is marked families seen.
    let e = err_from_is_err_and c.from_residual.result c.from_residual.ensures.1 in
    let plan = c.args.plan.now in
    let t = terms_of plan c.args.reading.now.tables.now.words.book in
    let before = c.of-before.ensures (bit c.args.seen.above) (shows_own c.args.seen.above 64 (search rules)) in
    let due = sixteens_due t block c.args.seen.above marked earlier (c.both-due.ensures.if_known _ _ 0 3
    (c.except-live.ensures.if_known _ _ 0 3 before.grandchildren plan.live_shown.grandchildren) families) in
    let forced = c.both-forced.ensures.if_known _ _ 0 3 (c.except.ensures.if_known _ _ 0 3 before.families families) c.without_child.ensures in
    let wanted = forced_shown t block c.args.seen.above marked earlier c.args.seen.now seen (c.both.ensures.if_known _ _ 0 3 due forced) in
    let w = c.in_err-new.ensures in
    rw (e.1, e.2, w.found) (word_fault (sixteens_word t block earlier s) (sixteens_rest t block) 0 3 s is _ (w.places s (λ i. is_due t block (Grandchildren i)
    (earlier.families i)) (is_childless t block earlier) 0 3 is.options (omega arith) due wanted))

pub returns-in_default-clause-grandchildren : goal.returns-in_default-clause-grandchildren
returns-in_default-clause-grandchildren g c = λ block earlier s is marked families seen.
    let plan = c.args.plan.now in
    let t = terms_of plan c.args.reading.now.tables.now.words.book in
    let before = c.of-before.ensures (bit c.args.seen.above) (shows_own c.args.seen.above 64 (search rules)) in
    let due = sixteens_due t block c.args.seen.above marked earlier (c.both-due.ensures.if_known _ _ 0 3
    (c.except-live.ensures.if_known _ _ 0 3 before.grandchildren plan.live_shown.grandchildren) families) in
    let forced = c.both-forced.ensures.if_known _ _ 0 3 (c.except.ensures.if_known _ _ 0 3 before.families families) c.without_child.ensures in
    let wanted = forced_shown t block c.args.seen.above marked earlier c.args.seen.now seen (c.both.ensures.if_known _ _ 0 3 due forced) in
    let w = rw c.in_default.is at c.in_ok-new.ensures in
    rw w.found (word_cut (sixteens_word t block earlier s) (sixteens_rest t block) 0 3 s is (w.places s (λ i. is_due t block (Grandchildren i)
    (earlier.families i)) (is_childless t block earlier) 0 3 is.options (omega arith) due wanted))

pub take_sixteens-requires-clause-new : goal.take_sixteens-requires-clause-new
take_sixteens-requires-clause-new g c = λ i lt on.
    let plan = c.args.plan.now in
    let above = c.args.seen.above in
    let can = coded plan.weights.shifts plan.plane in
    let before = c.of-before.ensures (bit above) (shows_own above 64 (search rules)) in
    let live_few = c.except-live.ensures.within 3 plan.live_shown.grandchildren.small in
    let within = c.both-due.ensures.within in
    let new = (rw c.in-Some.is at c.in_ok-new.ensures).among 3 (omega arith) (omega (arith, within, live_few)) in
    let z : 0 + i ≡ i = omega arith in
    let live = c.except-live.ensures.if_known _ _ 0 3 before.grandchildren plan.live_shown.grandchildren in
    let few = live.small in
    let due = (c.both-due.ensures.if_known (bit c.except-live.result) (bit c.args.seen.families) 0 64 (shows_own c.except-live.result 64 (search rules))
    (shows_own c.args.seen.families 64 (search rules))).at i (omega (arith, lt)) in
    let two = both_are (bit c.except-live.result i) (bit c.args.seen.families i) (ap (λ n. bit c.except-live.result n && bit c.args.seen.families n) (sym z) ∙
    sym due ∙ among_is _ new i lt on) in
    let three = both_are (not (list_any (bit above) (members (Grandchildren i)))) (list_any can (members (Grandchildren i)))
    (ap (λ n. not (list_any (bit above) (members (Grandchildren n))) && list_any can (members (Grandchildren n))) (sym z) ∙ sym (live.at i lt) ∙ two.0) in
    (is_false (list_any (bit above) (members (Grandchildren i))) three.0, three.1)

pub returns-clause-grandchildren : goal.returns-clause-grandchildren
returns-clause-grandchildren g c = λ block earlier s is marked families seen.
    let plan = c.args.plan.now in
    let t = terms_of plan c.args.reading.now.tables.now.words.book in
    let before = c.of-before.ensures (bit c.args.seen.above) (shows_own c.args.seen.above 64 (search rules)) in
    let due = sixteens_due t block c.args.seen.above marked earlier (c.both-due.ensures.if_known _ _ 0 3
    (c.except-live.ensures.if_known _ _ 0 3 before.grandchildren plan.live_shown.grandchildren) families) in
    let forced = c.both-forced.ensures.if_known _ _ 0 3 (c.except.ensures.if_known _ _ 0 3 before.families families) c.without_child.ensures in
    let wanted = forced_shown t block c.args.seen.above marked earlier c.args.seen.now seen (c.both.ensures.if_known _ _ 0 3 due forced) in
    let w = rw c.in-Some.is at c.in_ok-new.ensures in
    let p = w.places s (λ i. is_due t block (Grandchildren i) (earlier.families i)) (is_childless t block earlier) 0 3 is.options (omega arith) due wanted in
    let now = sixteens_now t block c.args.seen.above marked earlier p.ones (c.either.ensures _ _ 0 3 before.grandchildren p.shown) in
    let q = rw w.tables at (c.take_sixteens.ensures.sixteens block (with_options s p.options) (λ i. above t block (Grandchildren i) || p.ones i) p.ones
    (rw w.found (on is p.known)) marked now p.shown) in
    word_then (sixteens_word t block earlier s) (sixteens_rest t block) 0 3 s is p _ q
