use Rattle.std.proofs.Common.{◌≡◌, ◌+◌, ◌*◌, ◌&&◌, ◌||◌, not, true, ap, sym, ◌∙◌, arith}
use Rattle.std.specs.List.{list_any}
use Rattle.std.proofs.lemmas.Result.{err_from_is_err_and}
use Rattle.item_defs.specs.Bits.{bit}
use Rattle.plane_defs.specs.Sets.{coded, type_due, members, quad_of}
use Rattle.plane_defs.specs.declared.sets.Set.TheVariants.{Quad}
use Rattle.block_masks.proofs.Viewing.{shows_own}
use Rattle.plane_defs.specs.States.{with_options}
use Rattle.plane_defs.specs.StageScripts.{above, is_due}
use Rattle.plane_reader.specs.Blocks.{terms_of}
use Rattle.plane_reader.proofs.TypeReads.{on}
use Rattle.plane_reader.proofs.BlockReads.{due_marks}
use Rattle.plane_reader.proofs.DueSets.{both_are, is_false, some_bit, new_quad, new_grandchild, any_marked, among_is}
use Rattle.plane_reader.proofs.GrandchildReads.{quads_due, quads_now, quads_word, quads_types, word_fault, word_cut, word_then, groups_at}
use Rattle.plane_reader.proofs.grandchildren.take_quads.Goals as goal

pub some_places-requires-clause-due : goal.some_places-requires-clause-due
some_places-requires-clause-due g c = c.except-due.ensures.within 4 (c.args.plan.now.quads_shown c.args.set.family c.requires.family).shown.small

pub some_places-requires-clause-some : goal.some_places-requires-clause-some
some_places-requires-clause-some g c = λ wanted.
    let plan = c.args.plan.now in
    let i = c.args.set.family in
    let can = coded plan.weights.shifts plan.plane in
    let quads = c.quads_of-before.ensures (bit c.args.above) (shows_own c.args.above 64 c.ranges.above.fits) in
    let may = c.requires.new wanted in
    let f = new_quad (bit c.args.above) can i may.1 may.0 in
    let z : 0 + f.0 ≡ f.0 = omega arith in
    let shown = (c.except-due.ensures.if_known _ _ 0 4 quads.shown (plan.quads_shown i c.requires.family).shown).at f.0 f.1 in
    some_bit c.except-due.result f.0 (shown ∙ ap (λ j. not (list_any (bit c.args.above) (members (Quad i j))) && list_any can (members (Quad i j))) z ∙
    (λ n. not (f.2 n) && f.3 n))

pub returns-in_err-new-clause-quads : goal.returns-in_err-new-clause-quads
returns-in_err-new-clause-quads g c = λ block s is marked.
    let e = err_from_is_err_and c.from_residual.result c.from_residual.ensures.1 in
    let plan = c.args.plan.now in
    let i = c.args.set.family in
    let t = terms_of plan c.args.reading.now.tables.now.words.book in
    let quads = c.quads_of-before.ensures (bit c.args.above) (shows_own c.args.above 64 c.ranges.above.fits) in
    let due = quads_due t block c.args.above marked i c.requires.family (c.except-due.ensures.if_known _ _ 0 4 quads.shown
    (plan.quads_shown i c.requires.family).shown) in
    let w = c.in_err-new.ensures in
    rw (e.1, e.2, w.found) (word_fault (quads_word t block i c.args.set.is_new s) (quads_types t block i) 0 4 s is _ (w.places s (λ j. is_due t block
    (Quad i j) true) 0 4 is.options (omega arith) due))

pub returns-in_default-clause-quads : goal.returns-in_default-clause-quads
returns-in_default-clause-quads g c = λ block s is marked.
    let plan = c.args.plan.now in
    let i = c.args.set.family in
    let t = terms_of plan c.args.reading.now.tables.now.words.book in
    let quads = c.quads_of-before.ensures (bit c.args.above) (shows_own c.args.above 64 c.ranges.above.fits) in
    let due = quads_due t block c.args.above marked i c.requires.family (c.except-due.ensures.if_known _ _ 0 4 quads.shown
    (plan.quads_shown i c.requires.family).shown) in
    let w = rw c.in_default.is at c.in_ok-new.ensures in
    rw w.found (word_cut (quads_word t block i c.args.set.is_new s) (quads_types t block i) 0 4 s is (w.places s (λ j. is_due t block
    (Quad i j) true) 0 4 is.options (omega arith) due))

pub take_groups-requires-clause-few : goal.take_groups-requires-clause-few
take_groups-requires-clause-few g c =
    let quads = c.quads_of-before.ensures (bit c.args.above) (shows_own c.args.above 64 c.ranges.above.fits) in
    let few = c.except-due.ensures.within 4 (c.args.plan.now.quads_shown c.args.set.family c.requires.family).shown.small in
    let new = (rw c.in-Some.is at c.in_ok-new.ensures).among 4 (omega arith) few in
    (c.either.ensures (bit c.quads_of-before.result) (bit c.in-Some.new) 0 4 (shows_own c.quads_of-before.result 4 quads.shown.small)
    (shows_own c.in-Some.new 4 new.small)).small

pub take_groups-requires-clause-some : goal.take_groups-requires-clause-some
take_groups-requires-clause-some g c = λ j lt on.
    let plan = c.args.plan.now in
    let i = c.args.set.family in
    let own = shows_own c.args.above 64 c.ranges.above.fits in
    let can = coded plan.weights.shifts plan.plane in
    let quads = c.quads_of-before.ensures (bit c.args.above) own in
    let few = c.except-due.ensures.within 4 (plan.quads_shown i c.requires.family).shown.small in
    let new = (rw c.in-Some.is at c.in_ok-new.ensures).among 4 (omega arith) few in
    let z : 0 + j ≡ j = omega arith in
    let due = (c.except-due.ensures.if_known _ _ 0 4 quads.shown (plan.quads_shown i c.requires.family).shown).at j lt in
    let two = both_are (not (list_any (bit c.args.above) (members (Quad i j)))) (list_any can (members (Quad i j)))
    (ap (λ n. not (list_any (bit c.args.above) (members (Quad i n))) && list_any can (members (Quad i n))) (sym z) ∙ sym due ∙ among_is _ new j lt on) in
    any_marked (16 + 16 * i + 4 * j) 4 (c.except-types.ensures.if_known (bit c.args.above) can 0 64 own plan.shown) (omega (arith, lt, c.requires.family))
    (new_grandchild (bit c.args.above) can i j two.1 (is_false (list_any (bit c.args.above) (members (Quad i j))) two.0))

pub returns-clause-quads : goal.returns-clause-quads
returns-clause-quads g c = λ block s is marked.
    let plan = c.args.plan.now in
    let i = c.args.set.family in
    let t = terms_of plan c.args.reading.now.tables.now.words.book in
    let quads = c.quads_of-before.ensures (bit c.args.above) (shows_own c.args.above 64 c.ranges.above.fits) in
    let due = quads_due t block c.args.above marked i c.requires.family (c.except-due.ensures.if_known _ _ 0 4 quads.shown
    (plan.quads_shown i c.requires.family).shown) in
    let w = rw c.in-Some.is at c.in_ok-new.ensures in
    let p = w.places s (λ j. is_due t block (Quad i j) true) 0 4 is.options (omega arith) due in
    let now = quads_now t block c.args.above marked i c.requires.family p.ones (c.either.ensures _ _ 0 4 quads.shown p.shown) in
    let z : 16 + 16 * i ≡ quad_of i 0 = omega arith in
    let types = c.take_groups.ensures.groups in
    let marks = due_marks plan.plane plan.weights.shifts block c.except-types.ensures.if_known c.ranges.above.fits plan.shown marked (16 + 16 * i) 16
    (omega arith) (omega (arith, c.requires.family)) in
    let q = groups_at t.book (type_due block t.weights t.plane) (λ j. above t block (Quad i j) || p.ones j) p.ones 4 (with_options s p.options) _ z
    (rw w.tables at (types (with_options s p.options) (type_due block t.weights t.plane) (λ j. above t block (Quad i j) || p.ones j) p.ones (rw w.found
    (on is p.known)) marks now p.shown)) in
    word_then (quads_word t block i c.args.set.is_new s) (quads_types t block i) 0 4 s is p _ q
