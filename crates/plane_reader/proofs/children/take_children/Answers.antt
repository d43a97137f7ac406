use Rattle.std.proofs.Common.{◌≡◌, ◌+◌, ◌*◌, ◌&&◌, not, ap, sym, ◌∙◌, arith}
use Rattle.std.specs.List.{list_any}
use Rattle.std.proofs.lemmas.Result.{err_from_is_err_and}
use Rattle.item_defs.specs.Bits.{bit}
use Rattle.plane_defs.specs.Sets.{coded, type_due, live, members}
use Rattle.plane_defs.specs.declared.sets.Set.TheVariants.{Descendants, Family, Grandchildren}
use Rattle.block_masks.proofs.Viewing.{shows_own}
use Rattle.plane_defs.specs.States.{with_options}
use Rattle.plane_defs.specs.StageScripts.{is_due}
use Rattle.plane_reader.specs.Blocks.{terms_of}
use Rattle.plane_reader.proofs.TypeReads.{on}
use Rattle.plane_reader.proofs.BlockReads.{due_marks}
use Rattle.plane_reader.proofs.DueSets.{both_are, is_false, some_bit, new_family, new_children, any_marked, among_is}
use Rattle.plane_reader.proofs.SetMarks.{was_set, live_set}
use Rattle.plane_reader.proofs.ChildReads.{due_shown, families_shown, wanted_shown, families_now, no_flag, flag_cut, no_families, families_cut, no_types}
use Rattle.plane_reader.proofs.ChildReads.{types_cut, all_read}
use Rattle.plane_reader.proofs.children.take_children.Goals as goal

pub returns-in_err-all-clause-children : goal.returns-in_err-all-clause-children
returns-in_err-all-clause-children g c = λ block s is marked.
    let e = err_from_is_err_and c.from_residual.result c.from_residual.ensures.1 in
    let plan = c.args.plan.now in
    let t = terms_of plan c.args.reading.now.tables.now.words.book in
    let sets = c.of-before.ensures (bit c.args.above) (shows_own c.args.above 64 c.ranges.above.fits) in
    let was = sets.descendants ∙ was_set t block c.args.above marked Descendants tt in
    let lives = plan.live_shown.descendants ∙ live_set t block c.args.above marked Descendants in
    let x = c.in_err-all.ensures in
    rw (e.1, e.2, x.gaggle, x.found) (no_flag t block s is _ (rw (was, lives) at (x.flag.read s)))

pub returns-in_default-clause-children : goal.returns-in_default-clause-children
returns-in_default-clause-children g c = λ block s is marked.
    let plan = c.args.plan.now in
    let t = terms_of plan c.args.reading.now.tables.now.words.book in
    let sets = c.of-before.ensures (bit c.args.above) (shows_own c.args.above 64 c.ranges.above.fits) in
    let was = sets.descendants ∙ was_set t block c.args.above marked Descendants tt in
    let lives = plan.live_shown.descendants ∙ live_set t block c.args.above marked Descendants in
    let x = rw c.in_default.is at c.in_ok-all.ensures in
    rw (x.gaggle, x.found) (flag_cut t block s is (rw (was, lives) at (x.flag.read s)))

pub some_places-requires-clause-due : goal.some_places-requires-clause-due
some_places-requires-clause-due g c =
    let few = c.except.ensures.within 3 c.args.plan.now.live_shown.families.small in
    let le = c.masked-due.ensures.within in
    omega (arith, few, le)

pub some_places-requires-clause-some : goal.some_places-requires-clause-some
some_places-requires-clause-some g c = λ wanted.
    let plan = c.args.plan.now in
    let sets = c.of-before.ensures (bit c.args.above) (shows_own c.args.above 64 c.ranges.above.fits) in
    let x = rw c.in-Some.is at c.in_ok-all.ensures in
    let two = both_are c.in-Some.all (not c.of-before.result.descendants) (sym c.is_new-is_wanted.ensures ∙ wanted) in
    let was = is_false c.of-before.result.descendants two.1 in
    let f = new_family (bit c.args.above) (coded plan.weights.shifts plan.plane) (sym plan.live_shown.descendants ∙ x.live two.0 was) (sym sets.descendants ∙
    was) in
    let z : 0 + f.0 ≡ f.0 = omega arith in
    let shown = (c.masked-due.ensures.if_known _ 0 3 (c.except.ensures.if_known _ _ 0 3 sets.families plan.live_shown.families)).at f.0 f.1 in
    some_bit c.masked-due.result f.0 (shown ∙ ap (λ i. (not (list_any (bit c.args.above) (members (Family i))) && list_any
    (coded plan.weights.shifts plan.plane) (members (Family i))) && c.in-Some.all) z ∙ (λ i. (not (f.2 i) && f.3 i) && two.0 i))

pub returns-in_err-new-clause-children : goal.returns-in_err-new-clause-children
returns-in_err-new-clause-children g c = λ block s is marked.
    let e = err_from_is_err_and c.from_residual-in_err-new.result c.from_residual-in_err-new.ensures.1 in
    let plan = c.args.plan.now in
    let t = terms_of plan c.args.reading.now.tables.now.words.book in
    let sets = c.of-before.ensures (bit c.args.above) (shows_own c.args.above 64 c.ranges.above.fits) in
    let was = sets.descendants ∙ was_set t block c.args.above marked Descendants tt in
    let lives = plan.live_shown.descendants ∙ live_set t block c.args.above marked Descendants in
    let x = rw c.in-Some.is at c.in_ok-all.ensures in
    let flag = rw (was, lives) at (x.flag.read s) in
    let due = due_shown t block c.args.above marked c.in-Some.all (c.masked-due.ensures.if_known _ 0 3
    (c.except.ensures.if_known _ _ 0 3 sets.families plan.live_shown.families)) in
    let w = c.in_err-new.ensures in
    let p = rw (x.tables, c.is_new-is_wanted.ensures, was) at (w.places s (λ i. is_due t block (Family i) c.in-Some.all) 0 3 (rw x.gaggle is.options)
    (omega arith) due) in
    rw (e.1, e.2, w.found, x.found) (no_families t block s is c.in-Some.all flag _ p)

pub returns-in_default-2-clause-children : goal.returns-in_default-2-clause-children
returns-in_default-2-clause-children g c = λ block s is marked.
    let plan = c.args.plan.now in
    let t = terms_of plan c.args.reading.now.tables.now.words.book in
    let sets = c.of-before.ensures (bit c.args.above) (shows_own c.args.above 64 c.ranges.above.fits) in
    let was = sets.descendants ∙ was_set t block c.args.above marked Descendants tt in
    let lives = plan.live_shown.descendants ∙ live_set t block c.args.above marked Descendants in
    let x = rw c.in-Some.is at c.in_ok-all.ensures in
    let flag = rw (was, lives) at (x.flag.read s) in
    let due = due_shown t block c.args.above marked c.in-Some.all (c.masked-due.ensures.if_known _ 0 3
    (c.except.ensures.if_known _ _ 0 3 sets.families plan.live_shown.families)) in
    let w = rw c.in_default-2.is at c.in_ok-new.ensures in
    let p = rw (x.tables, c.is_new-is_wanted.ensures, was) at (w.places s (λ i. is_due t block (Family i) c.in-Some.all) 0 3 (rw x.gaggle is.options)
    (omega arith) due) in
    rw (w.found, x.found) (families_cut t block s is c.in-Some.all flag p)

pub take_groups-requires-clause-few : goal.take_groups-requires-clause-few
take_groups-requires-clause-few g c =
    let sets = c.of-before.ensures (bit c.args.above) (shows_own c.args.above 64 c.ranges.above.fits) in
    let few = c.except.ensures.within 3 c.args.plan.now.live_shown.families.small in
    let le = c.masked-due.ensures.within in
    let new = (rw c.in-Some-2.is at c.in_ok-new.ensures).among 3 (omega arith) (omega (arith, few, le)) in
    (c.either-families.ensures (bit c.of-before.result.families) (bit c.in-Some-2.new) 0 3 (shows_own c.of-before.result.families 3 sets.families.small)
    (shows_own c.in-Some-2.new 3 new.small)).small

pub returns-clause-small : goal.returns-clause-small
returns-clause-small g c =
    let sets = c.of-before.ensures (bit c.args.above) (shows_own c.args.above 64 c.ranges.above.fits) in
    let few = c.except.ensures.within 3 c.args.plan.now.live_shown.families.small in
    let le = c.masked-due.ensures.within in
    let new = (rw c.in-Some-2.is at c.in_ok-new.ensures).among 3 (omega arith) (omega (arith, few, le)) in
    (c.either-families.ensures (bit c.of-before.result.families) (bit c.in-Some-2.new) 0 3 (shows_own c.of-before.result.families 3 sets.families.small)
    (shows_own c.in-Some-2.new 3 new.small)).small

pub take_groups-requires-clause-some : goal.take_groups-requires-clause-some
take_groups-requires-clause-some g c = λ j lt on.
    let plan = c.args.plan.now in
    let above = shows_own c.args.above 64 c.ranges.above.fits in
    let can = coded plan.weights.shifts plan.plane in
    let sets = c.of-before.ensures (bit c.args.above) above in
    let few = c.except.ensures.within 3 plan.live_shown.families.small in
    let le = c.masked-due.ensures.within in
    let new = (rw c.in-Some-2.is at c.in_ok-new.ensures).among 3 (omega arith) (omega (arith, few, le)) in
    let z : 0 + j ≡ j = omega arith in
    let wanted = (c.except-2.ensures.if_known _ (bit c.in-Some-2.new) 0 3 plan.live_shown.grandchildren (shows_own c.in-Some-2.new 3 new.small)).at j lt in
    let two = both_are (not (list_any can (members (Grandchildren j)))) (bit c.in-Some-2.new j) (ap (λ i. not (list_any can (members
    (Grandchildren i))) && bit c.in-Some-2.new i) (sym z) ∙ sym wanted ∙ on) in
    let due = (c.masked-due.ensures.if_known _ 0 3 (c.except.ensures.if_known _ _ 0 3 sets.families plan.live_shown.families)).at j lt in
    let is = both_are (not (list_any (bit c.args.above) (members (Family j))) && list_any can (members (Family j))) c.in-Some.all
    (ap (λ i. (not (list_any (bit c.args.above) (members (Family i))) && list_any can (members (Family i))) && c.in-Some.all) (sym z) ∙ sym due ∙
    among_is _ new j lt two.1) in
    let three = both_are (not (list_any (bit c.args.above) (members (Family j)))) (list_any can (members (Family j))) is.0 in
    any_marked (4 + 4 * j) 4 (c.except-types.ensures.if_known (bit c.args.above) can 0 64 above plan.shown) (omega (arith, lt))
    (new_children (bit c.args.above) can j three.1 (is_false (list_any (bit c.args.above) (members (Family j))) three.0) (is_false (list_any can (members
    (Grandchildren j))) two.0))

pub returns-in_err-take_groups-clause-children : goal.returns-in_err-take_groups-clause-children
returns-in_err-take_groups-clause-children g c = λ block s is marked.
    let e = err_from_is_err_and c.from_residual-in_err-take_groups.result c.from_residual-in_err-take_groups.ensures.1 in
    let plan = c.args.plan.now in
    let t = terms_of plan c.args.reading.now.tables.now.words.book in
    let sets = c.of-before.ensures (bit c.args.above) (shows_own c.args.above 64 c.ranges.above.fits) in
    let was = sets.descendants ∙ was_set t block c.args.above marked Descendants tt in
    let lives = plan.live_shown.descendants ∙ live_set t block c.args.above marked Descendants in
    let x = rw c.in-Some.is at c.in_ok-all.ensures in
    let flag = rw (was, lives) at (x.flag.read s) in
    let due = due_shown t block c.args.above marked c.in-Some.all (c.masked-due.ensures.if_known _ 0 3
    (c.except.ensures.if_known _ _ 0 3 sets.families plan.live_shown.families)) in
    let w = rw c.in-Some-2.is at c.in_ok-new.ensures in
    let p = rw (x.tables, c.is_new-is_wanted.ensures, was) at (w.places s (λ i. is_due t block (Family i) c.in-Some.all) 0 3 (rw x.gaggle is.options)
    (omega arith) due) in
    let now = families_shown t block c.args.above marked p.ones (c.either-families.ensures _ _ 0 3 sets.families p.shown) in
    let wanted = wanted_shown t block c.args.above marked p.ones (c.except-2.ensures.if_known _ _ 0 3 plan.live_shown.grandchildren p.shown) in
    let marks = due_marks plan.plane plan.weights.shifts block c.except-types.ensures.if_known c.ranges.above.fits plan.shown marked 4 12 (omega arith)
    (omega arith) in
    let q = rw (w.tables, x.tables) at (c.in_err-take_groups.ensures.groups (with_options s p.options) (type_due block t.weights t.plane)
    (families_now t block s p.ones) (λ i. p.ones i && not (live t.weights t.plane (Grandchildren i))) (rw (
      w.found,
      x.found,
    ) (on is p.known)) marks now wanted) in
    rw (e.1, e.2) (no_types t block s is c.in-Some.all flag p _ q)

pub returns-in_default-3-clause-children : goal.returns-in_default-3-clause-children
returns-in_default-3-clause-children g c = λ block s is marked.
    let plan = c.args.plan.now in
    let t = terms_of plan c.args.reading.now.tables.now.words.book in
    let sets = c.of-before.ensures (bit c.args.above) (shows_own c.args.above 64 c.ranges.above.fits) in
    let was = sets.descendants ∙ was_set t block c.args.above marked Descendants tt in
    let lives = plan.live_shown.descendants ∙ live_set t block c.args.above marked Descendants in
    let x = rw c.in-Some.is at c.in_ok-all.ensures in
    let flag = rw (was, lives) at (x.flag.read s) in
    let due = due_shown t block c.args.above marked c.in-Some.all (c.masked-due.ensures.if_known _ 0 3
    (c.except.ensures.if_known _ _ 0 3 sets.families plan.live_shown.families)) in
    let w = rw c.in-Some-2.is at c.in_ok-new.ensures in
    let p = rw (x.tables, c.is_new-is_wanted.ensures, was) at (w.places s (λ i. is_due t block (Family i) c.in-Some.all) 0 3 (rw x.gaggle is.options)
    (omega arith) due) in
    let now = families_shown t block c.args.above marked p.ones (c.either-families.ensures _ _ 0 3 sets.families p.shown) in
    let wanted = wanted_shown t block c.args.above marked p.ones (c.except-2.ensures.if_known _ _ 0 3 plan.live_shown.grandchildren p.shown) in
    let marks = due_marks plan.plane plan.weights.shifts block c.except-types.ensures.if_known c.ranges.above.fits plan.shown marked 4 12 (omega arith)
    (omega arith) in
    let y = rw c.in_default-3.is at c.in_ok-take_groups.ensures in
    let q = rw (w.tables, x.tables) at (y.groups (with_options s p.options) (type_due block t.weights t.plane) (families_now t block s p.ones)
    (λ i. p.ones i && not (live t.weights t.plane (Grandchildren i))) (rw (w.found, x.found) (on is p.known)) marks now wanted) in
    types_cut t block s is c.in-Some.all flag p q

pub returns-clause-children : goal.returns-clause-children
returns-clause-children g c = λ block s is marked.
    let plan = c.args.plan.now in
    let t = terms_of plan c.args.reading.now.tables.now.words.book in
    let sets = c.of-before.ensures (bit c.args.above) (shows_own c.args.above 64 c.ranges.above.fits) in
    let was = sets.descendants ∙ was_set t block c.args.above marked Descendants tt in
    let lives = plan.live_shown.descendants ∙ live_set t block c.args.above marked Descendants in
    let x = rw c.in-Some.is at c.in_ok-all.ensures in
    let flag = rw (was, lives) at (x.flag.read s) in
    let due = due_shown t block c.args.above marked c.in-Some.all (c.masked-due.ensures.if_known _ 0 3
    (c.except.ensures.if_known _ _ 0 3 sets.families plan.live_shown.families)) in
    let w = rw c.in-Some-2.is at c.in_ok-new.ensures in
    let p = rw (x.tables, c.is_new-is_wanted.ensures, was) at (w.places s (λ i. is_due t block (Family i) c.in-Some.all) 0 3 (rw x.gaggle is.options)
    (omega arith) due) in
    let now = families_shown t block c.args.above marked p.ones (c.either-families.ensures _ _ 0 3 sets.families p.shown) in
    let wanted = wanted_shown t block c.args.above marked p.ones (c.except-2.ensures.if_known _ _ 0 3 plan.live_shown.grandchildren p.shown) in
    let marks = due_marks plan.plane plan.weights.shifts block c.except-types.ensures.if_known c.ranges.above.fits plan.shown marked 4 12 (omega arith)
    (omega arith) in
    let y = rw c.in-Some-3.is at c.in_ok-take_groups.ensures in
    let q = rw (w.tables, x.tables) at (y.groups (with_options s p.options) (type_due block t.weights t.plane) (families_now t block s p.ones)
    (λ i. p.ones i && not (live t.weights t.plane (Grandchildren i))) (rw (w.found, x.found) (on is p.known)) marks now wanted) in
    all_read t block s is c.in-Some.all flag p y.is_in now q
