use Rattle.std.proofs.Common.{◌≡◌, ◌≤◌, ◌+◌, ◌&&◌, ◌==◌, ◌∙◌, false, true, arith}
use Rattle.std.proofs.lemmas.Bool.Decides.{nat_tests}
use Rattle.std.proofs.lemmas.Result.{err_from_is_err_and}
use Rattle.block_masks.proofs.Viewing.{nibble_small}
use Rattle.plane_reader.proofs.FoundMasks.{room_four}
use Rattle.plane_reader.proofs.TypeReads.{types_fault, types_missing, types_false, types_read}
use Rattle.plane_reader.proofs.SmallTests.{not_zero, not_wanted}
use Rattle.plane_reader.proofs.types.take_types.Goals as goal
use Rattle.plane_reader.proofs.types.take_types.Goals.{else-group-via-then-group+else-new-eq0, else-group-via-else-group}

pub take_due-requires-clause-due : goal.take_due-requires-clause-due
take_due-requires-clause-due g c = nibble_small c.args.due c.args.group.count c.requires.few c.requires.due

pub returns-in_err-new-clause-types : goal.returns-in_err-new-clause-types
returns-in_err-new-clause-types g c = λ s f is shown.
    let p = err_from_is_err_and c.from_residual.result c.from_residual.ensures.1 in
    let group = c.args.group in
    rw (p.1, p.2) (types_fault c.args.tables.now.book group.is_wanted f group.start group.count c.args.due c.requires.few shown c.requires.some s is _
    (c.in_err-new.ensures.places s f group.start group.count is.options c.requires.few shown))

pub returns-in_default-clause-types : goal.returns-in_default-clause-types
returns-in_default-clause-types g c = λ s f is shown.
    let t = rw c.in_default.is at c.in_ok-new.ensures in
    let group = c.args.group in
    types_missing c.args.tables.now.book group.is_wanted f group.start group.count c.args.due c.requires.few shown c.requires.some s is
    (t.places s f group.start group.count is.options c.requires.few shown)

pub returns-then-new-eq0-clause-types : goal.returns-then-new-eq0-clause-types
returns-then-new-eq0-clause-types g c = λ s f is shown.
    let t = rw c.in-Some.is at c.in_ok-new.ensures in
    let group = c.args.group in
    let e : (group.is_wanted && (c.in-Some.new == 0)) ≡ true = grind (arith, nat_tests, c.if-new-eq0.true) in
    types_false c.args.tables.now.book group.is_wanted f group.start group.count c.args.due c.requires.few shown c.requires.some s is
    (t.places s f group.start group.count is.options c.requires.few shown) e

pub add_bits-requires-clause-room : goal.add_bits-requires-clause-room
add_bits-requires-clause-room g c =
    let t = rw c.in-Some.is at c.in_ok-new.ensures in
    room_four c.in-Some.new c.args.group.start c.requires.start (t.small 4 (omega arith)
    (nibble_small c.args.due c.args.group.count c.requires.few c.requires.due))

pub returns-clause-types : goal.returns-clause-types
returns-clause-types g c = λ s f is shown.
    let t = rw c.in-Some.is at c.in_ok-new.ensures in
    let group = c.args.group in
    let within : group.start + group.count ≤ 64 = omega (arith, c.requires.start, c.requires.few) in
    let d = t.places s f group.start group.count is.options c.requires.few shown in
    let e : (group.is_wanted && (c.in-Some.new == 0)) ≡ false = elim c.else-group.branch [
      | else-group-via-then-group+else-new-eq0 w ↦ not_zero group.is_wanted c.in-Some.new w.if-new-eq0.false
      | else-group-via-else-group w ↦ not_wanted group.is_wanted (c.in-Some.new == 0) w.if-group.false
    ] in
    types_read c.args.tables.now.book group.is_wanted f group.start group.count c.args.due c.requires.few shown c.requires.some s is d c.add_bits.new.self e
    c.add_bits.ensures.bits within c.add_bits.ensures.minus (c.take_signs.ensures.raw ∙ c.add_bits.ensures.raw)
    (c.take_signs.ensures.signs _ (rw c.add_bits.ensures.minus is.minus)) c.take_signs.ensures.bits
