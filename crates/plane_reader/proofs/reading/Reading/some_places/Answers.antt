use Rattle.std.proofs.Common.{refl, sym, ◌∙◌, arith}
use Rattle.std.proofs.lemmas.Result.{err_from_is_err_and}
use Rattle.item_defs.specs.Bits.{bit}
use Rattle.plane_defs.specs.Steps.{some_one_where}
use Rattle.block_masks.proofs.Viewing.{shows_own}
use Rattle.plane_reader.proofs.PlaceReads.{any_state}
use Rattle.plane_reader.proofs.TypeReads.{free_if_empty, refused_is}
use Rattle.plane_reader.proofs.HeldWords.{among, ones_fault, ones_missing, ones_false, ones_given}
use Rattle.plane_reader.proofs.reading.Reading.some_places.Goals as goal

pub returns-in_err-places-clause-places : goal.returns-in_err-places-clause-places
returns-in_err-places-clause-places g c = λ s f start count are few shown.
    let p = err_from_is_err_and c.from_residual.result c.from_residual.ensures.1 in
    let free = free_if_empty c.args.is_wanted f start count c.args.due few shown c.requires.some in
    rw (p.1, p.2) (ones_fault c.args.self.now.tables.now.words.book (some_one_where c.args.is_wanted) f start count s free _
    (c.in_err-places.ensures.places s f start count are few shown))

pub returns-in_default-clause-places : goal.returns-in_default-clause-places
returns-in_default-clause-places g c = λ s f start count are few shown.
    let t = rw c.in_default.is at c.in_ok-places.ensures in
    let free = free_if_empty c.args.is_wanted f start count c.args.due few shown c.requires.some in
    ones_missing c.args.self.now.tables.now.words.book (some_one_where c.args.is_wanted) f start count s free (t.places s f start count are few shown)

pub returns-then-is_missing-clause-places : goal.returns-then-is_missing-clause-places
returns-then-is_missing-clause-places g c = λ s f start count are few shown.
    let t = rw c.in-Some.is at c.in_ok-places.ensures in
    let p = t.places s f start count are few shown in
    let free = free_if_empty c.args.is_wanted f start count c.args.due few shown c.requires.some in
    let bad = sym c.is_missing.ensures ∙ c.if-is_missing.true in
    ones_false c.args.self.now.tables.now.words.book (some_one_where c.args.is_wanted) f start count s free p (refused_is c.args.is_wanted p.are ∙ bad)

pub returns-clause-places : goal.returns-clause-places
returns-clause-places g c = λ s f start count are few shown.
    let t = rw c.in-Some.is at c.in_ok-places.ensures in
    let p = t.places s f start count are few shown in
    let free = free_if_empty c.args.is_wanted f start count c.args.due few shown c.requires.some in
    let good = sym c.is_missing.ensures ∙ c.if-is_missing.false in
    ones_given c.args.self.now.tables.now.words.book (some_one_where c.args.is_wanted) f start count s free p (refused_is c.args.is_wanted p.are ∙ good)

pub returns-clause-among : goal.returns-clause-among
returns-clause-among g c =
    let t = rw c.in-Some.is at c.in_ok-places.ensures in
    among (t.places (any_state c.args.self.now.gaggle) (bit c.args.due) 0 4 (λ n low high. refl) (omega arith) (shows_own c.args.due 4 (omega (
      arith,
      c.requires.due,
    )))).are
