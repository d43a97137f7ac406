use Rattle.std.proofs.Common.{◌∙◌, refl, sym, map, filter, arith}
use Rattle.std.proofs.lemmas.Result.{err_from_is_err_and}
use Rattle.item_defs.specs.Bits.{bit}
use Rattle.plane_defs.specs.Spans.{span}
use Rattle.plane_defs.specs.Steps.{ones_at}
use Rattle.block_masks.proofs.Viewing.{shows_own}
use Rattle.plane_reader.proofs.PlaceReads.{any_state}
use Rattle.plane_reader.proofs.HeldWords.{among, ones_fault, ones_missing, ones_false, ones_given, none_wanted, here_shown, lacking_is}
use Rattle.plane_reader.proofs.reading.Reading.wanted_places.Goals as goal

pub returns-in_err-places-clause-places : goal.returns-in_err-places-clause-places
returns-in_err-places-clause-places g c = λ s f forced start count are few shown wanted.
    let p = err_from_is_err_and c.from_residual.result c.from_residual.ensures.1 in
    let check = ones_at (map forced (filter f (span start count))) in
    rw (p.1, p.2) (ones_fault c.args.self.now.tables.now.words.book check f start count s (none_wanted forced f start count) _
    (c.in_err-places.ensures.places s f start count are few shown))

pub returns-in_default-clause-places : goal.returns-in_default-clause-places
returns-in_default-clause-places g c = λ s f forced start count are few shown wanted.
    let t = rw c.in_default.is at c.in_ok-places.ensures in
    let check = ones_at (map forced (filter f (span start count))) in
    ones_missing c.args.self.now.tables.now.words.book check f start count s (none_wanted forced f start count) (t.places s f start count are few shown)

pub returns-then-is_any-clause-places : goal.returns-then-is_any-clause-places
returns-then-is_any-clause-places g c = λ s f forced start count are few shown wanted.
    let t = rw c.in-Some.is at c.in_ok-places.ensures in
    let p = t.places s f start count are few shown in
    let check = ones_at (map forced (filter f (span start count))) in
    let masks = c.except.ensures.if_known _ _ start count (here_shown forced f start count c.args.due p.word c.in-Some.places few shown p.are) wanted in
    let test = c.is_any.ensures _ start count masks in
    ones_false c.args.self.now.tables.now.words.book check f start count s (none_wanted forced f start count) p
    (lacking_is forced f start count c.args.due p.word c.in-Some.places few shown p.are ∙ sym test ∙ c.if-is_any.true)

pub returns-clause-places : goal.returns-clause-places
returns-clause-places g c = λ s f forced start count are few shown wanted.
    let t = rw c.in-Some.is at c.in_ok-places.ensures in
    let p = t.places s f start count are few shown in
    let check = ones_at (map forced (filter f (span start count))) in
    let masks = c.except.ensures.if_known _ _ start count (here_shown forced f start count c.args.due p.word c.in-Some.places few shown p.are) wanted in
    let test = c.is_any.ensures _ start count masks in
    ones_given c.args.self.now.tables.now.words.book check f start count s (none_wanted forced f start count) p
    (lacking_is forced f start count c.args.due p.word c.in-Some.places few shown p.are ∙ sym test ∙ c.if-is_any.false)

pub returns-clause-among : goal.returns-clause-among
returns-clause-among g c =
    let t = rw c.in-Some.is at c.in_ok-places.ensures in
    among (t.places (any_state c.args.self.now.gaggle) (bit c.args.due) 0 4 (λ n low high. refl) (omega arith) (shows_own c.args.due 4 (omega (
      arith,
      c.requires.due,
    )))).are
