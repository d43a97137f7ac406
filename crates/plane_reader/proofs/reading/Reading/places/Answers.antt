use Rattle.std.proofs.Common.{arith}
use Rattle.plane_reader.specs.Places.{IsFirst, word_at}
use Rattle.plane_reader.proofs.PlaceReads.{word_ones}
use Rattle.plane_reader.proofs.WindowWords.{few_ones}
use Rattle.plane_reader.proofs.HeldReads.{moves_passed, holds_passed}
use Rattle.plane_reader.proofs.HeldStates.{places_later, held_places}
use Rattle.plane_reader.proofs.HeldTypes.{RowOption, row_option, rows_there, row_small, first_ones, places_say}
use Rattle.plane_reader.proofs.reading.Reading.places.Goals as goal

pub returns-then-not-is_ready-clause-places : goal.returns-then-not-is_ready-clause-places
returns-then-not-is_ready-clause-places g c = λ s f start count are few shown.
    places_later c.args.self.now.tables.now.words.book c.args.due f start count s _ c.is_ready.ensures.stays
    (c.places_singly-read.ensures.places s f start count are few shown)

pub first-first-requires : goal.first-first-requires
first-first-requires g c =
    let reading = c.args.self.now in
    let due = c.args.due in
    let few = few_ones due c.requires.due in
    let row : RowOption reading.gaggle due c.table_of-table.result =
    row_option due c.table_of-table.result c.requires.reading c.requires.due c.table_of-table.ensures (c.is_ready.ensures.known c.if-not-is_ready.false) in
    record {
      some = rows_there due c.table_of-table.result c.requires.reading c.requires.due c.table_of-table.ensures
          (c.is_ready.ensures.known c.if-not-is_ready.false);
      table = row_small c.requires.due few row;
    }

pub pass-requires-clause-count : goal.pass-requires-clause-count
pass-requires-clause-count g c =
    let reading = c.args.self.now in
    let due = c.args.due in
    let few = few_ones due c.requires.due in
    let row : RowOption reading.gaggle due c.table_of-table.result =
    row_option due c.table_of-table.result c.requires.reading c.requires.due c.table_of-table.ensures (c.is_ready.ensures.known c.if-not-is_ready.false) in
    let is : IsFirst reading.tables.now.words.book due row.option c.is_ready.new.cursor.rest c.first-first.result =
    c.first-first.ensures due row.option c.requires.due row.fits row.at in
    let left = c.is_ready.ensures.has c.if-not-is_ready.false in
    omega (arith, is.few)

pub pass-requires-clause-left : goal.pass-requires-clause-left
pass-requires-clause-left g c =
    let reading = c.args.self.now in
    let due = c.args.due in
    let few = few_ones due c.requires.due in
    let row : RowOption reading.gaggle due c.table_of-table.result =
    row_option due c.table_of-table.result c.requires.reading c.requires.due c.table_of-table.ensures (c.is_ready.ensures.known c.if-not-is_ready.false) in
    let is : IsFirst reading.tables.now.words.book due row.option c.is_ready.new.cursor.rest c.first-first.result =
    c.first-first.ensures due row.option c.requires.due row.fits row.at in
    let left = c.is_ready.ensures.has c.if-not-is_ready.false in
    omega (arith, is.few, left)

pub returns-clause-places : goal.returns-clause-places
returns-clause-places g c = λ s f start count are four shown.
    let reading = c.args.self.now in
    let due = c.args.due in
    let few = few_ones due c.requires.due in
    let row : RowOption reading.gaggle due c.table_of-table.result =
    row_option due c.table_of-table.result c.requires.reading c.requires.due c.table_of-table.ensures (c.is_ready.ensures.known c.if-not-is_ready.false) in
    let is : IsFirst reading.tables.now.words.book due row.option c.is_ready.new.cursor.rest c.first-first.result =
    c.first-first.ensures due row.option c.requires.due row.fits row.at in
    let left = c.is_ready.ensures.has c.if-not-is_ready.false in
    let book = reading.tables.now.words.book in
    let sound = reading.tables.now.words.sound in
    let cursor = c.is_ready.new.cursor in
    let first = c.first-first.result in
    rw c.from.ensures
    (held_places book due f start count s are (word_at due first.places) (word_ones f start count (word_at due first.places))
    (first_ones book sound f start count four s are due c.requires.due shown row cursor.rest is) c.is_ready.ensures.stays
    (moves_passed {c = cursor} {d = c.pass.new.self} c.is_ready.ensures.holds first.len (omega (
      arith,
      is.few,
      left,
    )) c.pass.ensures.used c.pass.ensures.window c.pass.ensures.rest c.is_ready.ensures.is_in)
    (places_say book sound f start count four s are due c.requires.due shown row cursor.rest is))

pub returns-clause-reading : goal.returns-clause-reading
returns-clause-reading g c =
    let reading = c.args.self.now in
    let due = c.args.due in
    let few = few_ones due c.requires.due in
    let row : RowOption reading.gaggle due c.table_of-table.result =
    row_option due c.table_of-table.result c.requires.reading c.requires.due c.table_of-table.ensures (c.is_ready.ensures.known c.if-not-is_ready.false) in
    let is : IsFirst reading.tables.now.words.book due row.option c.is_ready.new.cursor.rest c.first-first.result =
    c.first-first.ensures due row.option c.requires.due row.fits row.at in
    let left = c.is_ready.ensures.has c.if-not-is_ready.false in
    record {
      is_in = c.is_ready.ensures.is_in;
      holds = holds_passed {c = c.is_ready.new.cursor} {d = c.pass.new.self} c.is_ready.ensures.holds c.first-first.result.len (omega (
        arith,
        is.few,
        left,
      )) c.pass.ensures.used c.pass.ensures.window c.pass.ensures.rest;
      options = c.requires.reading.options;
      rows = c.requires.reading.rows;
    }

pub returns-clause-holds : goal.returns-clause-holds
returns-clause-holds g c =
    let reading = c.args.self.now in
    let due = c.args.due in
    let few = few_ones due c.requires.due in
    let row : RowOption reading.gaggle due c.table_of-table.result =
    row_option due c.table_of-table.result c.requires.reading c.requires.due c.table_of-table.ensures (c.is_ready.ensures.known c.if-not-is_ready.false) in
    let is : IsFirst reading.tables.now.words.book due row.option c.is_ready.new.cursor.rest c.first-first.result =
    c.first-first.ensures due row.option c.requires.due row.fits row.at in
    let left = c.is_ready.ensures.has c.if-not-is_ready.false in
    holds_passed {c = c.is_ready.new.cursor} {d = c.pass.new.self} c.is_ready.ensures.holds c.first-first.result.len (omega (
      arith,
      is.few,
      left,
    )) c.pass.ensures.used c.pass.ensures.window c.pass.ensures.rest
