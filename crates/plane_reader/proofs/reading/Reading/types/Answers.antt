use Rattle.std.proofs.Common.{◌≡◌, ◌≤◌, ◌+◌, ◌-◌, ◌*◌, ◌/◌, ◌%◌, ◌^◌, ◌&&◌, ◌||◌, ◌==◌, true, false, ℕ, Bool, subst, sym, ap, ◌∙◌, arith, rules, count_ones}
use Rattle.bit_pipe.specs.Windows.{first_of}
use Rattle.plane_defs.specs.Spans.{span}
use Rattle.block_masks.specs.Masks.{Shows}
use Rattle.block_masks.specs.Picks.{AreSpread}
use Rattle.block_masks.proofs.Viewing.{from_zero, nibble_small, shows_own}
use Rattle.block_masks.specs.Places.{inside}
use Rattle.bit_pipe.specs.ScriptSources.{Says}
use Rattle.plane_defs.specs.Steps.{some_one_where}
use Rattle.plane_defs.specs.States.{State}
use Rattle.plane_defs.specs.WordScripts.{due_script}
use Rattle.plane_reader.specs.Takes.{unless_bad}
use Rattle.plane_reader.specs.Places.{IsFirst, word_at}
use Rattle.plane_reader.proofs.FoundMasks.{room_four}
use Rattle.plane_reader.proofs.TypeReads.{part_marks, free_if_empty, refused_is}
use Rattle.plane_reader.proofs.PlaceReads.{word_ones}
use Rattle.plane_reader.proofs.WindowWords.{few_ones}
use Rattle.plane_reader.proofs.HeldReads.{moves_passed, holds_passed}
use Rattle.plane_reader.proofs.HeldStates.{held_later, held_false, held_types}
use Rattle.plane_reader.proofs.HeldTypes.{RowOption, row_option, rows_there, row_small, first_ones, places_say, types_gets, types_is, some_here, signs_word}
use Rattle.plane_reader.proofs.reading.Reading.types.Goals as goal

pub table_of-table-requires : goal.table_of-table-requires
table_of-table-requires g c = nibble_small c.part-here.result c.args.group.count c.requires.few c.part-here.ensures.within

pub types_singly-read-requires-clause-some : goal.types_singly-read-requires-clause-some
types_singly-read-requires-clause-some g c = λ wanted.
    let group = c.args.group in
    let within : group.start + group.count ≤ 64 = omega (arith, c.requires.start, c.requires.few) in
    let own = from_zero group.start (c.part-here.ensures.if_known _ 0 64 (shows_own c.args.due 64 (search rules)) within) in
    some_here (search rules) own (c.requires.some wanted)

pub returns-then-not-is_ready-clause-types : goal.returns-then-not-is_ready-clause-types
returns-then-not-is_ready-clause-types g c = λ s f is marks.
    let group = c.args.group in
    let within : group.start + group.count ≤ 64 = omega (arith, c.requires.start, c.requires.few) in
    let own = from_zero group.start (c.part-here.ensures.if_known _ 0 64 (shows_own c.args.due 64 (search rules)) within) in
    held_later _ _ c.is_ready.ensures.stays (c.types_singly-read.ensures.types s f is (part_marks c.args.due f marks own))

pub first-first-requires : goal.first-first-requires
first-first-requires g c =
    let group = c.args.group in
    let reading = c.args.self.now in
    let here = c.part-here.result in
    let small = nibble_small here group.count c.requires.few c.part-here.ensures.within in
    let row : RowOption reading.gaggle here c.table_of-table.result =
    row_option here c.table_of-table.result c.requires.reading small c.table_of-table.ensures (c.is_ready.ensures.known c.if-not-is_ready.false) in
    record {
      some = rows_there here c.table_of-table.result c.requires.reading small c.table_of-table.ensures
          (c.is_ready.ensures.known c.if-not-is_ready.false);
      table = row_small small (few_ones here small) row;
    }

pub pass-requires-clause-count : goal.pass-requires-clause-count
pass-requires-clause-count g c =
    let group = c.args.group in
    let reading = c.args.self.now in
    let here = c.part-here.result in
    let small = nibble_small here group.count c.requires.few c.part-here.ensures.within in
    let row : RowOption reading.gaggle here c.table_of-table.result =
    row_option here c.table_of-table.result c.requires.reading small c.table_of-table.ensures (c.is_ready.ensures.known c.if-not-is_ready.false) in
    let is : IsFirst reading.tables.now.words.book here row.option c.is_ready.new.cursor.rest c.first-first.result =
    c.first-first.ensures here row.option small row.fits row.at in
    omega (arith, is.few)

pub pass-requires-clause-left : goal.pass-requires-clause-left
pass-requires-clause-left g c =
    let group = c.args.group in
    let reading = c.args.self.now in
    let here = c.part-here.result in
    let small = nibble_small here group.count c.requires.few c.part-here.ensures.within in
    let row : RowOption reading.gaggle here c.table_of-table.result =
    row_option here c.table_of-table.result c.requires.reading small c.table_of-table.ensures (c.is_ready.ensures.known c.if-not-is_ready.false) in
    let is : IsFirst reading.tables.now.words.book here row.option c.is_ready.new.cursor.rest c.first-first.result =
    c.first-first.ensures here row.option small row.fits row.at in
    omega (arith, is.few, c.is_ready.ensures.has c.if-not-is_ready.false)

pub returns-then-is_missing-clause-types : goal.returns-then-is_missing-clause-types
returns-then-is_missing-clause-types g c = λ s f is_state marks.
    let group = c.args.group in
    let reading = c.args.self.now in
    let here = c.part-here.result in
    let small = nibble_small here group.count c.requires.few c.part-here.ensures.within in
    let row : RowOption reading.gaggle here c.table_of-table.result =
    row_option here c.table_of-table.result c.requires.reading small c.table_of-table.ensures (c.is_ready.ensures.known c.if-not-is_ready.false) in
    let is : IsFirst reading.tables.now.words.book here row.option c.is_ready.new.cursor.rest c.first-first.result =
    c.first-first.ensures here row.option small row.fits row.at in
    let within : group.start + group.count ≤ 64 = omega (arith, c.requires.start, c.requires.few) in
    let own = from_zero group.start (c.part-here.ensures.if_known _ 0 64 (shows_own c.args.due 64 (search rules)) within) in
    let shows = part_marks c.args.due f marks own in
    let book = reading.tables.now.words.book in
    let sound = reading.tables.now.words.sound in
    let cursor = c.is_ready.new.cursor in
    let left = c.is_ready.ensures.has c.if-not-is_ready.false in
    let e : (group.is_wanted && (c.first-first.result.places == 0)) ≡ true =
    sym (c.is_missing.ensures ∙ ap (λ n. group.is_wanted && (n == 0)) c.from-places.ensures) ∙ c.if-is_missing.true in
    let ones = word_ones f group.start group.count (word_at here c.first-first.result.places) in
    let free = free_if_empty group.is_wanted f group.start group.count here c.requires.few shows (λ wanted. some_here (search rules) own
    (c.requires.some wanted)) in
    let o : State × (ℕ → Bool) = (s, ones) in
    let says = subst (λ b. Says (due_script book f (some_one_where group.is_wanted) (span group.start group.count) s)
    (first_of c.first-first.result.len cursor.rest) (unless_bad b s o))
    (refused_is group.is_wanted (first_ones book sound f group.start group.count c.requires.few s is_state.options here small shows row cursor.rest is) ∙ e)
    (places_say book sound f group.start group.count c.requires.few s is_state.options here small shows row cursor.rest is
    (some_one_where group.is_wanted) free) in
    held_false book f group.is_wanted group.start group.count s ones is_state c.is_ready.ensures.stays
    (moves_passed {c = cursor} {d = c.pass.new.self} c.is_ready.ensures.holds c.first-first.result.len (omega (
      arith,
      is.few,
      left,
    )) c.pass.ensures.used c.pass.ensures.window c.pass.ensures.rest c.is_ready.ensures.is_in) says

pub returns-then-is_missing-clause-holds : goal.returns-then-is_missing-clause-holds
returns-then-is_missing-clause-holds g c =
    let group = c.args.group in
    let reading = c.args.self.now in
    let here = c.part-here.result in
    let small = nibble_small here group.count c.requires.few c.part-here.ensures.within in
    let row : RowOption reading.gaggle here c.table_of-table.result =
    row_option here c.table_of-table.result c.requires.reading small c.table_of-table.ensures (c.is_ready.ensures.known c.if-not-is_ready.false) in
    let is : IsFirst reading.tables.now.words.book here row.option c.is_ready.new.cursor.rest c.first-first.result =
    c.first-first.ensures here row.option small row.fits row.at in
    holds_passed {c = c.is_ready.new.cursor} {d = c.pass.new.self} c.is_ready.ensures.holds c.first-first.result.len (omega (
      arith,
      is.few,
      c.is_ready.ensures.has c.if-not-is_ready.false,
    )) c.pass.ensures.used c.pass.ensures.window c.pass.ensures.rest

pub overflow_shl-signs : goal.overflow_shl-signs
overflow_shl-signs g c =
    let group = c.args.group in
    let reading = c.args.self.now in
    let here = c.part-here.result in
    let small = nibble_small here group.count c.requires.few c.part-here.ensures.within in
    let row : RowOption reading.gaggle here c.table_of-table.result =
    row_option here c.table_of-table.result c.requires.reading small c.table_of-table.ensures (c.is_ready.ensures.known c.if-not-is_ready.false) in
    let is : IsFirst reading.tables.now.words.book here row.option c.is_ready.new.cursor.rest c.first-first.result =
    c.first-first.ensures here row.option small row.fits row.at in
    omega (arith, is.few)

pub add_bits-requires-clause-room : goal.add_bits-requires-clause-room
add_bits-requires-clause-room g c =
    let group = c.args.group in
    let reading = c.args.self.now in
    let here = c.part-here.result in
    let small = nibble_small here group.count c.requires.few c.part-here.ensures.within in
    let row : RowOption reading.gaggle here c.table_of-table.result =
    row_option here c.table_of-table.result c.requires.reading small c.table_of-table.ensures (c.is_ready.ensures.known c.if-not-is_ready.false) in
    let is : IsFirst reading.tables.now.words.book here row.option c.is_ready.new.cursor.rest c.first-first.result =
    c.first-first.ensures here row.option small row.fits row.at in
    room_four c.from-places.result group.start c.requires.start (rw c.from-places.ensures is.places.small)

pub spread_first-requires-clause-due : goal.spread_first-requires-clause-due
spread_first-requires-clause-due g c =
    let group = c.args.group in
    let reading = c.args.self.now in
    let here = c.part-here.result in
    let small = nibble_small here group.count c.requires.few c.part-here.ensures.within in
    let row : RowOption reading.gaggle here c.table_of-table.result =
    row_option here c.table_of-table.result c.requires.reading small c.table_of-table.ensures (c.is_ready.ensures.known c.if-not-is_ready.false) in
    let is : IsFirst reading.tables.now.words.book here row.option c.is_ready.new.cursor.rest c.first-first.result =
    c.first-first.ensures here row.option small row.fits row.at in
    rw c.from-places.ensures is.places.small

pub add_minus-requires-clause-room : goal.add_minus-requires-clause-room
add_minus-requires-clause-room g c = room_four c.spread_first.result c.args.group.start c.requires.start c.spread_first.ensures.small

pub pass-requires-2-clause-count : goal.pass-requires-2-clause-count
pass-requires-2-clause-count g c =
    let group = c.args.group in
    let reading = c.args.self.now in
    let here = c.part-here.result in
    let small = nibble_small here group.count c.requires.few c.part-here.ensures.within in
    let row : RowOption reading.gaggle here c.table_of-table.result =
    row_option here c.table_of-table.result c.requires.reading small c.table_of-table.ensures (c.is_ready.ensures.known c.if-not-is_ready.false) in
    let is : IsFirst reading.tables.now.words.book here row.option c.is_ready.new.cursor.rest c.first-first.result =
    c.first-first.ensures here row.option small row.fits row.at in
    omega (arith, is.few, is.signed, few_ones c.first-first.result.places is.places.small)

pub pass-requires-2-clause-left : goal.pass-requires-2-clause-left
pass-requires-2-clause-left g c =
    let group = c.args.group in
    let reading = c.args.self.now in
    let here = c.part-here.result in
    let small = nibble_small here group.count c.requires.few c.part-here.ensures.within in
    let row : RowOption reading.gaggle here c.table_of-table.result =
    row_option here c.table_of-table.result c.requires.reading small c.table_of-table.ensures (c.is_ready.ensures.known c.if-not-is_ready.false) in
    let is : IsFirst reading.tables.now.words.book here row.option c.is_ready.new.cursor.rest c.first-first.result =
    c.first-first.ensures here row.option small row.fits row.at in
    omega (arith, is.few, is.signed, few_ones c.first-first.result.places is.places.small, c.is_ready.ensures.has c.if-not-is_ready.false)

pub returns-clause-types : goal.returns-clause-types
returns-clause-types g c = λ s f is_state marks.
    let group = c.args.group in
    let reading = c.args.self.now in
    let here = c.part-here.result in
    let small = nibble_small here group.count c.requires.few c.part-here.ensures.within in
    let row : RowOption reading.gaggle here c.table_of-table.result =
    row_option here c.table_of-table.result c.requires.reading small c.table_of-table.ensures (c.is_ready.ensures.known c.if-not-is_ready.false) in
    let is : IsFirst reading.tables.now.words.book here row.option c.is_ready.new.cursor.rest c.first-first.result =
    c.first-first.ensures here row.option small row.fits row.at in
    let within : group.start + group.count ≤ 64 = omega (arith, c.requires.start, c.requires.few) in
    let own = from_zero group.start (c.part-here.ensures.if_known _ 0 64 (shows_own c.args.due 64 (search rules)) within) in
    let shows = part_marks c.args.due f marks own in
    let book = reading.tables.now.words.book in
    let sound = reading.tables.now.words.sound in
    let cursor = c.is_ready.new.cursor in
    let first = c.first-first.result in
    let left = c.is_ready.ensures.has c.if-not-is_ready.false in
    let e : (group.is_wanted && (first.places == 0)) ≡ false =
    sym (c.is_missing.ensures ∙ ap (λ n. group.is_wanted && (n == 0)) c.from-places.ensures) ∙ c.if-is_missing.false in
    let free = free_if_empty group.is_wanted f group.start group.count here c.requires.few shows (λ wanted. some_here (search rules) own
    (c.requires.some wanted)) in
    let few = few_ones first.places is.places.small in
    let tail = cursor.rest * 2 ^ first.len % 2 ^ 64 in
    let same = c.from-places.ensures in
    let spread : AreSpread first.places (tail / 2 ^ 60 / 2 ^ (4 - count_ones first.places)) c.spread_first.result =
    subst (λ n. AreSpread n (tail / 2 ^ 60 / 2 ^ (4 - count_ones n)) c.spread_first.result) same c.spread_first.ensures in
    held_types book f group.is_wanted group.start group.count s
    (types_is book sound f group.start group.count c.requires.few s is_state.options here small shows row cursor.rest is (signs_word tail
    (count_ones first.places) (omega arith) few) spread within reading.found c.add_bits.new.self c.add_minus.new.self is_state c.add_bits.ensures.minus
    (c.add_minus.ensures.raw ∙ c.add_bits.ensures.raw)
    (subst (λ n. (h g' : ℕ → Bool) (m : ℕ) → group.start + m ≤ 64 → Shows reading.found.bits h 0 64 → Shows n g' group.start m →
    Shows c.add_bits.new.self.bits (λ p. h p || (inside group.start m p && g' p)) 0 64) same c.add_bits.ensures.bits) c.add_minus.ensures.bits
    c.add_minus.ensures.minus)
    c.is_ready.ensures.stays
    (moves_passed {c = cursor} {d = c.pass-2.new.self} c.is_ready.ensures.holds first.signed_len (omega (
      arith,
      is.few,
      is.signed,
      few,
      left,
    )) c.pass-2.ensures.used c.pass-2.ensures.window c.pass-2.ensures.rest c.is_ready.ensures.is_in)
    (types_gets book sound f group.start group.count c.requires.few s is_state.options here small shows row cursor.rest is group.is_wanted free e)

pub returns-clause-reading : goal.returns-clause-reading
returns-clause-reading g c =
    let group = c.args.group in
    let reading = c.args.self.now in
    let here = c.part-here.result in
    let small = nibble_small here group.count c.requires.few c.part-here.ensures.within in
    let row : RowOption reading.gaggle here c.table_of-table.result =
    row_option here c.table_of-table.result c.requires.reading small c.table_of-table.ensures (c.is_ready.ensures.known c.if-not-is_ready.false) in
    let is : IsFirst reading.tables.now.words.book here row.option c.is_ready.new.cursor.rest c.first-first.result =
    c.first-first.ensures here row.option small row.fits row.at in
    record {
      is_in = c.is_ready.ensures.is_in;
      holds = holds_passed {c = c.is_ready.new.cursor} {d = c.pass-2.new.self} c.is_ready.ensures.holds c.first-first.result.signed_len (omega (
        arith,
        is.few,
        is.signed,
        few_ones c.first-first.result.places is.places.small,
        c.is_ready.ensures.has c.if-not-is_ready.false,
      )) c.pass-2.ensures.used c.pass-2.ensures.window c.pass-2.ensures.rest;
      options = c.requires.reading.options;
      rows = c.requires.reading.rows;
    }

pub returns-clause-holds : goal.returns-clause-holds
returns-clause-holds g c =
    let group = c.args.group in
    let reading = c.args.self.now in
    let here = c.part-here.result in
    let small = nibble_small here group.count c.requires.few c.part-here.ensures.within in
    let row : RowOption reading.gaggle here c.table_of-table.result =
    row_option here c.table_of-table.result c.requires.reading small c.table_of-table.ensures (c.is_ready.ensures.known c.if-not-is_ready.false) in
    let is : IsFirst reading.tables.now.words.book here row.option c.is_ready.new.cursor.rest c.first-first.result =
    c.first-first.ensures here row.option small row.fits row.at in
    holds_passed {c = c.is_ready.new.cursor} {d = c.pass-2.new.self} c.is_ready.ensures.holds c.first-first.result.signed_len (omega (
      arith,
      is.few,
      is.signed,
      few_ones c.first-first.result.places is.places.small,
      c.is_ready.ensures.has c.if-not-is_ready.false,
    )) c.pass-2.ensures.used c.pass-2.ensures.window c.pass-2.ensures.rest
