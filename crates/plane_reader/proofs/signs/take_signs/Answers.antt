use Rattle.std.proofs.Common.{◌≤◌, arith, refl}
use Rattle.block_masks.proofs.Viewing.{nibble_small}
use Rattle.bit_pipe.proofs.ScriptReading.{leaves_all}
use Rattle.plane_reader.proofs.FoundMasks.{room_four}
use Rattle.plane_reader.proofs.WindowWords.{few_ones, word_small, word_value}
use Rattle.plane_reader.proofs.SignReads.{none_left, signs_all, signs_at_once}
use Rattle.plane_reader.proofs.signs.take_signs.Goals as goal

pub returns-then-new-eq0-clause-signs : goal.returns-then-new-eq0-clause-signs
returns-then-new-eq0-clause-signs g c = λ s shown.
    record {
      minus = s.minus;
      shown = shown;
      read = signs_all _ _ s (leaves_all _ _)
          (none_left c.args.new c.args.start c.args.count c.if-new-eq0.true) c.requires.open;
    }

pub count_of-due-requires : goal.count_of-due-requires
count_of-due-requires g c = nibble_small c.args.new c.args.count c.requires.four c.requires.few

pub overflow_cast-word-2 : goal.overflow_cast-word-2
overflow_cast-word-2 g c =
    let small = nibble_small c.args.new c.args.count c.requires.four c.requires.few in
    let due : c.count_of-due.result ≤ 4 = rw c.count_of-due.ensures (few_ones c.args.new small) in
    omega (arith, word_small c.in-Some.window _ c.count_of-due.result (omega arith) refl due)

pub spread-requires-clause-due : goal.spread-requires-clause-due
spread-requires-clause-due g c = nibble_small c.args.new c.args.count c.requires.four c.requires.few

pub spread-requires-clause-word : goal.spread-requires-clause-word
spread-requires-clause-word g c =
    let small = nibble_small c.args.new c.args.count c.requires.four c.requires.few in
    let due : c.count_of-due.result ≤ 4 = rw c.count_of-due.ensures (few_ones c.args.new small) in
    word_small c.in-Some.window _ c.count_of-due.result (omega arith) refl due

pub add_minus-requires-clause-room : goal.add_minus-requires-clause-room
add_minus-requires-clause-room g c = room_four c.spread.result c.args.start c.requires.start c.spread.ensures.small

pub returns-clause-signs : goal.returns-clause-signs
returns-clause-signs g c = λ s shown.
    let small = nibble_small c.args.new c.args.count c.requires.four c.requires.few in
    let due : c.count_of-due.result ≤ 4 = rw c.count_of-due.ensures (few_ones c.args.new small) in
    signs_at_once c.args.new c.args.start c.args.count c.in-Some.window _ c.count_of-due.result c.spread.result c.requires.few c.requires.four
    (word_value c.in-Some.window _ c.count_of-due.result (omega arith) refl due) c.count_of-due.ensures c.spread.ensures
    s c.add_minus.new.self.minus (λ f g' is. c.add_minus.ensures.minus s.minus g' c.args.count c.requires.within shown is) c.take_window.ensures
