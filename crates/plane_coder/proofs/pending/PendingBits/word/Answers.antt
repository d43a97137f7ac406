use Rattle.std.proofs.Common.{◌++◌, ◌/◌, ◌%◌, ap, ◌∙◌, arith}
use Rattle.plane_coder.specs.Coding.{word_bits, option_for}
use Rattle.plane_coder.specs.Appends.{said}
use Rattle.plane_coder.proofs.Appending.{appends_word}
use Rattle.plane_coder.proofs.pending.PendingBits.word.Goals as goal

pub coded-requires : goal.coded-requires
coded-requires c = record { packed = c.requires.packed; room = omega (arith, c.requires.room, c.open_first.ensures.load) }

pub returns : goal.returns
returns c =
    let book = c.args.option_codes.now.tables.now.book in
    let word = c.args.word in
    let coded = c.coded.ensures in
    appends_word book c.args.self.now c.open_first.new.self c.coded.new.self word c.open_first.ensures.opens c.open_first.ensures.load coded.load
    (coded.said ∙ ap (λ o. said c.open_first.new.self ++ word_bits book (word / 16) (option_for o (word / 16)) (word % 16)) c.requires.same) coded.gaggle
