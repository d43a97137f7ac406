use Rattle.std.proofs.Common.{◌∷◌, [], sym, subst}
use Rattle.plane_coder.specs.Appends.{Appends}
use Rattle.plane_coder.specs.Picked.{IsPacked, word_of, raws_of}
use Rattle.plane_coder.proofs.Appending.{appends_both}
use Rattle.plane_coder.proofs.pending.PendingBits.typed.Goals as goal

pub word-requires-clause-packed : goal.word-requires-clause-packed
word-requires-clause-packed c = subst IsPacked (sym c.word-word.ensures) c.requires.packed.word

pub raws-requires-clause-packed : goal.raws-requires-clause-packed
raws-requires-clause-packed c = subst IsPacked (sym c.signs-signs.ensures) c.requires.packed.signs

pub returns : goal.returns
returns c =
    let book = c.args.option_codes.now.tables.now.book in
    appends_both 8 4 (subst (λ n. Appends book c.args.self.now c.word.new.self (word_of n ∷ []) 8) c.word-word.ensures c.word.ensures)
    (subst (λ n. Appends book c.word.new.self c.raws.new.self (raws_of n) 4) c.signs-signs.ensures (c.raws.ensures.raws book))
