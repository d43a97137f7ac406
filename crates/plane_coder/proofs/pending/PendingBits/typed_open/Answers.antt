use Rattle.std.proofs.Common.{◌∷◌, [], ◌++◌, ◌/◌, ◌%◌, refl, ap, sym, ◌∙◌, subst, arith}
use Rattle.plane_coder.specs.Appends.{Appends, said}
use Rattle.plane_coder.specs.Coding.{word_bits, option_for}
use Rattle.plane_coder.specs.Picked.{IsPacked, word_of, raws_of}
use Rattle.plane_coder.proofs.Appending.{appends_both, appends_word, opens_any, still_open}
use Rattle.plane_coder.proofs.pending.PendingBits.typed_open.Goals as goal

pub coded-requires : goal.coded-requires
coded-requires c = record { packed = subst IsPacked (sym c.word.ensures) c.requires.packed.word; room = omega (arith, c.requires.room) }

pub raws-requires : goal.raws-requires
raws-requires c = record {
  packed = subst IsPacked (sym c.signs.ensures) c.requires.packed.signs;
  room = omega (arith, c.requires.room, c.coded.ensures.load);
}

pub returns : goal.returns
returns c =
    let book = c.args.option_codes.now.tables.now.book in
    let a = c.args.self.now in
    let b = c.coded.new.self in
    let word = c.word.result in
    let coded = c.coded.ensures in
    let long = subst IsPacked (sym c.word.ensures) c.requires.packed.word in
    let put = coded.said ∙ ap (λ o. said a ++ word_bits book (word / 16) (option_for o (word / 16)) (word % 16)) c.requires.same in
    let first = appends_word book a a b word (opens_any (word / 16) a long.length c.requires.none) refl coded.load put coded.gaggle in
    record {
      appends = appends_both 8 4 (subst (λ n. Appends book a b (word_of n ∷ []) 8) c.word.ensures first)
          (subst (λ n. Appends book b c.raws.new.self (raws_of n) 4) c.signs.ensures (c.raws.ensures.raws book));
      none = still_open a c.raws.new.self (c.raws.ensures.gaggle ∙ coded.gaggle) c.requires.none;
    }
