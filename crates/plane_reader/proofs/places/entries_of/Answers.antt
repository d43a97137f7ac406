use Rattle.std.proofs.Common.{◌≡◌, ◌≤◌, ◌<◌, ◌*◌, ◌/◌, ◌%◌, ◌^◌, ◌∙◌, ap, sym, subst, inl, inr, arith, count_ones, get_or, get_or-set_same}
use Rattle.std.proofs.Common.{get_or-set_other, length-set, pow_mono, set}
use Rattle.std.proofs.lemmas.Bool.{cases_lt}
use Rattle.item_defs.specs.Items.{item_bits}
use Rattle.bit_pipe.specs.Windows.{first_of}
use Rattle.plane_defs.specs.Codes.{word_item}
use Rattle.block_masks.specs.Picks.{AreSpread}
use Rattle.plane_reader.specs.declared.places.FirstPlaces.{FirstPlaces}
use Rattle.plane_reader.specs.Places.{IsFirst, nothing_first}
use Rattle.plane_reader.proofs.WindowWords.{few_ones}
use Rattle.plane_reader.proofs.EntryTables.{first_is, same_octet, octet_of}
use Rattle.plane_reader.proofs.places.entries_of.Goals as goal

pub first_word-word-requires-clause-long : goal.first_word-word-requires-clause-long
first_word-word-requires-clause-long c = rw (c.count_of-count.ensures, c.from-mask.ensures) (few_ones c.args.due c.requires.due)

pub spread-requires-clause-word : goal.spread-requires-clause-word
spread-requires-clause-word c =
    let most : c.count_of-count.result ≤ 4 = rw (c.count_of-count.ensures, c.from-mask.ensures) (few_ones c.args.due c.requires.due) in
    omega (arith, c.first_word-word.ensures.fits, pow_mono most)

pub loop-octet-preserved : goal.loop-octet-preserved
loop-octet-preserved c = record {
  size = simp length-set c.loop-octet.invariant.size;
  done = λ window fits lt.
      let octet = c.loop-octet.octet in
      let w = c.first_word-word.ensures in
      let word = c.first_word-word.result in
      let n = c.count_of-count.ensures ∙ ap count_ones c.from-mask.ensures in
      let book = c.args.words.now.book in
      let due = c.args.due in
      let option = c.args.option in
      let entry : FirstPlaces = record { places = c.spread.result; len = word.len; signed_len = word.signed_len } in
      elim (cases_lt (window / 2 ^ 56) octet) [
        | inl less ↦ subst (IsFirst book due option window) (sym (get_or-set_other c.loop-octet.entries octet (window / 2 ^ 56) entry nothing_first
            (λ e. omega (arith, e, less)))) (c.loop-octet.invariant.done window fits less)
        | inr ge ↦
            let same : window / 2 ^ 56 ≡ octet = omega (arith, lt, ge) in
            let here : octet * 2 ^ 56 % 2 ^ 64 / 2 ^ 56 ≡ window / 2 ^ 56 = octet_of octet (omega arith) ∙ sym same in
            let bits = same_octet word.len (octet * 2 ^ 56 % 2 ^ 64) window w.few here in
            let is = first_is book due option window word.number c.spread.result word.len word.signed_len c.requires.due (subst
            (λ m. word.number < 2 ^ m) n w.fits) (subst (λ m. AreSpread m word.number c.spread.result) c.from-mask.ensures c.spread.ensures) w.few
            (λ e. w.none (n ∙ e))
            (λ some. subst (λ m. item_bits (word_item book m option word.number) ≡ first_of word.len (octet * 2 ^ 56 % 2 ^ 64)) n (w.first (subst (λ m. 1 ≤ m)
            (sym n) some)) ∙ bits) w.signed_len in
            subst (IsFirst book due option window) (sym (ap (λ i. get_or (set c.loop-octet.entries octet entry) i nothing_first) same ∙
            get_or-set_same c.loop-octet.entries octet entry nothing_first (omega (arith, c.loop-octet.invariant.size)))) is
      ];
}
