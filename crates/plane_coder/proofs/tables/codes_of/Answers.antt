use Rattle.std.proofs.Common.{◌≢◌, ◌<◌, length, arith, below_more, get_or-set_other, get_or-set_same, refl, ◌∙◌, length-set}
use Rattle.plane_coder.proofs.CodeRows.{coded_word, word_within, all_words}
use Rattle.plane_coder.proofs.tables.codes_of.Goals as goal

pub loop-word-init : goal.loop-word-init
loop-word-init c = record { whole = refl; so_far = λ v below. absurd (omega arith) }

pub bounds-codes-word : goal.bounds-codes-word
bounds-codes-word c = word_within c.args.length c.loop-word.word c.requires.long c.loop-word-test.true

pub loop-word-preserved : goal.loop-word-preserved
loop-word-preserved c =
    let i = c.loop-word.invariant in
    let e = c.code_of_word.ensures in
    let within : c.loop-word.word < length c.loop-word.codes =
    omega (arith, i.whole, word_within c.args.length c.loop-word.word c.requires.long c.loop-word-test.true) in
    record {
      whole = length-set c.loop-word.codes _ _ ∙ i.whole;
      so_far = below_more _ _
          (λ k h. let ne : k ≢ c.loop-word.word = omega arith in rw get_or-set_other (i.so_far k h))
          (rw get_or-set_same (coded_word c.args.book.now c.args.length c.args.option c.loop-word.word _ c.requires.short e.code e.few e.fits));
    }

pub returns : goal.returns
returns c v below = c.loop-word.invariant.so_far v (all_words c.args.length c.loop-word.word v c.requires.long c.loop-word-test.false below)
