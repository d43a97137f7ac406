-- A coded text is read as the blocks that were coded, or as a part of them.
use Rattle.std.proofs.Common.{◌≡◌, true, List, refl, arith, ℤ, ap, ◌∙◌}
use Rattle.plane_defs.specs.Codes.{is_book_sound}
use Rattle.segment_defs.specs.declared.head.SegmentHead.{SegmentHead}
use Rattle.segment_defs.specs.Depths.{block_depth, block_depths}
use Rattle.segment_defs.specs.Coded.{chosen_options}
use Rattle.segment_defs.specs.Outcomes.{Holds}
use Rattle.segment_defs.specs.Spellable.{IsSpellable}
use Rattle.segment_defs.specs.TextLaws.{TextReads, TextsAreRead}
use Rattle.segment_defs.specs.TextWish.{TextWish, text_read}
use Rattle.segment_defs.specs.TextWishLaws.{refusal_in, ReadsAsWished, TextsReadAsWished}
use Rattle.segment_defs.proofs.WishReads.{wishes_agree}
use Rattle.segment_code.specs.Coded.{CodedReads, CodedTextsAreRead}
use Rattle.segment_code.proofs.CodedChoices.{words_are, numbers_are, within_greatest}
use Rattle.segment_code.proofs.CodedPrefixes.{after_head, CodedPrefix, coded_prefix}
use Rattle.segment_code.proofs.WishedRuns.{not_refused}

module _ (wish : TextWish) (sound : is_book_sound wish.book ≡ true) (head : SegmentHead) (blocks : List (List ℤ))
    (spellable : IsSpellable head blocks (block_depths blocks))
    (reads : TextReads wish.book head (after_head wish.book head blocks)) (wished : ReadsAsWished wish head (after_head wish.book head blocks))
    (f : CodedPrefix wish.book head blocks) where
  coded_holds : Holds wish.book head (after_head wish.book head blocks)
  coded_holds = record {
    blocks = blocks;
    depths = block_depths blocks;
    options = chosen_options wish.book head blocks;
    of_book = refl;
    count = f.count;
    more = f.more;
    reading = record { spellable = spellable; known = words_are wish.book sound head blocks; prefix = f.prefix };
    is_taken = f.taken;
  }

  coded_reads : CodedReads wish head blocks
  unfolding coded_holds
  coded_reads = record {
    given =
        let w = reads.holds coded_holds in
        not_refused (text_read wish head (after_head wish.book head blocks))
        (wishes_agree.refusals wish head (after_head wish.book head blocks) ∙ ap refusal_in w.1);
    part = λ plain.
        let w = reads.holds coded_holds in
        (w.0, wishes_agree.text wish head (after_head wish.book head blocks) plain ∙ w.1, w.2);
    whole = λ plain uncut. wishes_agree.text wish head (after_head wish.book head blocks) plain ∙ reads.whole coded_holds (f.all uncut);
    exact = λ uncut no_stop. wished.exact coded_holds no_stop (f.all uncut);
  }

pub coded_texts_are_read : TextsAreRead → TextsReadAsWished → CodedTextsAreRead
coded_texts_are_read reads wished wish sound head blocks fits ten spellable deep =
    coded_reads wish sound head blocks spellable (reads wish.book sound head (after_head wish.book head blocks) fits)
    (wished wish sound head (after_head wish.book head blocks) fits)
    (coded_prefix wish.book head blocks fits ten spellable (words_are wish.book sound head blocks) (numbers_are wish.book head blocks fits)
    (λ r lt. omega (arith, within_greatest block_depth blocks 0 r, deep)))
