-- What the items of some values decide.
use Rattle.std.proofs.Common.{◌≡◌, ℕ, Bool, List, ◌++◌, length, take, refl, subst}
use Rattle.item_defs.specs.Items.{Item, text}
use Rattle.item_defs.specs.Readings.{AreItems, item_at}
use Rattle.item_defs.specs.Outcomes.{whole}
use Rattle.item_defs.specs.Scripts.{run}
use Rattle.item_defs.specs.Following.{SaysWhat, Follows}
use Rattle.segment_defs.specs.declared.head.SegmentHead.{SegmentHead}
use Rattle.segment_defs.specs.Head.{IsHead}
use Rattle.segment_defs.specs.SegmentItems.{Options, segment_items}
use Rattle.segment_defs.specs.Spellable.{IsSpellable, AreWordOptions}
use Rattle.segment_defs.specs.Segments.{segment_script}
use Rattle.segment_defs.specs.TextLaws.{SegmentsAreRead}
use Rattle.segment_defs.specs.TextWish.{unrestored, segment_read}
use Rattle.segment_defs.proofs.SegmentWritten.{segment_follows, segment_exact, segment_asks}
use Rattle.segment_defs.proofs.WishReads.{wishes_agree, whole_exact}
use Rattle.segment_code.specs.TextAnswers.{bits_within, answer_in}
use Rattle.segment_code.specs.Spelled.{wish_for, if_whole, SpelledDecide, SpelledTextsDecide}
use Rattle.segment_code.proofs.Deciding.{Blocks, whole_answer, cut_answer}
use Rattle.segment_code.proofs.WishedRuns.{read_whole, read_cut}

module _ (says_all : SegmentsAreRead) (restore : Bool) (head : SegmentHead) (size : ℕ) (blocks : Blocks) (depths : List ℕ) (options : Options)
    (octets : List ℕ) (fits : IsHead head) (p : IsSpellable head blocks depths) (known : AreWordOptions options) where
  abbrev items : List Item
  items = segment_items head blocks depths options

  says : SaysWhat (segment_script options.book head)
  says = subst SaysWhat (wishes_agree.script (unrestored options.book) head refl) (says_all (unrestored options.book) head known.sound).says

  -- the items are read, as they are
  followed : AreItems items → (w : Blocks) → Follows (segment_script options.book head) items w → (more : List Bool) →
      run (segment_script options.book head) (text items ++ more) ≡ whole w more
  followed are w f more = says.is_whole (text items ++ more) more w (record { items = items; are = are; read = refl; follows = f })

  answered : (w : Blocks) (more : List Bool) → bits_within head size octets ≡ text items ++ more →
      run (segment_read (wish_for options restore) head) (text items ++ more) ≡ whole w more →
      answer_in (wish_for options restore) head size octets ≡ if_whole head size (length octets) (length (text items)) w
  answered w more e ran = whole_answer (wish_for options restore) head size octets (text items) more w e ran

  pub spelled_decide : SpelledDecide restore head size blocks depths options octets
  spelled_decide = record {
    whole = λ are more e. (
        let w = segment_follows head fits blocks depths options p known are in
        let v = read_whole (wish_for options restore) head (text items ++ more) w.0 more (followed are w.0 w.1 more) in
        (v.0, answered v.0 more e v.1)
        );
    exact = λ are no_stop more e. answered blocks more e
        (whole_exact (wish_for options restore) known.sound head fits (text items ++ more) no_stop more blocks
        (followed are blocks (segment_exact head fits blocks depths options p known are no_stop) more));
    cut = λ m more prefix follows. (
        let ran = says.is_cut (bits_within head size octets) (record {
          items = take m items;
          are = prefix.taken;
          some = more;
          read = prefix.read;
          form = (item_at items m).form;
          asks = segment_asks head fits blocks depths options p known m follows.within prefix.taken;
          lacks = follows.lacks;
        }) in
        let v = read_cut (wish_for options restore) head (bits_within head size octets) ran.0 ran.1 in
        (v.0, cut_answer (wish_for options restore) head size octets v.0 v.1)
        );
  }

pub spelled_texts_decide : SegmentsAreRead → SpelledTextsDecide
spelled_texts_decide read restore head size blocks depths options octets fits p known =
    spelled_decide read restore head size blocks depths options octets fits p known
