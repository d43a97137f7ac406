-- The laws of what octets after a head hold.
use Rattle.std.specs.Prelude.{◌≡◌, ◌<◌, ◌≤◌, ℕ, ℤ, true, ◌==◌, if◌then◌else◌, List, [], ◌++◌, length, Option, Some, None, Ok, Err}
use Rattle.plane_defs.specs.Codes.{is_book_sound}
use Rattle.item_defs.specs.Items.{Refusal}
use Rattle.bit_pipe.specs.declared.fault.Part.{Part}
use Rattle.segment_defs.specs.declared.head.SegmentHead.{SegmentHead}
use Rattle.segment_defs.specs.TextWish.{TextWish, unrestored, text_read}
use Rattle.segment_defs.specs.Head.{IsHead, head_length}
use Rattle.segment_defs.specs.Outcomes.{at_item, short_segment, overlong}
use Rattle.segment_defs.specs.TextOutcome.{Answer}
use Rattle.segment_code.specs.TextAnswers.{TextAnswer, gives, refuses, Decided, answer_in, Decides, NeedsMore}
use Rattle.segment_code.specs.Decoded.{Overruns}

-- octets that decide an answer are there, more octets do not change it, and fewer decide nothing
pub record EndsThere (wish : TextWish) (head : SegmentHead) (size : ℕ) : Type 0 where
  pub enough : (rest : List ℕ) (d : Decided) → answer_in wish head size rest ≡ Some d → d.octets ≤ length rest
  pub stays : (rest more : List ℕ) (d : Decided) → answer_in wish head size rest ≡ Some d → answer_in wish head size (rest ++ more) ≡ Some d
  pub least : (rest more : List ℕ) (d : Decided) → answer_in wish head size (rest ++ more) ≡ Some d → length rest < d.octets →
      answer_in wish head size rest ≡ None

abbrev pub TextsEndThere : Type 0
TextsEndThere = (wish : TextWish) → is_book_sound wish.book ≡ true → (head : SegmentHead) (size : ℕ) → IsHead head → size ≤ 20 → EndsThere wish head size

-- what a text of this number of octets holds if some of them decide this answer
abbrev pub by_answer : (octets count : ℕ) → TextAnswer → Answer
by_answer octets count (gives part w) = if count == octets then Ok w else Err overlong
by_answer octets count (refuses name) = Err (at_item name)

abbrev pub with_end : (octets : ℕ) → Option Decided → Answer
with_end octets (Some d) = by_answer octets d.octets d.answer
with_end octets None = Err short_segment

-- a text with its end holds what its octets hold, if it ends with them
abbrev pub OutcomesAgree : Type 0
OutcomesAgree = (wish : TextWish) (head : SegmentHead) (rest : List ℕ) → IsHead head →
    text_read wish head rest ≡ with_end (length rest) (answer_in wish head (head_length head) rest)

-- what octets that were taken say of a text with its end, if they are its first ones
pub record EndsSay (wish : TextWish) (head : SegmentHead) : Type 0 where
  pub given : (octets : List ℕ) (part : Part) (w : List (List ℤ)) → Decides wish head (head_length head) octets (gives part w) →
      text_read wish head octets ≡ Ok w
  pub refused : (octets more : List ℕ) (name : Refusal) → Decides wish head (head_length head) octets (refuses name) →
      text_read wish head (octets ++ more) ≡ Err (at_item name)
  pub short : (octets : List ℕ) → NeedsMore wish head (head_length head) octets → text_read wish head octets ≡ Err short_segment
  pub overruns : (octets more : List ℕ) → Overruns wish head octets → text_read wish head (octets ++ more) ≡ Err overlong
  -- and a text that holds blocks decides them
  pub held : (octets : List ℕ) (w : List (List ℤ)) → text_read wish head octets ≡ Ok w →
      (part : Part) × Decides wish head (head_length head) octets (gives part w)

abbrev pub TextsEndSo : Type 0
TextsEndSo = (wish : TextWish) → is_book_sound wish.book ≡ true → (head : SegmentHead) → IsHead head → EndsSay wish head

-- an answer without its numbers
abbrev pub blank : TextAnswer → TextAnswer
blank (gives part w) = gives part []
blank (refuses name) = refuses name

abbrev pub blank_if_decided : Option Decided → Option Decided
blank_if_decided (Some d) = Some (record { answer = blank d.answer; octets = d.octets })
blank_if_decided None = None

-- which octets decide an answer, and all of it except its numbers, does not depend on whether these are restored
abbrev pub AnswersAgree : Type 0
AnswersAgree = (wish : TextWish) (head : SegmentHead) (size : ℕ) (rest : List ℕ) →
    blank_if_decided (answer_in wish head size rest) ≡ blank_if_decided (answer_in (unrestored wish.book) head size rest)
