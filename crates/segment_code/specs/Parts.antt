-- The numbers that a text gives, after a head of any size. (This project's own.)
use Rattle.std.specs.Prelude.{◌≡◌, ℕ, ℤ, true, List, Some}
use Rattle.plane_defs.specs.Codes.{is_book_sound}
use Rattle.bit_pipe.specs.declared.fault.Part.{Part}
use Rattle.segment_defs.specs.declared.head.SegmentHead.{SegmentHead}
use Rattle.segment_defs.specs.TextWish.{TextWish}
use Rattle.segment_defs.specs.Head.{IsHead}
use Rattle.segment_defs.specs.Parts.{AreWeighted}
use Rattle.segment_code.specs.TextAnswers.{gives, answer_in}

-- what a text gives, whole or cut, are blocks of multiples of their weights
abbrev pub TextsGiveParts : Type 0
TextsGiveParts = (wish : TextWish) → is_book_sound wish.book ≡ true → (head : SegmentHead) (size : ℕ) (rest : List ℕ) (part : Part) (w : List (List ℤ))
    (octets : ℕ) → IsHead head → answer_in wish head size rest ≡ Some (record { answer = gives part w; octets = octets }) → AreWeighted head w
