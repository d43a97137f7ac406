-- How a search for rectangles ends, by what it took and gave. This project's own.
use Rattle.std.specs.Prelude.{◌≡◌, ◌⊎◌, ◌≤◌, ℕ, List, [], length, take, false, Some, Result}
use Rattle.port_122.specs.Outside.{Outside, Exchange}
use Rattle.base_122.specs.declared.wish.DecodeWish.{DecodeWish}
use Rattle.segment_defs.specs.TextWish.{unrestored}
use Rattle.stream_defs.specs.Begun.{begun_in}
use Rattle.stream_defs.specs.Received.{ReceivedIn}
use Rattle.quick_look.specs.RectLines.{rect_lines}
use Rattle.quick_look.specs.Rects.{rects}
use Rattle.strip_decoder.specs.declared.ending.DecodeDone.{DecodeDone}
use Rattle.strip_decoder.specs.declared.ending.DecodeFault.{DecodeFault}
use Rattle.strip_decoder.specs.WalkAnswers.{PictureBy, AsksSilent}
use Rattle.strip_decoder.specs.Endings.{EndsBy}
use Rattle.strip_decoder.specs.Runs.{Numbers, holds_after}

-- For the octets that were taken the answer is a decoder's, and these are the lines of the rectangles that the missing blocks reach.
pub record AreLines (wish : DecodeWish) (start new : Outside) (took lines : List ℕ) (done : DecodeDone) : Type 0 where
  pub found : PictureBy false (unrestored wish.book) wish start new took [] done
  pub if_known : (all : List ℕ) → start.rest ≡ Some all → (received : Numbers) × ReceivedIn (holds_after (unrestored wish.book)) wish.apid took received
      × (lines ≡ rect_lines (rects done.geometry received (begun_in wish.apid took)))

-- a prefix of the lines, for the octets that were taken to their end
pub record IsPrefix (wish : DecodeWish) (start new : Outside) (took gave : List ℕ) : Type 0 where
  pub done : DecodeDone
  pub lines : List ℕ
  pub are : AreLines wish start new took lines done
  pub some : ℕ
  pub gave_is : gave ≡ take some lines

-- nothing, or a prefix of the lines
abbrev pub GivesSome : DecodeWish → (start new : Outside) (took gave : List ℕ) → Type 0
GivesSome wish start new took gave = (gave ≡ []) ⊎ IsPrefix wish start new took gave

-- why the call ended so: all lines are given, and nothing before the packets end
abbrev pub RectAnswers : DecodeWish → (old new : Outside) (took gave : List ℕ) → Result DecodeDone DecodeFault → Type 0
RectAnswers wish = EndsBy (AreLines wish) (λ old took gave. gave ≡ []) (GivesSome wish) wish

-- One run over a port: what it took and gave, when, and why it ended so. However it ends, it takes at most the number of octets in the
-- wish. At each read call the octets that were taken by then do not decide the answer, and nothing is given.
pub record ListsRects (wish : DecodeWish) (old new : Outside) (result : Result DecodeDone DecodeFault) : Type 0 where
  pub took : List ℕ
  pub gave : List ℕ
  pub since : Exchange old new took gave [] (AsksSilent wish took)
  pub within : length took ≤ wish.octets
  pub answer : RectAnswers wish old new took gave result
