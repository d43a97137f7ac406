-- How a decoder ends, by what it took and gave. This project's own.
use Rattle.std.specs.Prelude.{◌≡◌, ◌≤◌, ℕ, List, [], length, take, None, Some, Result}
use Rattle.port_122.specs.Outside.{Outside, Exchange}
use Rattle.base_122.specs.declared.geometry.Geometry.{Geometry}
use Rattle.base_122.specs.declared.wish.DecodeWish.{DecodeWish}
use Rattle.segment_defs.specs.TextWish.{TextWish, text_wish}
use Rattle.stream_defs.specs.Begun.{begun_in, height}
use Rattle.stream_defs.specs.Fates.{geometry_in, state_after}
use Rattle.stream_defs.specs.Received.{ReceivedIn}
use Rattle.stream_defs.specs.Picture.{first_rows, picture_octets}
use Rattle.stream_defs.specs.Settled.{ready}
use Rattle.strip_decoder.specs.declared.ending.DecodeDone.{DecodeDone}
use Rattle.strip_decoder.specs.declared.ending.DecodeFault.{DecodeFault}
use Rattle.strip_decoder.specs.Runs.{Numbers, holds_after, AsksUnanswered}
use Rattle.strip_decoder.specs.WalkAnswers.{IsPicture}
use Rattle.strip_decoder.specs.Endings.{EndsBy}

-- ---- what is given

-- What is given once these octets are taken: nothing without a geometry, else the first rows of the picture of the segments that
-- are received, at least those that may be given.
pub record PromptBy (texts : TextWish) (apid : ℕ) (taken given : List ℕ) : Type 0 where
  pub none : geometry_in apid taken ≡ None → given ≡ []
  pub some : (g : Geometry) (received : Numbers) → geometry_in apid taken ≡ Some g → ReceivedIn (holds_after texts) apid taken received →
      (n : ℕ) × (n ≤ height g (begun_in apid taken)) × (ready (state_after apid taken) received ≤ n) × (given ≡ first_rows g received (begun_in apid taken) n)

-- a prefix of the picture for the octets that were taken; nothing without a geometry
pub record PrefixBy (texts : TextWish) (apid : ℕ) (taken given : List ℕ) : Type 0 where
  pub none : geometry_in apid taken ≡ None → given ≡ []
  pub some : (g : Geometry) (received : Numbers) → geometry_in apid taken ≡ Some g → ReceivedIn (holds_after texts) apid taken received →
      (n : ℕ) × (given ≡ take n (picture_octets g received (begun_in apid taken)))

-- ---- the decoder

-- a prefix of the picture for the octets that were taken, if the port reports what is left
abbrev pub GivesPrefix : DecodeWish → Outside → (took gave : List ℕ) → Type 0
GivesPrefix wish start took gave = (all : List ℕ) → start.rest ≡ Some all → PrefixBy (text_wish wish) wish.apid took gave

-- why the call ended so: all of the picture is given, or a prefix of it
abbrev pub Answers : DecodeWish → (old new : Outside) (took gave : List ℕ) → Result DecodeDone DecodeFault → Type 0
Answers wish = EndsBy (IsPicture wish) (GivesPrefix wish) (λ old new. GivesPrefix wish old) wish

-- A read call with i octets taken, which do not decide the answer, and j given, if the port reports what is left.
abbrev pub Asks : DecodeWish → Outside → (took gave : List ℕ) → ℕ → ℕ → Type 0
Asks wish start took gave i j =
    (j ≤ length gave) × AsksUnanswered wish.apid wish.octets wish.pixels took i j × ((all : List ℕ) → start.rest ≡ Some all →
    PromptBy (text_wish wish) wish.apid (take i took) (take j gave))

-- One run over a port: what it took and gave, when, and why it ended so. However it ends, it takes at most the number of octets in the
-- wish. At each read call the octets that were taken by then do not decide the answer, and what is given is a prefix of the picture for
-- them, with at least the rows that may be given.
pub record Decodes (wish : DecodeWish) (old new : Outside) (result : Result DecodeDone DecodeFault) : Type 0 where
  pub took : List ℕ
  pub gave : List ℕ
  pub since : Exchange old new took gave [] (Asks wish old took gave)
  pub within : length took ≤ wish.octets
  pub answer : Answers wish old new took gave result
