-- How a look ends, by what it took and gave. This project's own.
use Rattle.std.specs.Prelude.{◌≡◌, ◌≤◌, ℕ, List, [], length, take, false, None, Some, Result}
use Rattle.port_122.specs.Outside.{Outside, Exchange}
use Rattle.base_122.specs.declared.geometry.Geometry.{Geometry}
use Rattle.base_122.specs.declared.wish.DecodeWish.{DecodeWish}
use Rattle.segment_defs.specs.TextWish.{TextWish, text_wish}
use Rattle.stream_defs.specs.Begun.{begun_in, block_rows}
use Rattle.stream_defs.specs.Fates.{geometry_in, state_after}
use Rattle.stream_defs.specs.Received.{ReceivedIn}
use Rattle.stream_defs.specs.Settled.{block_rows_before}
use Rattle.strip_decoder.specs.declared.ending.DecodeDone.{DecodeDone}
use Rattle.strip_decoder.specs.declared.ending.DecodeFault.{DecodeFault}
use Rattle.strip_decoder.specs.WalkAnswers.{PictureBy}
use Rattle.strip_decoder.specs.Endings.{EndsBy}
use Rattle.strip_decoder.specs.Runs.{Numbers, holds_after, AsksUnanswered, settled_blocks}
use Rattle.quick_look.specs.Look.{look_rows, look_octets}

-- ---- what is given

-- What is given once these octets are taken: nothing without a geometry, otherwise the first rows of the look at the segments that are
-- received, at least one for each whole block row among the blocks that these octets settle.
pub record PromptLook (texts : TextWish) (apid : ℕ) (taken given : List ℕ) : Type 0 where
  pub none : geometry_in apid taken ≡ None → given ≡ []
  pub some : (g : Geometry) (received : Numbers) → geometry_in apid taken ≡ Some g → ReceivedIn (holds_after texts) apid taken received →
      (k : ℕ) × (k ≤ block_rows g (begun_in apid taken)) × (block_rows_before g (settled_blocks (state_after apid taken) received) ≤ k)
      × (given ≡ look_rows g received k)

-- a prefix of the look for the octets that were taken; nothing without a geometry
pub record PrefixLook (texts : TextWish) (apid : ℕ) (taken given : List ℕ) : Type 0 where
  pub none : geometry_in apid taken ≡ None → given ≡ []
  pub some : (g : Geometry) (received : Numbers) → geometry_in apid taken ≡ Some g → ReceivedIn (holds_after texts) apid taken received →
      (n : ℕ) × (given ≡ take n (look_octets g received (begun_in apid taken)))

-- For the octets that were taken the answer is a decoder's, and what is given is the whole look at the segments that are received in them.
pub record IsLook (wish : DecodeWish) (start new : Outside) (took gave : List ℕ) (done : DecodeDone) : Type 0 where
  pub found : PictureBy false (text_wish wish) wish start new took [] done
  pub look : (all : List ℕ) → start.rest ≡ Some all → (received : Numbers) → ReceivedIn (holds_after (text_wish wish)) wish.apid took received →
      gave ≡ look_octets done.geometry received (begun_in wish.apid took)

-- a prefix of the look for the octets that were taken, if the port reports what is left
abbrev pub GivesPrefix : DecodeWish → Outside → (took gave : List ℕ) → Type 0
GivesPrefix wish start took gave = (all : List ℕ) → start.rest ≡ Some all → PrefixLook (text_wish wish) wish.apid took gave

-- why the call ended so: all of the look is given, or a prefix of it
abbrev pub LookAnswers : DecodeWish → (old new : Outside) (took gave : List ℕ) → Result DecodeDone DecodeFault → Type 0
LookAnswers wish = EndsBy (IsLook wish) (GivesPrefix wish) (λ old new. GivesPrefix wish old) wish

-- A read call with i octets taken, which do not decide the answer, and j given, if the port reports what is left.
abbrev pub LookAsks : DecodeWish → Outside → (took gave : List ℕ) → ℕ → ℕ → Type 0
LookAsks wish start took gave i j =
    (j ≤ length gave) × AsksUnanswered wish.apid wish.octets wish.pixels took i j × ((all : List ℕ) → start.rest ≡ Some all →
    PromptLook (text_wish wish) wish.apid (take i took) (take j gave))

-- One run over a port: what it took and gave, when, and why it ended so. However it ends, it takes at most the number of octets in the
-- wish. At each read call the octets that were taken by then do not decide the answer, and what is given is a prefix of the look for them,
-- with at least the rows whose blocks they settle.
pub record Looks (wish : DecodeWish) (old new : Outside) (result : Result DecodeDone DecodeFault) : Type 0 where
  pub took : List ℕ
  pub gave : List ℕ
  pub since : Exchange old new took gave [] (LookAsks wish old took gave)
  pub within : length took ≤ wish.octets
  pub answer : LookAnswers wish old new took gave result
