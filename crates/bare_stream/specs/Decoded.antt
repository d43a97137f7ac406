-- How a decoder of a bare stream ends, and what it gives: the answer is that of the function by which the stream is read. (This project's
-- own.)
use Rattle.std.specs.Prelude.{◌≡◌, ◌≤◌, ◌<◌, ◌⊎◌, ℕ, List, [], length, take, Option, None, Some, Result, Ok, Err}
use Rattle.port_122.specs.Outside.{Outside, Exchange, AtEnd, Rose}
use Rattle.base_122.specs.declared.geometry.Geometry.{Geometry}
use Rattle.base_122.specs.declared.wish.DecodeWish.{DecodeWish}
use Rattle.segment_defs.specs.TextWish.{text_wish}
use Rattle.segment_defs.specs.declared.head.SegmentHead.{SegmentHead}
use Rattle.bare_stream.specs.declared.fault.BareFault.{BareFault}
use Rattle.bare_stream.specs.declared.fault.BareFault.TheVariants.{ReadFault, WriteFault, Memory}
use Rattle.bare_stream.specs.Pictures.{rows_with}
use Rattle.bare_stream.specs.StreamRead.{needs_more, Segments, Read, stream_in, reading, answer_for, octets_for}

-- this holds of what is left, if the port reports it
abbrev pub IfKnown : Outside → (List ℕ → Type 0) → Type 0
IfKnown start P = (input : List ℕ) → start.rest ≡ Some input → P input

-- the rows that segments determine
abbrev pub rows_from : (first : Option SegmentHead) → Segments → List ℕ
rows_from None s = []
rows_from (Some first) s = rows_with first s.ended s.blocks

abbrev pub rows_of : Segments → List ℕ
rows_of s = rows_from s.first s

-- what these octets are read as, with the book, the numbers and the cap on pixels of this wish
abbrev pub read_by : DecodeWish → List ℕ → Read
read_by wish octets = stream_in (text_wish wish) wish.pixels octets

-- these octets do not decide the answer, and exactly these rows are determined by their segments
pub record IsOpen (wish : DecodeWish) (octets given : List ℕ) : Type 0 where
  pub at_end : Result Geometry BareFault
  pub needs : (read_by wish octets).ending ≡ needs_more at_end
  pub rows : given ≡ rows_of (read_by wish octets).segments

-- a read call, with i octets taken and j given, that takes no octet: it found the end, or failed; some rows are given
pub record TakesNone (wish : DecodeWish) (took gave : List ℕ) (i j : ℕ) : Type 0 where
  pub all : i ≡ length took
  pub some : ℕ
  pub rows : take j gave ≡ rows_of (read_by wish (take some took)).segments

-- Each read call that takes octets does so while those before do not decide the answer, and are fewer than may be taken. Before it exactly
-- the rows are given that the segments so far determine.
abbrev pub AsksBare : DecodeWish → (old : Outside) → (took gave : List ℕ) → ℕ → ℕ → Type 0
AsksBare wish old took gave i j = (i < wish.octets) × IfKnown old (λ input. IsOpen wish (take i took) (take j gave) ⊎ TakesNone wish took gave i j)

-- ---- the answer

-- it is that of the input, whose octets up to the deciding one were taken; exactly the rows are given that its segments determine
pub record AnswersBy (wish : DecodeWish) (input took gave : List ℕ) (result : Result Geometry BareFault) : Type 0 where
  pub answer : result ≡ answer_for wish input
  pub decided : octets_for wish input ≤ length took
  pub rows : gave ≡ rows_of (reading wish input).segments

-- After a read fault the octets so far do not decide the answer, and exactly the rows are given that they determine; after a write fault a
-- prefix of the rows that some of them determine.
abbrev pub Answers : DecodeWish → (input took gave : List ℕ) → Result Geometry BareFault → Type 0
Answers wish input took gave (Err ReadFault) = IsOpen wish took gave
Answers wish input took gave (Err WriteFault) = (some : ℕ) × (n : ℕ) × (gave ≡ take n (rows_of (read_by wish (take some took)).segments))
Answers wish input took gave (Err Memory) = Unit {0}
Answers wish input took gave result = AnswersBy wish input took gave result

-- what holds whatever the port reports: the input's end was read, or a count of faults rose; if there is too little memory, nothing is given
abbrev pub EndsSo : Result Geometry BareFault → (old new : Outside) → (gave : List ℕ) → Type 0
EndsSo (Ok g) old new gave = AtEnd new
EndsSo (Err ReadFault) old new gave = Rose old.read_faults new.read_faults
EndsSo (Err WriteFault) old new gave = Rose old.write_faults new.write_faults
EndsSo (Err Memory) old new gave = gave ≡ []
EndsSo (Err other) old new gave = Unit {0}

-- One run over a port: what it took and gave, when, and how it ended.
pub record DecodesBare (wish : DecodeWish) (old new : Outside) (result : Result Geometry BareFault) : Type 0 where
  pub took : List ℕ
  pub gave : List ℕ
  pub since : Exchange old new took gave [] (AsksBare wish old took gave)
  pub within : length took ≤ wish.octets
  pub ends : EndsSo result old new gave
  pub answers : IfKnown old (λ input. Answers wish input took gave result)
