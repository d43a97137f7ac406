-- The progress of an assembly. This project's own.
use Rattle.std.specs.Prelude.{◌≡◌, ◌≤◌, ◌<◌, ℕ, ◌+◌, ◌==◌, Bool, true, false, if◌then◌else◌, List, [], ◌∷◌, ◌++◌, length, take, drop, Option, None, Some, Ok}
use Rattle.std.specs.List.{AllByRecursion}
use Rattle.segment_defs.specs.declared.head.SegmentHead.{SegmentHead}
use Rattle.segment_defs.specs.Head.{head_length}
use Rattle.segment_defs.specs.Reading.{head_read}
use Rattle.port_122.specs.Outside.{Outside, Exchange}
use Rattle.packet_defs.specs.declared.packet.Framing.{Framing}
use Rattle.packet_defs.specs.Packets.{joined}
use Rattle.packet_defs.specs.Reading.{ancillary_in, text_in}
use Rattle.packet_defs.specs.Streams.{IsPacket, has_bad_version, left_over, whole_packets}
use Rattle.stream_defs.specs.declared.fate.FateState.{FateState}
use Rattle.stream_defs.specs.declared.fate.LastPart.{LastPart}
use Rattle.stream_defs.specs.Fates.{fresh, fate, after, after_all, is_kept}
use Rattle.space_packets.specs.Intake.{Intake, unread}
use Rattle.packet_assembly.specs.declared.note.SegmentStart.{SegmentStart}
use Rattle.packet_assembly.specs.Arriving.{arriving, sees_end}

-- The APID; the reader; the state that the packets so far leave for the next one's fate, and the number of these packets; the octets of the
-- open segment's text that were read and not given yet; the start of the segment whose first packet ended the text before it, if there is
-- one: the octets are those of its text then; and why the stream can't be read on, if that was found.
pub record Assembling : Type 0 where
  pub apid : ℕ
  pub intake : Intake
  pub state : FateState
  pub packets : ℕ
  pub text : List ℕ
  pub held : Option SegmentStart
  pub framing : Option Framing

-- nothing was read yet
abbrev pub unread_assembly : (apid cap : ℕ) → Assembling
unread_assembly apid cap =
    record { apid = apid; intake = unread cap; state = fresh; packets = 0; text = []; held = None; framing = None }

-- ---- packets that begin a segment

-- a packet that is kept, as the first part of its segment
abbrev pub is_first : (apid : ℕ) → FateState → List ℕ → Bool
is_first apid s packet = if is_kept (fate apid s packet) then (ancillary_in packet).part == 0 else false

abbrev pub text_after : List ℕ → SegmentHead → List ℕ
text_after packet head = drop (head_length head) (text_in packet)

-- the segment that a packet begins, by its head
pub record Starts (apid : ℕ) (s : FateState) (packet : List ℕ) (start : SegmentStart) : Type 0 where
  pub first : is_first apid s packet ≡ true
  pub head_is : head_read (text_in packet) ≡ Ok start.head
  pub ancillary_is : start.ancillary ≡ ancillary_in packet

-- none of these packets, one after another, begins a segment
abbrev pub BeginsNone : (apid : ℕ) → FateState → List (List ℕ) → Type 0
BeginsNone apid s [] = Unit {0}
BeginsNone apid s (packet ∷ packets) = (is_first apid s packet ≡ false) × BeginsNone apid (after apid s packet) packets

-- ---- a stretch of calls

-- the state after some octets more
abbrev pub state_with : Assembling → List ℕ → FateState
state_with a more = after_all a.apid a.state (whole_packets (a.intake.pending ++ more))

-- the segment of a state's last place
abbrev pub last_index : Option LastPart → Option ℕ
last_index None = None
last_index (Some last) = Some last.index

-- a read call with i of these octets taken, which leave such a state, and none given
abbrev pub AsksAt : (FateState → Type 0) → Assembling → List ℕ → ℕ → ℕ → Type 0
AsksAt P a took i j = P (state_with a (take i took)) × (j ≡ 0)

-- a read call with i of these octets taken: they can be read on, and fewer were taken than the cap allows
abbrev pub AsksReadableFrom : Assembling → List ℕ → ℕ → ℕ → Type 0
AsksReadableFrom a took i j = (has_bad_version (left_over (a.intake.pending ++ take i took)) ≡ false) × (a.intake.taken + i < a.intake.cap)

-- Whole packets were passed, one after another, and the octets after them wait. At each read call the octets that were taken so far left a
-- state for which P held, could be read on, and were fewer than the cap allows. At most these were taken, and what is left is what was left
-- before, without these packets.
pub record Passes (P : FateState → Type 0) (old new : Outside) (a b : Assembling) (passed : List (List ℕ)) : Type 0 where
  pub took : List ℕ
  pub since : Exchange old new took [] [] (AsksAt P a took)
  pub readable : Exchange old new took [] [] (AsksReadableFrom a took)
  pub octets_are : a.intake.pending ++ took ≡ joined passed ++ b.intake.pending
  pub packets_are : AllByRecursion IsPacket passed
  pub apid : b.apid ≡ a.apid
  pub cap : b.intake.cap ≡ a.intake.cap
  pub taken : b.intake.taken ≡ a.intake.taken + length took
  pub state : b.state ≡ after_all a.apid a.state passed
  pub count : b.packets ≡ a.packets + length passed
  pub capped : a.intake.taken ≤ a.intake.cap → b.intake.taken ≤ b.intake.cap
  pub arrives : (rest : List ℕ) → new.rest ≡ Some rest → arriving a.intake (took ++ rest) ≡ joined passed ++ arriving b.intake rest
  pub sees : (rest : List ℕ) → new.rest ≡ Some rest → sees_end a.intake (took ++ rest) ≡ sees_end b.intake rest

-- the segment of the last place is the one before the stretch, or there is none before and after
abbrev pub StaysAt : Assembling → FateState → Type 0
StaysAt a s = last_index s.last ≡ last_index a.state.last

-- the last part closed its segment's text
abbrev pub is_closed : Option LastPart → Bool
is_closed None = false
is_closed (Some last) = last.closed

-- the same, its text isn't closed, and no other segment was begun
pub record StaysOpen (a : Assembling) (s : FateState) : Type 0 where
  pub unheld : a.held ≡ None
  pub unclosed : is_closed s.last ≡ false
  pub same : StaysAt a s
