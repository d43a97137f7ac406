-- The rest of an open segment's text, and how it ends. This project's own.
use Rattle.std.specs.Prelude.{ℕ, ◌==◌, ◌||◌, if◌then◌else◌, List, [], ◌∷◌, ◌++◌, Option, is_some}
use Rattle.std.specs.Option.{option_map}
use Rattle.bit_pipe.specs.Sources.{End, Plainly, TooLong, InPieces, Tail}
use Rattle.port_122.specs.Outside.{Outside}
use Rattle.packet_defs.specs.Reading.{ancillary_in, flags_in, text_in}
use Rattle.packet_defs.specs.Streams.{has_bad_version, whole_packets, left_over}
use Rattle.stream_defs.specs.declared.fate.FateState.{FateState}
use Rattle.stream_defs.specs.Fates.{fate, after, is_kept, closes}
use Rattle.space_packets.specs.Intake.{Intake}
use Rattle.packet_assembly.specs.Arriving.{arriving, sees_end}
use Rattle.packet_assembly.specs.Assembling.{Assembling, is_closed}

-- how a text that isn't closed ends with the stream: in pieces at the end and at what can't be read on, otherwise at the cap
abbrev pub stop_of : Intake → List ℕ → End
stop_of v rest = if has_bad_version (left_over (arriving v rest)) || sees_end v rest then InPieces else TooLong

-- some octets before what follows
abbrev pub before_it : List ℕ → Tail → Tail
before_it octets tail = record { octets = octets ++ tail.octets; ends = tail.ends }

abbrev pub nothing : End → Tail
nothing ends = record { octets = []; ends = ends }

-- what a kept packet adds, if this follows it: another segment's first part ends the text in pieces
abbrev pub kept_tail : List ℕ → Tail → Tail
kept_tail packet later =
    if (ancillary_in packet).part == 0 then nothing InPieces else
    (if closes (flags_in packet) then before_it (text_in packet) (nothing Plainly) else before_it (text_in packet) later)

-- what whole packets add to the text, and then this end
unfoldable pub tail_over : (apid : ℕ) → FateState → List (List ℕ) → End → Tail
tail_over apid s [] stop = nothing stop
tail_over apid s (packet ∷ packets) stop =
    let later = tail_over apid (after apid s packet) packets stop in
    if is_kept (fate apid s packet) then kept_tail packet later else later

-- the same after a part of the text, which may have closed it
abbrev pub tail_from : (apid : ℕ) → FateState → List (List ℕ) → End → Tail
tail_from apid s packets stop = if is_closed s.last then nothing Plainly else tail_over apid s packets stop

-- what follows the octets that were read
abbrev pub tail_after : Assembling → List ℕ → Tail
tail_after a rest = tail_from a.apid a.state (whole_packets (arriving a.intake rest)) (stop_of a.intake rest)

-- all that follows of the text, if these octets are left to be read; nothing if another segment was begun
abbrev pub text_tail : Assembling → List ℕ → Tail
text_tail a rest = if is_some a.held then nothing InPieces else before_it a.text (tail_after a rest)

-- the same, if the port reports what is left
abbrev pub known_tail : Outside → Assembling → Option Tail
known_tail now a = option_map (text_tail a) now.rest
