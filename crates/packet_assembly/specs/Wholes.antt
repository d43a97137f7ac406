-- What a segment's text reports of its kept packets: if it ends plainly, none is missing. This project's own.
use Rattle.std.specs.Prelude.{◌≡◌, ℕ, true, List, [], ◌∷◌, ◌++◌, slice_index_or, Some}
use Rattle.bit_pipe.specs.Sources.{End, Plainly, Tail}
use Rattle.packet_defs.specs.Reading.{text_in}
use Rattle.stream_defs.specs.declared.fate.FateState.{FateState}
use Rattle.stream_defs.specs.Fates.{fresh, after, after_all, kept}
use Rattle.stream_defs.specs.Received.{index_in, packets_at, IsComplete, text_of_parts}
use Rattle.packet_assembly.specs.Assembling.{is_first, BeginsNone, last_index}
use Rattle.packet_assembly.specs.Tails.{tail_from}

-- the kept packets of the segment of this index, in a whole stream
abbrev pub parts_in : (apid : ℕ) → List (List ℕ) → (index : ℕ) → List (List ℕ)
parts_in apid packets index = packets_at index (kept apid fresh packets)

-- the rest of the text of a packet's segment after it, if these packets follow and then this end
abbrev pub tail_past : (apid : ℕ) → (before : List (List ℕ)) (packet : List ℕ) (later : List (List ℕ)) → End → Tail
tail_past apid before packet later stop = tail_from apid (after apid (after_all apid fresh before) packet) later stop

-- The segment's kept packets are the one that begins it and those that carry the rest of its text. They are complete exactly if the text
-- ends plainly.
pub record ReportsParts (apid : ℕ) (before : List (List ℕ)) (packet : List ℕ) (later : List (List ℕ)) (stop : End) (parts : List (List ℕ)) : Type 0 where
  pub first : slice_index_or parts 0 [] ≡ packet
  pub text : text_of_parts parts ≡ text_in packet ++ (tail_past apid before packet later stop).octets
  pub complete : (tail_past apid before packet later stop).ends ≡ Plainly → IsComplete parts
  pub plain : IsComplete parts → (tail_past apid before packet later stop).ends ≡ Plainly

-- This holds for each segment that is begun, if the stream's own end isn't plain. If none of the packets begins a segment, none of that
-- segment is kept.
pub record TailsReport : Type 0 where
  pub begun : (apid : ℕ) (before : List (List ℕ)) (packet : List ℕ) (later : List (List ℕ)) (stop : End) → (stop ≡ Plainly → ⊥) →
      is_first apid (after_all apid fresh before) packet ≡ true →
      ReportsParts apid before packet later stop (parts_in apid (before ++ packet ∷ later) (index_in packet))
  pub unbegun : (apid index : ℕ) (packets : List (List ℕ)) →
      ((before : List (List ℕ)) (packet : List ℕ) (later : List (List ℕ)) → packets ≡ before ++ packet ∷ later →
      is_first apid (after_all apid fresh before) packet ≡ true → index_in packet ≡ index → ⊥) →
      parts_in apid packets index ≡ []
  pub passed_over : (apid index : ℕ) (s : FateState) (packets : List (List ℕ)) → BeginsNone apid s packets → (last_index s.last ≡ Some index → ⊥) →
      packets_at index (kept apid s packets) ≡ []
