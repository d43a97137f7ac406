-- The segments that kept packets carry, and their numbers. This project's own.
use Rattle.std.specs.Prelude.{◌≡◌, ℕ, ℤ, ◌==◌, true, List, ◌∷◌, ◌++◌, [], length, map, filter, Option, Ok, MatchOption, slice_index_or}
use Rattle.std.specs.List.{range_with_len, flat_map}
use Rattle.segment_defs.specs.declared.head.SegmentHead.{SegmentHead}
use Rattle.segment_defs.specs.Reading.{head_read}
use Rattle.packet_defs.specs.Reading.{flags_in, ancillary_in, text_in}
use Rattle.stream_defs.specs.Fates.{closes, kept_in}

abbrev pub index_in : List ℕ → ℕ
index_in packet = (ancillary_in packet).index

abbrev pub number_of_part : List ℕ → ℕ
number_of_part packet = (ancillary_in packet).part

-- the packets of the segment of this index
unfoldable pub packets_at : (index : ℕ) → List (List ℕ) → List (List ℕ)
packets_at index packets = filter (λ packet. index_in packet == index) packets

-- parts from 0 to a closing one, one after the other
pub record IsComplete (parts : List (List ℕ)) : Type 0 where
  pub prefix : List (List ℕ)
  pub closing : List ℕ
  pub parts_are : parts ≡ prefix ++ closing ∷ []
  pub numbers : map number_of_part parts ≡ range_with_len 0 (length parts)
  pub closed : closes (flags_in closing) ≡ true

-- the text that they carry
unfoldable pub text_of_parts : List (List ℕ) → List ℕ
text_of_parts parts = flat_map text_in parts

-- what a text holds: the head, the text and the numbers of the blocks
abbrev pub Acceptance : Type 1
Acceptance = SegmentHead → List ℕ → List (List ℤ) → Type 0

-- The segment of this index is received with these numbers. Its head is in the packet of part 0.
pub record IsReceived (holds : Acceptance) (packets : List (List ℕ)) (index : ℕ) (numbers : List (List ℤ)) : Type 0 where
  pub whole : IsComplete (packets_at index packets)
  pub head : SegmentHead
  pub head_is : head_read (text_in (slice_index_or (packets_at index packets) 0 [])) ≡ Ok head
  pub accepted : holds head (text_of_parts (packets_at index packets)) numbers

-- the received segments by their index
pub record AreReceived (holds : Acceptance) (packets : List (List ℕ)) (received : ℕ → Option (List (List ℤ))) : Type 0 where
  pub at : (index : ℕ) → MatchOption (received index)
      ((numbers : List (List ℤ)) → IsReceived holds packets index numbers → ⊥)
      (IsReceived holds packets index)

-- of a stream of octets
abbrev pub ReceivedIn : (holds : Acceptance) (apid : ℕ) → List ℕ → (ℕ → Option (List (List ℤ))) → Type 0
ReceivedIn holds apid octets received = AreReceived holds (kept_in apid octets) received
