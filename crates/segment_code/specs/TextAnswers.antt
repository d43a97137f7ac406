-- What the octets after a head of any size hold, as they are read, with no end from outside: the text ends by itself. (docs/formats.md,
-- "Reading a segment" and "Stops, cut and fill"; this project's own.)
use Rattle.std.specs.Prelude.{◌≡◌, ℕ, ◌+◌, ◌-◌, ◌*◌, ◌/◌, ◌==◌, if◌then◌else◌, nat_lt, ℤ, Bool, List, length, take, Option, Some, None}
use Rattle.std.specs.Int.{div_ceil}
use Rattle.item_defs.specs.Bits.{bits_of_octets}
use Rattle.item_defs.specs.Items.{Refusal}
use Rattle.item_defs.specs.Padding.{rounded}
use Rattle.bit_pipe.specs.declared.fault.Part.{Part}
use Rattle.bit_pipe.specs.declared.fault.Part.TheVariants.{Whole, Ended}
use Rattle.segment_defs.specs.declared.head.SegmentHead.{SegmentHead}
use Rattle.segment_defs.specs.TextWish.{TextWish, segment_read}
use Rattle.item_defs.specs.Outcomes.{Outcome, whole, cut, refused}
use Rattle.item_defs.specs.Scripts.{run}

-- the numbers of all blocks, given by all items or by those before the limit; or the name by which an item is refused
pub data TextAnswer : Type 0 where
  gives : Part → List (List ℤ) → TextAnswer
  refuses : Refusal → TextAnswer

-- an answer, and how many octets after the head decide it
pub record Decided : Type 0 where
  pub answer : TextAnswer
  pub octets : ℕ

-- an answer that is decided by this number of octets, if there are as many
abbrev pub if_enough : (there octets : ℕ) → TextAnswer → Option Decided
if_enough there octets answer = if nat_lt there octets then None else Some (record { answer = answer; octets = octets })

-- the bits in which items are read: those of the octets before the limit, after a head of `size` octets
abbrev pub bits_within : SegmentHead → (size : ℕ) → (rest : List ℕ) → List Bool
bits_within head size rest = bits_of_octets (if head.limit == 0 then rest else take (head.limit - size) rest)

-- the octets of a text of which head and items have this number of bits: the limit with fill, otherwise whole code words
abbrev pub whole_octets : SegmentHead → (used : ℕ) → ℕ
whole_octets head used = if head.fill then head.limit else rounded (8 * head.image.word) used / 8

-- the answer by an outcome of these bits: a text whose items are all given has its padding and its fill too, one in which an item is
-- cut ends at the limit, and none follows an item that is refused
abbrev pub decided : SegmentHead → (size octets : ℕ) → (bits : List Bool) → Outcome (List (List ℤ)) (List (List ℤ)) → Option Decided
decided head size octets bits (whole w left) = if_enough octets (whole_octets head (8 * size + (length bits - length left)) - size) (gives Whole w)
decided head size octets bits (cut w) = if head.limit == 0 then None else if_enough octets (head.limit - size) (gives Ended w)
decided head size octets bits (refused w name left) = Some (record { answer = refuses name; octets = div_ceil (length bits - length left) 8 })

-- what the octets after a head of `size` octets hold, if they are enough to decide it
abbrev pub answer_in : TextWish → SegmentHead → (size : ℕ) → (rest : List ℕ) → Option Decided
answer_in wish head size rest =
    let bits = bits_within head size rest in
    decided head size (length rest) bits (run (segment_read wish head) bits)

-- exactly these octets are needed for this answer
abbrev pub Decides : TextWish → SegmentHead → (size : ℕ) → (octets : List ℕ) → TextAnswer → Type 0
Decides wish head size octets answer = answer_in wish head size octets ≡ Some (record { answer = answer; octets = length octets })

-- more octets are needed
abbrev pub NeedsMore : TextWish → SegmentHead → (size : ℕ) → (octets : List ℕ) → Type 0
NeedsMore wish head size octets = answer_in wish head size octets ≡ None
