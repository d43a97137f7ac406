-- What a segment's text is read as, from its head on. This project's own.
use Rattle.std.specs.Prelude.{◌≡◌, ℕ, ℤ, List, drop, Result, Ok, Err}
use Rattle.item_defs.specs.Items.{bad_option, bad_delta, bad_depth, false_flag}
use Rattle.base_122.specs.Profile.{profile}
use Rattle.bit_pipe.specs.declared.fault.Part.{Part}
use Rattle.wave_defs.specs.Held.{blocks_in}
use Rattle.segment_defs.specs.declared.head.SegmentHead.{SegmentHead}
use Rattle.segment_defs.specs.Head.{head_length}
use Rattle.segment_defs.specs.Reading.{head_read}
use Rattle.segment_defs.specs.Outcomes.{SegmentRefusal, at_item, short_segment, overlong}
use Rattle.segment_defs.specs.TextWish.{unrestored, text_read}
use Rattle.segment_code.specs.TextAnswers.{gives, Decides}
use Rattle.segment_code.specs.declared.fault.SegmentFault.{SegmentFault}
use Rattle.segment_code.specs.declared.fault.SegmentFault.TheVariants.{BadOption, BadDelta, BadDepth, FalseFlag, ShortSegment, Overlong, BrokenSegment}
use Rattle.segment_code.specs.declared.fault.SegmentFault.TheVariants.{ReadFault, LongInput}
use Rattle.crate_examples.specs.declared.texts.ReadBlocks.{ReadBlocks}
use Rattle.crate_examples.specs.declared.texts.NotRead.{NotRead}
use Rattle.crate_examples.specs.declared.texts.NotRead.TheVariants.{BadHead, BadText, NoMemory}

-- octets after a head hold these blocks, all items of them or those before the limit, and all the octets are needed for it
abbrev pub HoldsBlocks : SegmentHead → List ℕ → (blocks : List ℤ) → Part → Type 0
HoldsBlocks head rest blocks part =
    (text_read (unrestored profile) head rest ≡ Ok (blocks_in blocks))
    × Decides (unrestored profile) head (head_length head) rest (gives part (blocks_in blocks))

-- octets after a head are refused by this name
abbrev pub IsNamed : SegmentHead → List ℕ → SegmentRefusal → Type 0
IsNamed head rest name = text_read (unrestored profile) head rest ≡ Err name

-- the same by the name of a fault; there is no other fault if the octets are in memory
abbrev pub RefusedFor : SegmentHead → List ℕ → SegmentFault → Type 0
RefusedFor head rest BadOption = IsNamed head rest (at_item bad_option)
RefusedFor head rest BadDelta = IsNamed head rest (at_item bad_delta)
RefusedFor head rest BadDepth = IsNamed head rest (at_item bad_depth)
RefusedFor head rest FalseFlag = IsNamed head rest (at_item false_flag)
RefusedFor head rest ShortSegment = IsNamed head rest short_segment
RefusedFor head rest Overlong = IsNamed head rest overlong
RefusedFor head rest BrokenSegment = ⊥
RefusedFor head rest ReadFault = ⊥
RefusedFor head rest LongInput = ⊥

-- the text begins with this head, and the octets after it are refused
pub record IsRefused (text : List ℕ) (head : SegmentHead) (fault : SegmentFault) : Type 0 where
  pub head_is : head_read text ≡ Ok head
  pub refused : RefusedFor head (drop (head_length head) text) fault

-- its blocks, or why there are none
abbrev pub IsReadAs : List ℕ → Result ReadBlocks NotRead → Type 0
IsReadAs text (Ok got) = (head_read text ≡ Ok got.head) × HoldsBlocks got.head (drop (head_length got.head) text) got.numbers.items got.part
IsReadAs text (Err (BadHead fault)) = head_read text ≡ Err fault
IsReadAs text (Err (BadText fault)) = (head : SegmentHead) × IsRefused text head fault
IsReadAs text (Err NoMemory) = Unit {0}
