-- The result of a call that reads a segment's text and its input's end, from the octets after its head. (This project's own.)
use Rattle.std.specs.Prelude.{◌≡◌, ◌≤◌, ◌⊎◌, ℕ, ℤ, List, [], ◌∷◌, ◌++◌, Result, Ok, Err}
use Rattle.item_defs.specs.Bits.{AreOctets}
use Rattle.item_defs.specs.Items.{bad_option, bad_delta, bad_depth, false_flag}
use Rattle.wave_defs.specs.Held.{blocks_in}
use Rattle.bit_pipe.specs.Sinks.{Rose}
use Rattle.bit_pipe.specs.declared.fault.Part.{Part}
use Rattle.bit_pipe.specs.Sources.{SourceOf, Arrives, IsOver, Plainly, TooLong, InPieces}
use Rattle.segment_defs.specs.declared.head.SegmentHead.{SegmentHead}
use Rattle.segment_defs.specs.TextWish.{TextWish}
use Rattle.segment_defs.specs.Head.{head_length}
use Rattle.segment_code.specs.TextAnswers.{gives, refuses, Decides, NeedsMore}
use Rattle.segment_code.specs.declared.fault.SegmentFault.{SegmentFault}
use Rattle.segment_code.specs.declared.fault.SegmentFault.TheVariants.{BadOption, BadDelta, BadDepth, FalseFlag, ShortSegment, Overlong, BrokenSegment}
use Rattle.segment_code.specs.declared.fault.SegmentFault.TheVariants.{ReadFault, LongInput}

-- exactly these octets are a text
pub record IsText (wish : TextWish) (head : SegmentHead) (octets : List ℕ) : Type 0 where
  pub part : Part
  pub blocks : List (List ℤ)
  pub is : Decides wish head (head_length head) octets (gives part blocks)

-- the octets are those of a text, and one more
pub record Overruns (wish : TextWish) (head : SegmentHead) (octets : List ℕ) : Type 0 where
  pub prefix : List ℕ
  pub next : ℕ
  pub both : octets ≡ prefix ++ next ∷ []
  pub text : IsText wish head prefix

-- the octets decide nothing yet, or are a text whose end was asked for
abbrev pub IsOpen : TextWish → SegmentHead → List ℕ → Type 0
IsOpen wish head octets = NeedsMore wish head (head_length head) octets ⊎ IsText wish head octets

abbrev pub EndsSegment : {I : Type 0} → SourceOf I → TextWish → SegmentHead → Result Part SegmentFault → List ℕ → I → I → List ℤ → Type 0
EndsSegment k wish head (Ok part) octets old new blocks = Decides wish head (head_length head) octets (gives part (blocks_in blocks)) × IsOver
    (k.tail new) Plainly
EndsSegment k wish head (Err BadOption) octets old new blocks = Decides wish head (head_length head) octets (refuses bad_option)
EndsSegment k wish head (Err BadDelta) octets old new blocks = Decides wish head (head_length head) octets (refuses bad_delta)
EndsSegment k wish head (Err BadDepth) octets old new blocks = Decides wish head (head_length head) octets (refuses bad_depth)
EndsSegment k wish head (Err FalseFlag) octets old new blocks = Decides wish head (head_length head) octets (refuses false_flag)
EndsSegment k wish head (Err ShortSegment) octets old new blocks = NeedsMore wish head (head_length head) octets × IsOver (k.tail new) Plainly
EndsSegment k wish head (Err Overlong) octets old new blocks = Overruns wish head octets
EndsSegment k wish head (Err BrokenSegment) octets old new blocks = IsOpen wish head octets × IsOver (k.tail new) InPieces
EndsSegment k wish head (Err LongInput) octets old new blocks = IsOpen wish head octets × IsOver (k.tail new) TooLong
EndsSegment k wish head (Err ReadFault) octets old new blocks = IsOpen wish head octets × Rose (k.faults old) (k.faults new)

-- A segment's text was read: these are its octets, and the answer is the one that they decide, or how the input ended.
pub record DecodesSegment {I : Type 0} (k : SourceOf I) (wish : TextWish) (head : SegmentHead) (result : Result Part SegmentFault) (old new : I)
    (blocks : List ℤ) : Type 0 where
  pub octets : List ℕ
  pub small : AreOctets octets
  pub came : Arrives (k.tail old) (k.tail new) octets
  pub faults : k.faults old ≤ k.faults new
  pub went : k.Went old new
  pub ends : EndsSegment k wish head result octets old new blocks
