-- The result of a call that reads a segment's text, from the octets after its head to those of its end. (This project's own.)
use Rattle.std.specs.Prelude.{◌≤◌, ℕ, ℤ, List, Result, Ok, Err}
use Rattle.item_defs.specs.Bits.{AreOctets}
use Rattle.item_defs.specs.Items.{bad_option, bad_delta, bad_depth, false_flag}
use Rattle.wave_defs.specs.Held.{blocks_in}
use Rattle.bit_pipe.specs.Sinks.{Rose}
use Rattle.bit_pipe.specs.declared.fault.Part.{Part}
use Rattle.bit_pipe.specs.Sources.{SourceOf, Arrives, IsOver, Plainly, TooLong, InPieces}
use Rattle.segment_defs.specs.declared.head.SegmentHead.{SegmentHead}
use Rattle.segment_defs.specs.TextWish.{TextWish}
use Rattle.segment_code.specs.TextAnswers.{gives, refuses, Decides, NeedsMore}
use Rattle.segment_code.specs.declared.fault.SegmentFault.{SegmentFault}
use Rattle.segment_code.specs.declared.fault.SegmentFault.TheVariants.{BadOption, BadDelta, BadDepth, FalseFlag, ShortSegment, Overlong, BrokenSegment}
use Rattle.segment_code.specs.declared.fault.SegmentFault.TheVariants.{ReadFault, LongInput}

-- the answer that the octets decide; or the input ended, or failed, where more octets are needed
abbrev pub EndsItems : {I : Type 0} → SourceOf I → TextWish → SegmentHead → (size : ℕ) → Result Part SegmentFault → List ℕ → I → I → List ℤ → Type 0
EndsItems k wish head size (Ok part) octets old new blocks = Decides wish head size octets (gives part (blocks_in blocks))
EndsItems k wish head size (Err BadOption) octets old new blocks = Decides wish head size octets (refuses bad_option)
EndsItems k wish head size (Err BadDelta) octets old new blocks = Decides wish head size octets (refuses bad_delta)
EndsItems k wish head size (Err BadDepth) octets old new blocks = Decides wish head size octets (refuses bad_depth)
EndsItems k wish head size (Err FalseFlag) octets old new blocks = Decides wish head size octets (refuses false_flag)
EndsItems k wish head size (Err ShortSegment) octets old new blocks = NeedsMore wish head size octets × IsOver (k.tail new) Plainly
EndsItems k wish head size (Err Overlong) octets old new blocks = ⊥
EndsItems k wish head size (Err BrokenSegment) octets old new blocks = NeedsMore wish head size octets × IsOver (k.tail new) InPieces
EndsItems k wish head size (Err LongInput) octets old new blocks = NeedsMore wish head size octets × IsOver (k.tail new) TooLong
EndsItems k wish head size (Err ReadFault) octets old new blocks = NeedsMore wish head size octets × Rose (k.faults old) (k.faults new)

-- The octets of a text after its head were read, and no others: these are the octets, and the answer is the one that they decide, or
-- how the input ended.
pub record DecodesItems {I : Type 0} (k : SourceOf I) (wish : TextWish) (head : SegmentHead) (size : ℕ) (result : Result Part SegmentFault) (old new : I)
    (blocks : List ℤ) : Type 0 where
  pub octets : List ℕ
  pub small : AreOctets octets
  pub came : Arrives (k.tail old) (k.tail new) octets
  pub faults : k.faults old ≤ k.faults new
  pub went : k.Went old new
  pub ends : EndsItems k wish head size result octets old new blocks
