-- Faults of an input and of a text, as faults of a segment.
use Rattle.bit_pipe.specs.declared.fault.InFault.{InFault}
use Rattle.bit_pipe.specs.declared.fault.InFault.TheVariants as inputs
use Rattle.bit_pipe.specs.declared.fault.TextFault.{TextFault}
use Rattle.bit_pipe.specs.declared.fault.TextFault.TheVariants as texts
use Rattle.segment_code.specs.declared.fault.SegmentFault.{SegmentFault}
use Rattle.segment_code.specs.declared.fault.SegmentFault.TheVariants as segments

abbrev pub of_input : InFault → SegmentFault
of_input inputs.ReadFault = segments.ReadFault
of_input inputs.LongInput = segments.LongInput
of_input inputs.Broken = segments.BrokenSegment

abbrev pub of_text : TextFault → SegmentFault
of_text texts.BadOption = segments.BadOption
of_text texts.BadDelta = segments.BadDelta
of_text texts.BadDepth = segments.BadDepth
of_text texts.FalseFlag = segments.FalseFlag
of_text texts.ReadFault = segments.ReadFault
of_text texts.LongInput = segments.LongInput
of_text texts.Broken = segments.BrokenSegment
