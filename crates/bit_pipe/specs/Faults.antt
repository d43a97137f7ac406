-- Faults and refusals among those of a text.
use Rattle.item_defs.specs.Items.{Refusal, bad_option, bad_delta, bad_depth, false_flag}
use Rattle.bit_pipe.specs.declared.fault.InFault.{InFault}
use Rattle.bit_pipe.specs.declared.fault.InFault.TheVariants as inputs
use Rattle.bit_pipe.specs.declared.fault.TextFault.{TextFault}
use Rattle.bit_pipe.specs.declared.fault.TextFault.TheVariants as texts

abbrev pub of_input : InFault → TextFault
of_input inputs.ReadFault = texts.ReadFault
of_input inputs.LongInput = texts.LongInput
of_input inputs.Broken = texts.Broken

abbrev pub of_refusal : Refusal → TextFault
of_refusal bad_option = texts.BadOption
of_refusal bad_delta = texts.BadDelta
of_refusal bad_depth = texts.BadDepth
of_refusal false_flag = texts.FalseFlag
