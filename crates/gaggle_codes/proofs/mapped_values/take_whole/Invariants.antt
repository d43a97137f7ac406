use Rattle.std.proofs.Common.{◌≡◌, ◌<◌, ◌+◌, ◌-◌, ◌^◌, ◌++◌, ℕ, Bool, List, length}
use Rattle.bit_pipe.specs.SourceState.{source_state, IsIn}
use Rattle.item_defs.specs.Scripts.{in_turn}
use Rattle.bit_pipe.proofs.ScriptReading.{Leaves}
use Rattle.number_defs.specs.NumberScript.{last_of}
use Rattle.gaggle_codes.specs.Given.{heights_in, last_in, AreWithin, IsBound, kind_of}
use Rattle.gaggle_codes.proofs.ValueReads.{each}
use Rattle.gaggle_codes.proofs.mapped_values.take_whole.Given as goal

abbrev pub invariant-loop-zeros : goal.invariant-loop-zeros
invariant-loop-zeros g l = record {
  is_in : IsIn (source_state l.input);
  small : last_in l.numbers < 2 ^ l.bounded.range.bits;
  count : length (heights_in l.numbers) ≡ length (heights_in l.initial.numbers) + l.zeros-index;
  within : AreWithin l.bounded.range.bits l.bounded.most (heights_in l.initial.numbers) →
      AreWithin l.bounded.range.bits l.bounded.most (heights_in l.numbers);
  last : (prior : List ℕ) → last_of (prior ++ heights_in l.initial.numbers) ≡ last_in l.initial.numbers →
      last_of (prior ++ heights_in l.numbers) ≡ last_in l.numbers;
  left : (too_great : ℕ → Bool) (prior : List ℕ) → IsBound l.bounded.most l.bounded.range.bits too_great →
      last_of (prior ++ heights_in l.initial.numbers) ≡ last_in l.initial.numbers →
      Leaves g.I.OctetIn.source
      (in_turn (each (kind_of l.bounded.range too_great) l.option l.zeros) 0 (length l.zeros) (prior ++ heights_in l.initial.numbers))
      (in_turn (each (kind_of l.bounded.range too_great) l.option l.zeros) l.zeros-index (length l.zeros - l.zeros-index) (prior ++ heights_in l.numbers))
      (source_state l.initial.input) (source_state l.input);
}
