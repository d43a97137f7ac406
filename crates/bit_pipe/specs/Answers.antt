-- The results of calls that read items. (This project's own.)
use Rattle.std.specs.Prelude.{◌≡◌, ◌<◌, ℕ, [], ◌∷◌, Option, None, Some, Result, Ok, Err}
use Rattle.item_defs.specs.Items.{Item}
use Rattle.item_defs.specs.Readings.{whole, ended, refused}
use Rattle.bit_pipe.specs.Sources.{SourceOf}
use Rattle.bit_pipe.specs.SourceState.{SourceState}
use Rattle.bit_pipe.specs.Reading.{Ending, stopped, failed, Reads}
use Rattle.bit_pipe.specs.Faults.{of_input, of_refusal}
use Rattle.bit_pipe.specs.declared.fault.Part.{Part}
use Rattle.bit_pipe.specs.declared.fault.Part.TheVariants.{Whole, Ended}
use Rattle.bit_pipe.specs.declared.fault.TextFault.{TextFault}

-- how far a list of items was read
abbrev pub part_answer : Ending → Result Part TextFault
part_answer (stopped whole) = Ok Whole
part_answer (stopped (ended m)) = Ok Ended
part_answer (stopped (refused m spelt name)) = Err (of_refusal name)
part_answer (failed m e) = Err (of_input e)

-- the value of one item, and none if the item is missing
abbrev pub item_answer : {A : Type 0} → A → Ending → Result (Option A) TextFault
item_answer value (stopped whole) = Ok (Some value)
item_answer value (stopped (ended m)) = Ok None
item_answer value (stopped (refused m spelt name)) = Err (of_refusal name)
item_answer value (failed m e) = Err (of_input e)

abbrev pub IsBelow : ℕ → ℕ → Type 0
IsBelow most n = n < most

-- the result of a call for one item, whose value has a property
pub record TakesOne {I : Type 0} (k : SourceOf I) (Is : ℕ → Type 0) (item : ℕ → Item) (result : Result (Option ℕ) TextFault)
    (old new : SourceState I) : Type 0 where
  pub value : ℕ
  pub known : Is value
  pub ending : Ending
  pub read : Reads k (item value ∷ []) ending old new
  pub answer : result ≡ item_answer value ending

-- how many of this number of items were read whole
abbrev pub items_read : ℕ → Ending → ℕ
items_read count (stopped whole) = count
items_read count (stopped (ended m)) = m
items_read count (stopped (refused m spelt name)) = m
items_read count (failed m e) = m
