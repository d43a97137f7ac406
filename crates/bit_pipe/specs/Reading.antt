-- Items read one after another, up to where a text ends.
use Rattle.std.specs.Prelude.{◌≡◌, ◌<◌, ℕ, ◌+◌, List, ◌++◌, length, take, Bool, Some}
use Rattle.item_defs.specs.Items.{Item, Refusal, text, spelling, IsSaid}
use Rattle.item_defs.specs.Readings.{Lacks, item_at, Stop, whole, ended, refused, later}
use Rattle.bit_pipe.specs.Sources.{SourceOf}
use Rattle.bit_pipe.specs.SourceState.{SourceState, Takes, IsEnd, FailsSo}
use Rattle.bit_pipe.specs.declared.fault.InFault.{InFault}

-- how a reading ends: as the text stops it, or by a fault of the input after this number of items
pub data Ending : Type 0 where
  stopped : Stop → Ending
  failed : ℕ → InFault → Ending

-- the first m items were read, and the bits end within the next
pub record BreaksAt {I : Type 0} (k : SourceOf I) (items : List Item) (m : ℕ) (old new : SourceState I) : Type 0 where
  pub within : m < length items
  pub some : List Bool
  pub taken : Takes k old new (text (take m items) ++ some)
  pub lacks : Lacks (item_at items m).form.shape some

-- the first m items were read, and then a code that the next item's form refuses by this name
pub record RefusesAt {I : Type 0} (k : SourceOf I) (items : List Item) (m spelt : ℕ) (name : Refusal) (old new : SourceState I) : Type 0 where
  pub within : m < length items
  pub says : IsSaid (item_at items m).form.shape spelt
  pub refuses : (item_at items m).form.refusal spelt ≡ Some name
  pub taken : Takes k old new (text (take m items) ++ spelling (item_at items m).form.shape spelt)

abbrev pub EndsReading : {I : Type 0} → SourceOf I → List Item → Ending → SourceState I → SourceState I → Type 0
EndsReading k items (stopped whole) old new = Takes k old new (text items)
EndsReading k items (stopped (ended m)) old new = BreaksAt k items m old new × IsEnd k new
EndsReading k items (stopped (refused m spelt name)) old new = RefusesAt k items m spelt name old new
EndsReading k items (failed m e) old new = BreaksAt k items m old new × FailsSo k e old new

-- these items were read, up to this end
pub record Reads {I : Type 0} (k : SourceOf I) (items : List Item) (ending : Ending) (old new : SourceState I) : Type 0 where
  pub ends : EndsReading k items ending old new

-- the same end, counted from this number of items before
abbrev pub later_by : ℕ → Ending → Ending
later_by n (stopped stop) = stopped (later n stop)
later_by n (failed m e) = failed (n + m) e

-- not all items were read
abbrev pub IsCut : Ending → Type 0
IsCut (stopped whole) = ⊥
IsCut other = Unit {0}
