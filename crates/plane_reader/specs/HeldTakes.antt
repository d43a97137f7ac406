-- What was read of a script from a window that is held, and what the masks and the gaggle have then. (This project's own.)
use Rattle.std.specs.Prelude.{◌≡◌, ◌≤◌, ◌<◌, ◌^◌, ◌&&◌, ℕ, Bool, false, if◌then◌else◌, filter, length, Option, Result}
use Rattle.item_defs.specs.Bits.{bit}
use Rattle.base_122.specs.declared.book.Book.{Book}
use Rattle.plane_defs.specs.Spans.{span}
use Rattle.plane_defs.specs.Steps.{Check, refuses as is_refused}
use Rattle.block_masks.specs.declared.gaggle.Gaggle.{Gaggle}
use Rattle.block_masks.specs.Gaggles.{AreOptions}
use Rattle.block_masks.specs.Masks.{Shows}
use Rattle.bit_pipe.specs.declared.fault.TextFault.{TextFault}
use Rattle.bit_pipe.specs.Sources.{SourceOf}
use Rattle.bit_pipe.specs.SourceState.{SourceState, IsIn}
use Rattle.item_defs.specs.Scripts.{Script, done, ask_bit}
use Rattle.bit_pipe.specs.ScriptSources.{by_item, by_done}
use Rattle.plane_defs.specs.States.{State, with_options}
use Rattle.plane_defs.specs.WordScripts.{due_script}
use Rattle.plane_defs.specs.StageScripts.{flag_script, bit_script}
use Rattle.plane_reader.specs.declared.found.Found.{Found}
use Rattle.plane_reader.specs.declared.reading.Reading.{Reading}
use Rattle.plane_reader.specs.Takes.{AreIn, IsState, OnSome, AreOnes, by_places}
use Rattle.plane_reader.specs.Places.{AreRows}
use Rattle.plane_reader.specs.Held.{Holds, Point, ReadsFrom}

-- words can be read from the window that is held, by the options of the gaggle
pub record IsReading {I : Type 0} (k : SourceOf I) (s : SourceState I) (r : Reading) : Type 0 where
  pub is_in : IsIn s
  pub holds : Holds k s r.cursor
  pub options : AreOptions r.gaggle.options
  pub rows : AreRows r.tables.now.entries r.gaggle r.rows

-- a state was read on, and the masks and the gaggle have what was read
pub record HeldState {I X : Type 0} (k : SourceOf I) (r : Script State State) (result : Result (Option X) TextFault) (g : Gaggle) (f : Found)
    (old new : Point I) : Type 0 where
  pub now : State
  pub is : IsState g f now
  pub read : ReadsFrom k r (by_done result now now) old new

-- a word was read, whichever words the check refuses, and a mask has the due places whose bit is 1
pub record HeldPlaces {I : Type 0} (k : SourceOf I) (book : Book) (mask : ℕ) (due : ℕ → Bool)
    (start count : ℕ) (s : State) (result : Result (Option ℕ) TextFault) (now : Gaggle) (old new : Point I) : Type 0 where
  pub options : ℕ → Option ℕ
  pub known : AreIn now options
  pub word : ℕ
  pub ones : ℕ → Bool
  pub are : OnSome result (AreOnes mask word ones start count)
  pub read : (check : Check) → (length (filter due (span start count)) ≡ 0 → is_refused check 0 ≡ false) →
      ReadsFrom k (due_script book due check (span start count) s) (by_places result (is_refused check word) ones (with_options s options)) old new

-- a raw bit was read
pub record HeldFlag {I : Type 0} (k : SourceOf I) (result : Result (Option Bool) TextFault) (old new : Point I) : Type 0 where
  pub read : (s : State) → ReadsFrom k (ask_bit s (λ b. done b)) (by_item result s) old new

-- a word was read that its check allows, and a mask has the due places whose bit is 1
pub record HeldOnes {I : Type 0} (k : SourceOf I) (script : Script State (State × (ℕ → Bool))) (start count : ℕ) (s : State)
    (result : Result (Option ℕ) TextFault) (now : Gaggle) (old new : Point I) : Type 0 where
  pub options : ℕ → Option ℕ
  pub known : AreIn now options
  pub ones : ℕ → Bool
  pub shown : OnSome result (λ places. Shows places ones start count)
  pub read : ReadsFrom k script (by_done result (with_options s options, ones) (with_options s options)) old new

-- the places are among the due ones
abbrev pub AreAmong : (due places : ℕ) → Type 0
AreAmong due places = (count : ℕ) → count ≤ 4 → due < 2 ^ count → Shows places (λ p. bit due p && bit places p) 0 count

-- the flag of a set that no other encloses was read if it is due
pub record HeldSetFlag {I : Type 0} (k : SourceOf I) (is_live was : Bool) (result : Result (Option Bool) TextFault) (old new : Point I) : Type 0 where
  pub read : (s : State) → ReadsFrom k (flag_script is_live was s) (by_item result s) old new

-- what a block sends of its children was read, and a mask has the families that are significant
pub record HeldFamilies {I : Type 0} (k : SourceOf I) (r : Script State State) (result : Result (Option ℕ) TextFault) (g : Gaggle) (f : Found)
    (old new : Point I) : Type 0 where
  pub now : State
  pub is : IsState g f now
  pub families : OnSome result (λ m. Shows m now.families 0 3)
  pub read : ReadsFrom k r (by_done result now now) old new

-- the bit of position p, if it is a marked one
abbrev pub marked_script : (ℕ → Bool) → ℕ → State → Script State State
marked_script g p s = if g p then bit_script p s else done s
