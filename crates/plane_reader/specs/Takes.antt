-- What a call has read of a script, and what its masks and its gaggle have then. (This project's own.)
use Rattle.std.specs.Prelude.{◌≡◌, ◌≤◌, ◌<◌, ◌+◌, ◌-◌, ◌&&◌, ◌^◌, ℕ, Bool, count_ones, false, if◌then◌else◌, List, filter, length, Option, Some, None}
use Rattle.std.specs.Prelude.{Result, Ok, Err}
use lib.ListN.{get_or}
use Rattle.item_defs.specs.Bits.{bit}
use Rattle.item_defs.specs.Items.{false_flag}
use Rattle.base_122.specs.declared.book.Book.{Book}
use Rattle.plane_defs.specs.Spans.{span}
use Rattle.block_masks.specs.declared.gaggle.Gaggle.{Gaggle}
use Rattle.block_masks.specs.Masks.{Shows}
use Rattle.block_masks.specs.Places.{inside}
use Rattle.bit_pipe.specs.declared.fault.TextFault.{TextFault}
use Rattle.bit_pipe.specs.Sources.{SourceOf}
use Rattle.bit_pipe.specs.SourceState.{SourceState}
use Rattle.item_defs.specs.Scripts.{Script, done, ask_bit}
use Rattle.bit_pipe.specs.ScriptSources.{Found as Finding, got, ends, refuses, ReadsAs, by_fault, by_item, by_done}
use Rattle.plane_defs.specs.States.{State, with_options, with_minus}
use Rattle.plane_defs.specs.WordScripts.{option_script, word_script, due_script, signs_script}
use Rattle.plane_defs.specs.Steps.{Check, refuses as is_refused}
use Rattle.block_masks.specs.Picks.{AreSpread}
use Rattle.plane_reader.specs.declared.found.Found.{Found}

-- the option of a length, if its identifier was read
abbrev pub option_in : Gaggle → ℕ → Option ℕ
option_in g n = if get_or g.sent (n - 2) false then Some (get_or g.options (n - 2) 0) else None

abbrev pub AreIn : Gaggle → (ℕ → Option ℕ) → Type 0
AreIn g options = (n : ℕ) → 2 ≤ n → n ≤ 4 → options n ≡ option_in g n

-- the masks and the gaggle of a state
pub record IsState (g : Gaggle) (f : Found) (s : State) : Type 0 where
  pub options : AreIn g s.options
  pub bits : Shows f.bits s.bits 0 64
  pub minus : Shows f.minus s.minus 0 64
  pub raw : Shows f.raw s.raw 0 64

-- a mask of some positions
abbrev pub Marks : ℕ → (ℕ → Bool) → (start count : ℕ) → Type 0
Marks mask f start count = (k : ℕ) → k < count → bit mask (start + k) ≡ f (start + k)

-- this holds of a value that was given
abbrev pub OnSome : {A : Type 0} → Result (Option A) TextFault → (A → Type 0) → Type 0
OnSome (Ok (Some value)) Holds = Holds value
OnSome other Holds = Unit {0}

-- the option of a length, which was known or was read
pub record Opens {I : Type 0} (k : SourceOf I) (count : ℕ) (s : State) (result : Result (Option ℕ) TextFault) (now : Gaggle)
    (old new : SourceState I) : Type 0 where
  pub options : ℕ → Option ℕ
  pub known : AreIn now options
  pub at : OnSome result (λ option. options count ≡ Some option)
  pub read : ReadsAs k (option_script count s (s.options count)) (by_done result (with_options s options) (with_options s options)) old new

-- a value that was read, unless it is refused
abbrev pub unless_bad : {G A : Type 0} → Bool → G → A → Finding G A
unless_bad bad g a = if bad then refuses g false_flag else got a

abbrev pub by_word : Result (Option ℕ) TextFault → Check → State → Finding State (State × ℕ)
by_word (Ok (Some value)) check s = unless_bad (is_refused check value) s (s, value)
by_word (Ok None) check s = ends s
by_word (Err fault) check s = by_fault fault s

-- a word was read, whichever words the check refuses; an empty word is not asked for
pub record TakesWord {I : Type 0} (k : SourceOf I) (book : Book) (count : ℕ) (s : State) (result : Result (Option ℕ) TextFault) (now : Gaggle)
    (old new : SourceState I) : Type 0 where
  pub options : ℕ → Option ℕ
  pub known : AreIn now options
  pub read : (check : Check) → (count ≡ 0 → is_refused check 0 ≡ false) →
      ReadsAs k (word_script book count check s) (by_word result check (with_options s options)) old new

abbrev pub by_places : Result (Option ℕ) TextFault → (bad : Bool) → (ℕ → Bool) → State → Finding State (State × (ℕ → Bool))
by_places (Ok (Some places)) bad ones s = unless_bad bad s (s, ones)
by_places (Ok None) bad ones s = ends s
by_places (Err fault) bad ones s = by_fault fault s

-- a mask has the places among the due ones whose bit in a word is 1
pub record AreOnes (mask word : ℕ) (ones : ℕ → Bool) (start count places : ℕ) : Type 0 where
  pub fits : word < 2 ^ count_ones mask
  pub spread : AreSpread mask word places
  pub shown : Shows places ones start count
  pub within : (q : ℕ) → (inside start count q && ones q) ≡ ones q

-- a word was read, whichever words the check refuses, and a mask has the due places whose bit is 1
pub record TakesPlaces {I : Type 0} (k : SourceOf I) (book : Book) (mask : ℕ) (due : ℕ → Bool)
    (start count : ℕ) (s : State) (result : Result (Option ℕ) TextFault) (now : Gaggle) (old new : SourceState I) : Type 0 where
  pub options : ℕ → Option ℕ
  pub known : AreIn now options
  pub word : ℕ
  pub ones : ℕ → Bool
  pub are : OnSome result (AreOnes mask word ones start count)
  pub read : (check : Check) → (length (filter due (span start count)) ≡ 0 → is_refused check 0 ≡ false) →
      ReadsAs k (due_script book due check (span start count) s) (by_places result (is_refused check word) ones (with_options s options)) old new

-- a state was read on, and the masks and the gaggle have what was read
pub record TakesState {I X : Type 0} (k : SourceOf I) (r : Script State State) (result : Result (Option X) TextFault) (g : Gaggle) (f : Found)
    (old new : SourceState I) : Type 0 where
  pub now : State
  pub is : IsState g f now
  pub read : ReadsAs k r (by_done result now now) old new

-- a raw bit was read
pub record TakesFlag {I : Type 0} (k : SourceOf I) (result : Result (Option Bool) TextFault) (old new : SourceState I) : Type 0 where
  pub read : (s : State) → ReadsAs k (ask_bit s (λ b. done b)) (by_item result s) old new

-- the positions of a mask, from a start on
abbrev pub positions : (mask start count : ℕ) → List ℕ
positions mask start count = filter (λ p. bit mask (p - start)) (span start count)

-- signs were read, and the mask has those that were
pub record TakesSigns {I : Type 0} (k : SourceOf I) (places : List ℕ) (s : State) (result : Result (Option (Unit {0})) TextFault) (mask : ℕ)
    (old new : SourceState I) : Type 0 where
  pub minus : ℕ → Bool
  pub shown : Shows mask minus 0 64
  pub read : ReadsAs k (signs_script places s) (by_done result (with_minus s minus) (with_minus s minus)) old new
