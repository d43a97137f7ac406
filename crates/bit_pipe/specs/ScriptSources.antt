-- A script that is read from a source. (This project's own.)
use Rattle.std.specs.Prelude.{◌≡◌, List, ◌++◌, Bool, Option, Some, None, Result, Ok, Err}
use Rattle.item_defs.specs.Items.{Refusal, bad_option, bad_delta, bad_depth, false_flag}
use Rattle.bit_pipe.specs.declared.fault.InFault.{InFault}
use Rattle.bit_pipe.specs.declared.fault.InFault.TheVariants as inputs
use Rattle.bit_pipe.specs.declared.fault.Part.{Part}
use Rattle.bit_pipe.specs.declared.fault.Part.TheVariants.{Whole, Ended}
use Rattle.bit_pipe.specs.declared.fault.TextFault.{TextFault}
use Rattle.bit_pipe.specs.declared.fault.TextFault.TheVariants as texts
use Rattle.bit_pipe.specs.Sources.{SourceOf}
use Rattle.bit_pipe.specs.SourceState.{SourceState, Takes, IsEnd, FailsSo}
use Rattle.item_defs.specs.Outcomes.{whole, cut, refused}
use Rattle.item_defs.specs.Scripts.{Script, run}

-- what a call found: all, the end of the bits within an item, a refused item, or a fault of the input; with what was given
pub data Found (G A : Type 0) : Type 0 where
  got : A → Found G A
  ends : G → Found G A
  refuses : G → Refusal → Found G A
  fails : G → InFault → Found G A

-- the outcome of these bits, and of any that begin with them if all was read or an item is refused: then none of these bits is left
abbrev pub Says : {G A : Type 0} → Script G A → List Bool → Found G A → Type 0
Says s bits (got a) = (more : List Bool) → run s (bits ++ more) ≡ whole a more
Says s bits (ends g) = run s bits ≡ cut g
Says s bits (refuses g name) = (more : List Bool) → run s (bits ++ more) ≡ refused g name more
Says s bits (fails g e) = run s bits ≡ cut g

abbrev pub Stops : {I G A : Type 0} → SourceOf I → Found G A → SourceState I → SourceState I → Type 0
Stops k (got a) old new = Unit {0}
Stops k (ends g) old new = IsEnd k new
Stops k (refuses g name) old new = Unit {0}
Stops k (fails g e) old new = FailsSo k e old new

-- exactly the bits that decide what was found were taken
pub record ReadsAs {I G A : Type 0} (k : SourceOf I) (s : Script G A) (found : Found G A) (old new : SourceState I) : Type 0 where
  pub bits : List Bool
  pub taken : Takes k old new bits
  pub says : Says s bits found
  pub stops : Stops k found old new

-- these bits are read as this value, whatever follows
abbrev pub Gets : {G A : Type 0} → Script G A → List Bool → A → Type 0
Gets s bits a = (more : List Bool) → run s (bits ++ more) ≡ whole a more

-- these bits are read, and then `rest` follows
abbrev pub GoesOn : {G A : Type 0} → Script G A → List Bool → Script G A → Type 0
GoesOn all bits rest = (more : List Bool) → run all (bits ++ more) ≡ run rest more

-- ---- what the result of a call found, if this was given

abbrev pub by_fault : {G A : Type 0} → TextFault → G → Found G A
by_fault texts.BadOption g = refuses g bad_option
by_fault texts.BadDelta g = refuses g bad_delta
by_fault texts.BadDepth g = refuses g bad_depth
by_fault texts.FalseFlag g = refuses g false_flag
by_fault texts.ReadFault g = fails g inputs.ReadFault
by_fault texts.LongInput g = fails g inputs.LongInput
by_fault texts.Broken g = fails g inputs.Broken

abbrev pub by_item : {G A : Type 0} → Result (Option A) TextFault → G → Found G A
by_item (Ok (Some a)) g = got a
by_item (Ok None) g = ends g
by_item (Err fault) g = by_fault fault g

abbrev pub by_part : {G A : Type 0} → Result Part TextFault → A → G → Found G A
by_part (Ok Whole) a g = got a
by_part (Ok Ended) a g = ends g
by_part (Err fault) a g = by_fault fault g

-- the same if what was read is kept beside
abbrev pub by_done : {G A X : Type 0} → Result (Option X) TextFault → A → G → Found G A
by_done (Ok (Some x)) a g = got a
by_done (Ok None) a g = ends g
by_done (Err fault) a g = by_fault fault g
