-- The result of a call that puts some entries of a gaggle.
use Rattle.std.specs.Prelude.{◌≡◌, ℕ, ◌+◌, List, ◌++◌, Result, OnOk}
use Rattle.item_defs.specs.Items.{text}
use Rattle.bit_pipe.specs.Sinks.{SinkOf}
use Rattle.bit_pipe.specs.SinkState.{SinkState, IsOpen, Puts}
use Rattle.bit_pipe.specs.declared.fault.PutFault.{PutFault}
use Rattle.base_122.specs.declared.book.Book.{Book}
use Rattle.plane_defs.specs.declared.entries.Entry.{Entry}
use Rattle.plane_defs.specs.Entries.{stage_number}
use Rattle.plane_defs.specs.Planes.{Plane, of_gaggle, before_stage}
use Rattle.plane_defs.specs.Spelled.{spelled_after}
use Rattle.block_masks.specs.declared.gaggle.Gaggle.{Gaggle}
use Rattle.block_masks.specs.Gaggles.{Agrees}

-- the entries were put, whatever entries went before, if the gaggle's flags are right about them
pub record Spells {S : Type 0} (k : SinkOf S) (book : Book) (old new : Gaggle) (result : Result (Unit {0}) PutFault) (from to : SinkState S)
    (entries : List Entry) : Type 0 where
  pub puts : (before : List Entry) → Agrees old.sent before → Puts k result from to (text (spelled_after book old.options before entries))
  pub agrees : (before : List Entry) → Agrees old.sent before → OnOk result (Agrees new.sent (before ++ entries))
  pub is_open : OnOk result (IsOpen to)
  pub options : new.options ≡ old.options

-- a stage of gaggle g was put, if the gaggle's flags are right about the stages before it
pub record PutsStage {S : Type 0} (k : SinkOf S) (book : Book) (p : Plane) (number g : ℕ) (old new : Gaggle) (result : Result (Unit {0}) PutFault)
    (from to : SinkState S) : Type 0 where
  pub puts : Agrees old.sent (before_stage p number g) →
      Puts k result from to (text (spelled_after book old.options (before_stage p number g) (of_gaggle p (stage_number number) g)))
  pub agrees : Agrees old.sent (before_stage p number g) → OnOk result (Agrees new.sent (before_stage p (number + 1) g))
  pub is_open : OnOk result (IsOpen to)
  pub options : new.options ≡ old.options
