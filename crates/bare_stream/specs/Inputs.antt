-- A port as a source of octets. (This project's own.)
use Rattle.std.specs.Prelude.{◌≡◌, ◌⊎◌, ◌<◌, [], Bool, true, false, None, Result, Ok, Err}
use Rattle.bit_pipe.specs.Sources.{SourceOf, GivesOctet}
use Rattle.bit_pipe.specs.declared.fault.InFault.{InFault}
use Rattle.port_122.specs.Outside.{Outside}
use Rattle.bare_stream.specs.declared.input.PortIn.{PortIn}
use Rattle.bare_stream.specs.Input.{Went, FillsPiece, faults_of, tail_of, waiting}
use Rattle.bare_stream.specs.InputLaws.{went_none, went_both}

-- a fault is one of reading
abbrev pub source_of : {X : Type 0} → (X → Outside) → SourceOf (PortIn X)
source_of outside = record {
  tail = tail_of outside;
  buffer = waiting;
  faults = faults_of;
  Went = Went outside;
  went_none = went_none outside;
  went_both = went_both outside;
}

-- an octet waits, which may be one of a piece that was read; or the reason why none follows
abbrev pub IsReady : {X : Type 0} → (X → Outside) → Result Bool InFault → (old new : PortIn X) → Type 0
IsReady outside (Ok true) old new = ((new ≡ old) × (new.next < new.end)) ⊎ ((waiting old ≡ []) × FillsPiece outside (Ok true) old new)
IsReady outside (Ok false) old new = GivesOctet (source_of outside) (Ok None) old new
IsReady outside (Err fault) old new = GivesOctet (source_of outside) (Err fault) old new
