-- The effect of a call that takes octets into places of an array. (This project's own.)
use Rattle.std.specs.Prelude.{◌≡◌, ◌<◌, ◌≤◌, ℕ, ◌+◌, List, ◌++◌, length, take, Result, Ok, Err}
use Rattle.item_defs.specs.Bits.{AreOctets}
use Rattle.bit_pipe.specs.Sources.{SourceOf, Arrives, IsOver, Plainly, Fails}
use Rattle.bit_pipe.specs.declared.fault.InFault.{InFault}

-- the place after the last octet that was taken; if it is below the end of the places, the input is over, or failed
abbrev pub EndsFill : {I : Type 0} → SourceOf I → (from to : ℕ) → Result ℕ InFault → List ℕ → I → I → Type 0
EndsFill k from to (Ok place) octets old new = (place ≡ from + length octets) × (place ≤ to) × (place < to → IsOver (k.tail new) Plainly)
EndsFill k from to (Err fault) octets old new = (from + length octets < to) × Fails k fault old new

-- these octets were taken into the places from one on
pub record Fills {I : Type 0} (k : SourceOf I) (from to : ℕ) (result : Result ℕ InFault) (old new : I) (before after : List ℕ) : Type 0 where
  pub octets : List ℕ
  pub small : AreOctets octets
  pub came : Arrives (k.tail old) (k.tail new) octets
  pub faults : k.faults old ≤ k.faults new
  pub went : k.Went old new
  pub places : take (from + length octets) after ≡ take from before ++ octets
  pub size : length after ≡ length before
  pub ends : EndsFill k from to result octets old new
