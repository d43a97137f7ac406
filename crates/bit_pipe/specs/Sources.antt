-- What is known of a place that octets are read from.
use Rattle.std.specs.Prelude.{◌≡◌, ◌≤◌, ◌<◌, ℕ, List, [], ◌∷◌, ◌++◌, take, Option, None, Some, Result, Ok, Err}
use Rattle.bit_pipe.specs.Sinks.{Rose}
use Rattle.bit_pipe.specs.declared.fault.InFault.{InFault}
use Rattle.bit_pipe.specs.declared.fault.InFault.TheVariants.{ReadFault, LongInput, Broken}

-- how the octets end
pub data End : Type 0 where
  Plainly : End
  TooLong : End
  InPieces : End

-- the octets that are left, and how they end
pub record Tail : Type 0 where
  pub octets : List ℕ
  pub ends : End

-- The meaning of a source with these states: what is left, if that is known; the octets that are next and are
-- in memory; how often a call has failed; and Went, that the second state is the first after some calls.
pub record SourceOf (I : Type 0) : Type 1 where
  pub tail : I → Option Tail
  pub buffer : I → List ℕ
  pub faults : I → ℕ
  pub Went : I → I → Type 0
  pub went_none : (s : I) → Went s s
  pub went_both : (s t u : I) → Went s t → Went t u → Went s u

-- these octets were read, if what is left is known
abbrev pub Arrives : Option Tail → Option Tail → List ℕ → Type 0
Arrives None None octets = Unit {0}
Arrives (Some before) (Some now) octets = (before.octets ≡ octets ++ now.octets) × (before.ends ≡ now.ends)
Arrives None (Some now) octets = ⊥
Arrives (Some before) None octets = ⊥

-- nothing is left, and it ends in this way
abbrev pub IsOver : Option Tail → End → Type 0
IsOver None ends = Unit {0}
IsOver (Some tail) ends = (tail.octets ≡ []) × (tail.ends ≡ ends)

-- why no octet was read
abbrev pub Fails : {I : Type 0} → SourceOf I → InFault → I → I → Type 0
Fails k ReadFault old new = Rose (k.faults old) (k.faults new)
Fails k LongInput old new = IsOver (k.tail new) TooLong
Fails k Broken old new = IsOver (k.tail new) InPieces

abbrev pub EndsOctet : {I : Type 0} → SourceOf I → Result (Option ℕ) InFault → I → I → Type 0
EndsOctet k (Ok (Some octet)) old new = Arrives (k.tail old) (k.tail new) (octet ∷ []) × (octet < 256)
EndsOctet k (Ok None) old new = Arrives (k.tail old) (k.tail new) [] × IsOver (k.tail new) Plainly
EndsOctet k (Err e) old new = Arrives (k.tail old) (k.tail new) [] × Fails k e old new

-- the result of a call for one octet
pub record GivesOctet {I : Type 0} (k : SourceOf I) (result : Result (Option ℕ) InFault) (old new : I) : Type 0 where
  pub ends : EndsOctet k result old new
  pub faults : k.faults old ≤ k.faults new
  pub went : k.Went old new

-- the result of a call that consumes `count` of the octets in memory
pub record Consumes {I : Type 0} (k : SourceOf I) (count : ℕ) (old new : I) : Type 0 where
  pub came : Arrives (k.tail old) (k.tail new) (take count (k.buffer old))
  pub faults : k.faults old ≤ k.faults new
  pub went : k.Went old new
