-- Bits that are read from octets.
use Rattle.std.specs.Prelude.{◌≡◌, ◌≤◌, ◌<◌, ◌⊎◌, ℕ, ◌+◌, ◌*◌, ◌^◌, List, [], ◌∷◌, ◌++◌, length, Bool, Option, None, Some, Result, Ok, Err}
use Rattle.item_defs.specs.Bits.{bits_of, bits_of_octets, AreOctets}
use Rattle.item_defs.specs.Items.{Shape, IsSaid, spelling}
use Rattle.item_defs.specs.Readings.{Lacks}
use Rattle.bit_pipe.specs.Sources.{SourceOf, Arrives, IsOver, Plainly, Fails}
use Rattle.bit_pipe.specs.declared.fault.InFault.{InFault}
use Rattle.bit_pipe.specs.declared.bit_in.BitIn.{BitIn}

-- the source's state; the bits of its last octet that are left; how many bits were taken, with those before;
-- how many more the bound allows; and the name of the reference to the source
pub record SourceState (I : Type 0) : Type 0 where
  pub source : I
  pub pending : List Bool
  pub used : ℕ
  pub room : ℕ
  pub name : ℕ

abbrev pub source_state : {I : Type 0} → BitIn I → SourceState I
source_state b = record {
  source = b.input.now;
  pending = bits_of b.left b.octet;
  used = b.used;
  room = b.room;
  name = b.input.ghost_name;
}

-- bits may be taken
pub record IsIn {I : Type 0} (s : SourceState I) : Type 0 where
  pub bound : s.used + s.room ≤ 2 ^ 35
  pub pending : length s.pending < 8

-- no bit was taken yet
pub record BeginsIn {I : Type 0} (input : I) (bound before : ℕ) (s : SourceState I) : Type 0 where
  pub source : s.source ≡ input
  pub pending : s.pending ≡ []
  pub used : s.used ≡ 8 * before
  pub room : s.used + s.room ≡ 8 * bound

-- exactly these bits were taken, and no octet more than they need
pub record Takes {I : Type 0} (k : SourceOf I) (old new : SourceState I) (bits : List Bool) : Type 0 where
  pub octets : List ℕ
  pub small : AreOctets octets
  pub came : Arrives (k.tail old.source) (k.tail new.source) octets
  pub spell : old.pending ++ bits_of_octets octets ≡ bits ++ new.pending
  pub pending : length new.pending < 8
  pub used : new.used ≡ old.used + length bits
  pub room : old.room ≡ new.room + length bits
  pub faults : k.faults old.source ≤ k.faults new.source
  pub went : k.Went old.source new.source
  pub name : new.name ≡ old.name

-- the bound is reached, or the octets end here
pub record IsEnd {I : Type 0} (k : SourceOf I) (s : SourceState I) : Type 0 where
  pub bits : (s.room ≡ 0) ⊎ ((s.pending ≡ []) × IsOver (k.tail s.source) Plainly)

-- below the bound, the source failed since the state before
pub record FailsSo {I : Type 0} (k : SourceOf I) (fault : InFault) (old new : SourceState I) : Type 0 where
  pub room : 0 < new.room
  pub pending : new.pending ≡ []
  pub cause : Fails k fault old.source new.source

abbrev pub EndsBit : {I : Type 0} → SourceOf I → Result (Option Bool) InFault → SourceState I → SourceState I → Type 0
EndsBit k (Ok (Some b)) old new = Takes k old new (b ∷ [])
EndsBit k (Ok None) old new = Takes k old new [] × IsEnd k new
EndsBit k (Err e) old new = Takes k old new [] × FailsSo k e old new

-- the result of a call for one bit
pub record GivesBit {I : Type 0} (k : SourceOf I) (result : Result (Option Bool) InFault) (old new : SourceState I) : Type 0 where
  pub ends : EndsBit k result old new

-- some bits were taken, and no code of this shape is a prefix of them
pub record EndsWithin {I : Type 0} (k : SourceOf I) (s : Shape) (old new : SourceState I) : Type 0 where
  pub some : List Bool
  pub taken : Takes k old new some
  pub lacks : Lacks s some

abbrev pub EndsItem : {I : Type 0} → SourceOf I → Shape → Result (Option ℕ) InFault → SourceState I → SourceState I → Type 0
EndsItem k s (Ok (Some n)) old new = IsSaid s n × Takes k old new (spelling s n)
EndsItem k s (Ok None) old new = EndsWithin k s old new × IsEnd k new
EndsItem k s (Err e) old new = EndsWithin k s old new × FailsSo k e old new

-- the result of a call for one item
pub record GivesItem {I : Type 0} (k : SourceOf I) (s : Shape) (result : Result (Option ℕ) InFault) (old new : SourceState I) : Type 0 where
  pub ends : EndsItem k s result old new
