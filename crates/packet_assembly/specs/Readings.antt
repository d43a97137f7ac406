-- What of a stream was read since the beginning, and that it was read to its end. This project's own.
use Rattle.std.specs.Prelude.{◌≡◌, ◌⊎◌, ◌≤◌, ◌<◌, ℕ, true, false, List, [], ◌++◌, length, take, Some}
use Rattle.std.specs.List.{AllByRecursion}
use Rattle.port_122.specs.Outside.{Outside, AtEnd}
use Rattle.packet_defs.specs.Packets.{joined}
use Rattle.packet_defs.specs.Streams.{IsPacket, left_over, has_bad_version}
use Rattle.stream_defs.specs.Fates.{fresh, after_all}
use Rattle.packet_assembly.specs.Assembling.{Assembling}

-- The octets that were taken, at most this number, are those of the packets that were passed, and those that wait.
pub record HasRead (mine most : ℕ) (a : Assembling) (took : List ℕ) (passed : List (List ℕ)) : Type 0 where
  pub apid : a.apid ≡ mine
  pub taken : a.intake.taken ≡ length took
  pub cap : a.intake.cap ≡ most
  pub capped : a.intake.taken ≤ a.intake.cap
  pub octets_are : took ≡ joined passed ++ a.intake.pending
  pub packets_are : AllByRecursion IsPacket passed
  pub state : a.state ≡ after_all mine fresh passed
  pub count : a.packets ≡ length passed

-- if the end was reached, nothing is left, and more octets may be taken
abbrev pub SawEnd : Outside → Assembling → Type 0
SawEnd now a = (rest : List ℕ) → now.rest ≡ Some rest → a.intake.ended ≡ true → (rest ≡ []) × (a.intake.taken < a.intake.cap)

-- The end was read, for which more octets may be taken, or what can't be read on.
abbrev pub IsReadOut : (cap : ℕ) → Outside → List ℕ → Type 0
IsReadOut cap now took = (has_bad_version (left_over took) ≡ true) ⊎ (AtEnd now × ((rest : List ℕ) → now.rest ≡ Some rest → length took < cap))

-- A read call with i of these octets taken since the beginning: they can be read on, and are fewer than may be taken. So no call reads
-- once they have ended the stream.
abbrev pub AsksReadable : (cap : ℕ) → List ℕ → ℕ → ℕ → Type 0
AsksReadable cap took i j = (has_bad_version (left_over (take i took)) ≡ false) × (i < cap)
