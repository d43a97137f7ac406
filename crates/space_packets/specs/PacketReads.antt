-- The effect of a call that reads the next packet. This project's own.
use Rattle.std.specs.Prelude.{◌≡◌, ◌≤◌, ◌<◌, ◌+◌, ℕ, Bool, true, false, List, [], length, take, ◌==◌, Some, Result, Ok, Err, MatchResult}
use Rattle.bit_pipe.specs.declared.fault.InFault.{InFault}
use Rattle.bit_pipe.specs.declared.fault.InFault.TheVariants.{ReadFault}
use Rattle.port_122.specs.Outside.{Outside, Exchange, AtEnd, Rose, Read, ReadFailed}
use Rattle.packet_defs.specs.declared.packet.PacketRead.{PacketRead}
use Rattle.space_packets.specs.Intake.{Intake, is_decided, verdict, answered, fed}

-- a read call with i of these octets taken, which decide nothing, and none given
abbrev pub AsksUndecided : Intake → List ℕ → ℕ → ℕ → Type 0
AsksUndecided v took i j = (is_decided (fed v (take i took) false) ≡ false) × (j ≡ 0)

-- the reason for the result, if u is the state after the octets that were taken
abbrev pub EndsPacket : (apid : ℕ) → (old new : Outside) → (u w : Intake) → Result PacketRead InFault → Type 0
EndsPacket apid old new u w (Ok read) = (verdict apid u ≡ Some (Ok read)) × (w ≡ answered apid u)
EndsPacket apid old new u w (Err ReadFault) = Rose old.read_faults new.read_faults × (is_decided u ≡ false) × (w ≡ u)
EndsPacket apid old new u w (Err fault) = (verdict apid u ≡ Some (Err fault)) × (w ≡ answered apid u)

-- One packet, the end, or why there is none: the octets that were taken, at most those that the cap allows, and what they decide. No read
-- call was made once that was decided, so nothing was taken if it was decided at once, and the end was reached only below the cap.
pub record ReadsPacket (apid : ℕ) (old new : Outside) (v w : Intake) (result : Result PacketRead InFault) : Type 0 where
  pub took : List ℕ
  pub saw_end : Bool
  pub since : Exchange old new took [] [] (AsksUndecided v took)
  pub end_seen : saw_end ≡ true → AtEnd new
  pub within : v.taken + length took ≤ v.cap
  pub at_once : is_decided (fed v [] false) ≡ true → took ≡ []
  pub end_below : saw_end ≡ true → v.taken + length took < v.cap
  pub ends : EndsPacket apid old new (fed v took saw_end) w result

-- The octets that were taken until they, the end or the cap decide what is next: at most those that the cap allows. No read call was made
-- once that was decided, so nothing was taken if it was decided at once, and the end was reached only below the cap.
pub record TakenSoFar (p now : Outside) (v w : Intake) : Type 0 where
  pub took : List ℕ
  pub saw_end : Bool
  pub since : Exchange p now took [] [] (AsksUndecided v took)
  pub end_seen : saw_end ≡ true → AtEnd now
  pub within : v.taken + length took ≤ v.cap
  pub at_once : is_decided (fed v [] false) ≡ true → took ≡ []
  pub end_below : saw_end ≡ true → v.taken + length took < v.cap
  pub valid : w ≡ fed v took saw_end

-- the effect of a call that reads until it is decided what is next
abbrev pub FillsUp : {T E : Type 0} → Result T E → (old new : Outside) → (v w : Intake) → Type 0
FillsUp result old new v w = MatchResult result (λ _. TakenSoFar old new v w × (is_decided w ≡ true)) (λ _. (apid : ℕ) →
    ReadsPacket apid old new v w (Err ReadFault))

-- the effect of one read into a reader: it asks for 1 to 4,096 octets
pub record Fed (old new : Outside) (v w : Intake) : Type 0 where
  pub piece : List ℕ
  pub count : ℕ
  pub some : 0 < length piece
  pub few : length piece ≤ 4096
  pub read : Read old new piece count
  pub within : v.taken + count ≤ v.cap
  pub valid : w ≡ fed v (take count piece) (count == 0)

abbrev pub FeedsOnce : {T E : Type 0} → Result T E → (old new : Outside) → (v w : Intake) → Type 0
FeedsOnce result old new v w = MatchResult result (λ _. Fed old new v w) (λ _. ReadFailed old new × (w ≡ fed v [] false))
