-- The effect of a step that picks one packet. This project's own.
use Rattle.std.specs.Prelude.{◌≡◌, ◌≤◌, ℕ, Bool, true, false, [], length, take, Option, Result, Ok, Err}
use Rattle.bit_pipe.specs.declared.fault.InFault.TheVariants as in_faults
use Rattle.port_122.specs.Outside.{Outside, Exchange, NoRead, Rose}
use Rattle.packet_defs.specs.Streams.{begins_packet, first_packet}
use Rattle.space_packets.specs.Intake.{Intake, answered}
use Rattle.space_packets.specs.PacketReads.{ReadsPacket, TakenSoFar}
use Rattle.packet_assembly.specs.PacketSteps.{FindsEnd, FindsCap}
use Rattle.camera_mux.specs.Picked.{is_picked}
use Rattle.strip_decoder.specs.declared.list.ListFault.{ListFault}
use Rattle.strip_decoder.specs.declared.list.ListFault.TheVariants.{ReadFault, WriteFault, LongInput, Memory}
use Rattle.camera_mux.specs.declared.picking.Step.{Step}
use Rattle.camera_mux.specs.declared.picking.Step.TheVariants.{Given, Passed, Over}

-- The octets that were taken hold the next packet, and it is picked or isn't.
pub record HoldsNext (apid : ℕ) (image : Option ℕ) (old now : Outside) (v u : Intake) (is : Bool) : Type 0 where
  pub taken : TakenSoFar old now v u
  pub whole : begins_packet u.pending ≡ true
  pub test : is_picked apid image (first_packet u.pending) ≡ is

-- it was picked and written
pub record GivesNext (apid : ℕ) (image : Option ℕ) (old new : Outside) (v w : Intake) : Type 0 where
  pub between : Outside
  pub full : Intake
  pub holds : HoldsNext apid image old between v full true
  pub gives : Exchange between new [] (first_packet full.pending) [] NoRead
  pub valid : w ≡ answered apid full

-- it wasn't picked
pub record PassesOther (apid : ℕ) (image : Option ℕ) (old new : Outside) (v w : Intake) : Type 0 where
  pub full : Intake
  pub holds : HoldsNext apid image old new v full false
  pub valid : w ≡ answered apid full

-- it was picked, and its write failed
pub record FailsToGive (apid : ℕ) (image : Option ℕ) (old new : Outside) (v : Intake) : Type 0 where
  pub between : Outside
  pub full : Intake
  pub holds : HoldsNext apid image old between v full true
  pub rose : Rose between.write_faults new.write_faults
  pub some : ℕ
  pub within : some ≤ length (first_packet full.pending)
  pub gives : Exchange between new [] (take some (first_packet full.pending)) [] NoRead

abbrev pub PicksNext : (apid : ℕ) (image : Option ℕ) → (old new : Outside) (v w : Intake) → Result Step ListFault → Type 0
PicksNext apid image old new v w (Ok Given) = GivesNext apid image old new v w
PicksNext apid image old new v w (Ok Passed) = PassesOther apid image old new v w
PicksNext apid image old new v w (Ok (Over found)) = FindsEnd apid old new v found
PicksNext apid image old new v w (Err ReadFault) = ReadsPacket apid old new v w (Err in_faults.ReadFault)
PicksNext apid image old new v w (Err WriteFault) = FailsToGive apid image old new v
PicksNext apid image old new v w (Err LongInput) = FindsCap apid old new v
PicksNext apid image old new v w (Err Memory) = ⊥
