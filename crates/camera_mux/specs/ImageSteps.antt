-- The effect of a step that passes one packet of the stream. This project's own.
use Rattle.std.specs.Prelude.{◌≡◌, ◌≤◌, ◌<◌, ◌+◌, ◌^◌, ℕ, true, List, length, Option, Result, Ok, Err}
use Rattle.bit_pipe.specs.declared.fault.InFault.TheVariants as in_faults
use Rattle.port_122.specs.Outside.{Outside}
use Rattle.packet_defs.specs.Reading.{apid_in}
use Rattle.packet_defs.specs.Streams.{begins_packet, first_packet}
use Rattle.space_packets.specs.Intake.{Intake, answered}
use Rattle.space_packets.specs.PacketReads.{ReadsPacket, TakenSoFar}
use Rattle.packet_assembly.specs.PacketSteps.{FindsEnd, FindsCap}
use Rattle.camera_mux.specs.declared.image.ImageCount.{ImageCount}
use Rattle.camera_mux.specs.declared.image.ImageEntry.{ImageEntry}
use Rattle.camera_mux.specs.declared.info.InfoFault.{InfoFault}
use Rattle.camera_mux.specs.declared.info.InfoFault.TheVariants.{ReadFault, WriteFault, LongInput, TooManyImages, Memory}
use Rattle.camera_mux.specs.declared.image_table.TableFull.{TableFull}
use Rattle.camera_mux.specs.declared.image_list.Step.{Step}
use Rattle.camera_mux.specs.declared.image_list.Step.TheVariants.{Passed, Over}
use Rattle.camera_mux.specs.Tables.{entry_at, AreRanged, PassesPacket}

-- the counts are at most the number of octets of the packets that were passed
pub record CountsBelow (count : ImageCount) (octets : ℕ) : Type 0 where
  pub packets : count.packets ≤ octets
  pub octets_are : count.octets ≤ octets
  pub received : count.received ≤ octets

-- the next packet can be counted in each entry
pub record CanTake (table : List ImageEntry) (v : Intake) : Type 0 where
  pub ranged : AreRanged table
  pub below : (k : ℕ) → k < length table → (octets : ℕ) → octets + length v.pending ≡ v.taken → CountsBelow (entry_at table k).count octets
  pub place : length v.pending ≤ v.taken
  pub cap : v.cap < 2 ^ 64

-- The octets that were taken hold the next packet, and it was passed, unless the table is full.
pub record TakesPacket (wanted : Option ℕ) (old new : Outside) (v w : Intake) (table after : List ImageEntry) (result : Result Unit TableFull) : Type 0 where
  pub full : Intake
  pub taken : TakenSoFar old new v full
  pub whole : begins_packet full.pending ≡ true
  pub passes : PassesPacket wanted table after (first_packet full.pending) result
  pub valid : w ≡ answered (apid_in (first_packet full.pending)) full

abbrev pub TakesNext : (wanted : Option ℕ) → (old new : Outside) (v w : Intake) (table after : List ImageEntry) → Result Step InfoFault → Type 0
TakesNext wanted old new v w table after (Ok Passed) = TakesPacket wanted old new v w table after (Ok tt)
TakesNext wanted old new v w table after (Ok (Over found)) = FindsEnd 0 old new v found × (after ≡ table)
TakesNext wanted old new v w table after (Err ReadFault) = ReadsPacket 0 old new v w (Err in_faults.ReadFault)
TakesNext wanted old new v w table after (Err WriteFault) = ⊥
TakesNext wanted old new v w table after (Err LongInput) = FindsCap 0 old new v
TakesNext wanted old new v w table after (Err TooManyImages) = (full : TableFull) × TakesPacket wanted old new v w table after (Err full)
TakesNext wanted old new v w table after (Err Memory) = ⊥
