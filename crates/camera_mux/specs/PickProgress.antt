-- The progress of a pick since it began: what it took, and which packets it gave. This project's own.
use Rattle.std.specs.Prelude.{◌≡◌, ◌≤◌, ℕ, List, [], length, take, Option, None}
use Rattle.port_122.specs.Outside.{Outside, Exchange}
use Rattle.base_122.specs.declared.wish.DecodeWish.{DecodeWish}
use Rattle.packet_defs.specs.Packets.{joined}
use Rattle.space_packets.specs.Intake.{Intake}
use Rattle.packet_assembly.specs.Readings.{HasRead, SawEnd, AsksReadable}
use Rattle.packet_assembly.specs.PacketSteps.{reading}
use Rattle.camera_mux.specs.Picked.{picked_of, picked}

-- a read call with i octets taken and j given: what is given is the picked packets of those that are whole by then
abbrev pub AsksPicked : (apid : ℕ) (image : Option ℕ) → (took gave : List ℕ) → ℕ → ℕ → Type 0
AsksPicked apid image took gave i j = (j ≤ length gave) × (take j gave ≡ picked (take i took) apid image)

-- Some packets were passed, and those that are picked, this number of them, were given.
pub record HasPicked (wish : DecodeWish) (image : Option ℕ) (start now : Outside) (v : Intake) (packets : ℕ) : Type 0 where
  pub took : List ℕ
  pub passed : List (List ℕ)
  pub since : Exchange start now took (joined (picked_of wish.apid image passed)) []
      (AsksPicked wish.apid image took (joined (picked_of wish.apid image passed)))
  pub readable : Exchange start now took (joined (picked_of wish.apid image passed)) [] (AsksReadable wish.octets took)
  pub read : HasRead wish.apid wish.octets (reading wish.apid v passed None) took passed
  pub at_end : SawEnd now (reading wish.apid v passed None)
  pub packets_are : packets ≡ length (picked_of wish.apid image passed)
