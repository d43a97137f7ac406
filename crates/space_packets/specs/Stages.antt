-- The stage of a packetiser as numbers of its text. This project's own.
use Rattle.std.specs.Prelude.{ℕ, ◌+◌, ◌*◌, ◌^◌, ⊤}
use Rattle.space_packets.specs.declared.stage.PacketiserState.{PacketiserState}
use Rattle.space_packets.specs.declared.stage.PacketiserState.TheVariants.{Idle, Begun, Broken}

-- a text is begun
abbrev pub IsBegun : PacketiserState → Type 0
IsBegun Idle = ⊥
IsBegun (Begun t) = ⊤
IsBegun Broken = ⊥

-- octets that the begun text was given, if a part has this size and this number of octets wait; otherwise the most that are possible
abbrev pub given_in : PacketiserState → (size pending : ℕ) → ℕ
given_in Idle size pending = 2 ^ 32
given_in (Begun t) size pending = t.ancillary.part * size + pending
given_in Broken size pending = 2 ^ 32

-- the APID of the begun text
abbrev pub apid_of : PacketiserState → ℕ
apid_of Idle = 0
apid_of (Begun t) = t.apid
apid_of Broken = 0

-- parts of the begun text that are written
abbrev pub parts_of : PacketiserState → ℕ
parts_of Idle = 0
parts_of (Begun t) = t.ancillary.part
parts_of Broken = 0

-- texts that are begun and not ended
abbrev pub open_texts : PacketiserState → ℕ
open_texts Idle = 0
open_texts (Begun t) = 1
open_texts Broken = 0

-- octets that may wait, if a part has this size
abbrev pub room_of : PacketiserState → (size : ℕ) → ℕ
room_of Idle size = 0
room_of (Begun t) size = size
room_of Broken size = 0
