-- The parts of a text that isn't ended, and the packets that carry them (CCSDS 133.0-B-2, section 4.1.3.4, for the sequence flags; the rest
-- is this project's own).
use Rattle.std.specs.Prelude.{ℕ, ◌+◌, ◌-◌, ◌/◌, ◌==◌, Bool, if◌then◌else◌, List, ◌++◌}
use Rattle.packet_defs.specs.Packets.{ancillary_octets, packet_with}
use Rattle.space_packets.specs.declared.stage.Text.{Text}

-- the sequence flags of a part, the last of its text or not
abbrev pub flags_of : (part : ℕ) (last : Bool) → ℕ
flags_of part last = (if part == 0 then 1 else 0) + (if last then 2 else 0)

-- parts that are full and not the last, whatever follows this number of octets: at least one octet waits for the next or the end
abbrev pub full_parts : (size octets : ℕ) → ℕ
full_parts size octets = (octets - 1) / size

-- a text after this number of parts
abbrev pub text_at : Text → (parts : ℕ) → Text
text_at t parts = record t { ancillary = record t.ancillary { part = t.ancillary.part + parts } }

-- the packet of the part that a text is at, with the number of the image's packets before it
unfoldable pub packet_of : Text → (number : ℕ) (last : Bool) → List ℕ → List ℕ
packet_of t number last octets =
    packet_with t.apid (flags_of t.ancillary.part last) number (ancillary_octets t.ancillary ++ octets)
