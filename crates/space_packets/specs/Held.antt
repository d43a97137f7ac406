-- The values that a reader's fields represent, and what holds of them. This project's own.
use Rattle.std.specs.Prelude.{◌≡◌, ◌≤◌, ◌-◌, length, slice_range}
use Rattle.space_packets.specs.declared.packet_reader.PacketReader.TheInside.{Inside}
use Rattle.space_packets.specs.Intake.{Intake}

-- the octets that wait, and the last text, are in the buffer
abbrev pub intake : Inside → Intake
intake a = record {
  cap = a.cap;
  taken = a.taken;
  pending = slice_range a.buffer.items a.start a.end;
  text = slice_range a.buffer.items a.text_start a.text_end;
  ended = a.ended;
}

-- The buffer has room for two packets of the greatest length.
pub record IsHeld (a : Inside) : Type 0 where
  pub room : length a.buffer.items ≡ 131084
  pub order : a.start ≤ a.end
  pub within : a.end ≤ length a.buffer.items
  pub text_order : a.text_start ≤ a.text_end
  pub text_within : a.text_end ≤ length a.buffer.items
  pub counted : a.end - a.start ≤ a.taken
  pub capped : a.taken ≤ a.cap
