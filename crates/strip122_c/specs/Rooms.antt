-- How much room the packets of a setting need, for C. This project's own.
use Rattle.std.specs.Prelude.{◌≡◌, ◌==◌, ℕ, if◌then◌else◌, Option, Some, None, Result, Ok, Err, ⊤}
use Rattle.base_122.specs.Ranges.{IsInRange, rows_range}
use Rattle.base_122.specs.declared.setting.Setting.{Setting}
use Rattle.encoder_rows.specs.Room.{image_room}
use Rattle.strip122_c.specs.declared.setting.SettingRefusal.{SettingRefusal}

-- a setting whose fields are in range is found, and no other
abbrev pub FindsUsable : Result Setting SettingRefusal → Option Setting → Type 0
FindsUsable (Ok s) (Some found) = (found ≡ s) × IsInRange s
FindsUsable (Ok s) None = IsInRange s → ⊥
FindsUsable (Err refusal) (Some found) = ⊥
FindsUsable (Err refusal) None = ⊤

-- the room of a setting whose fields are in range, and 0 without one
abbrev pub RoomIs : (Setting → ℕ) → Result Setting SettingRefusal → (octets : ℕ) → Type 0
RoomIs room (Ok s) octets = (IsInRange s → octets ≡ room s) × ((IsInRange s → ⊥) → octets ≡ 0)
RoomIs room (Err refusal) octets = octets ≡ 0

-- octets that are enough for all packets of an image, of the most rows if these are open
abbrev pub bound : Setting → ℕ
bound s = image_room s (if s.rows == 0 then rows_range.most else s.rows)
