-- The report on a list of images. This project's own.
use Rattle.std.specs.Prelude.{◌≡◌, ◌≢◌, ℕ, ◌==◌, if◌then◌else◌, List, Option, None, Some, is_none, Result, Ok, Err}
use Rattle.base_122.specs.declared.wish.DecodeWish.{DecodeWish}
use Rattle.packet_defs.specs.declared.packet.Framing.{Framing}
use Rattle.packet_defs.specs.declared.packet.Framing.TheVariants.{BadVersion, CutPacket}
use Rattle.camera_mux.specs.declared.info.InfoWish.{InfoWish}
use Rattle.strip122_c.specs.declared.info.Listed.{Listed}
use Rattle.strip122_c.specs.declared.info.InfoRefusal.{InfoRefusal}
use Rattle.strip122_c.specs.declared.info.InfoRefusal.TheVariants.{SmallRoom, LongInput, TooManyImages, Memory}
use Rattle.strip122_c.specs.declared.listed.Strip122Listed.{Strip122Listed}
use Rattle.strip122_c.specs.declared.setting.SettingRefusal.{SettingRefusal}
use Rattle.strip122_c.specs.declared.wish.Strip122Wish.{Strip122Wish}
use Rattle.strip122_c.specs.Settings.{refusal_answer}
use Rattle.strip122_c.specs.WholeListing.{Lists}
use Rattle.strip122_c.specs.Wishes.{wish_in}

-- the size of a report
abbrev pub listed_size : ℕ
listed_size = 32

abbrev pub nothing : Strip122Listed
nothing = record { size = listed_size; fault = 0; octets = 0; images = 0; fault_octets = 0 }

-- a report with the reason why the packets can't be read on
abbrev pub framing_report : Strip122Listed → Option Framing → Strip122Listed
framing_report report None = report
framing_report report (Some (BadVersion octet)) = record report { fault = 1; fault_octets = octet }
framing_report report (Some (CutPacket missing)) = record report { fault = 2; fault_octets = missing }

-- the report on a list that ended so
abbrev pub report_of : Result Listed InfoRefusal → Strip122Listed
report_of (Ok listed) = framing_report (record nothing { octets = listed.octets; images = listed.images }) listed.framing
report_of (Err (SmallRoom octets)) = record nothing { octets = octets }
report_of (Err LongInput) = nothing
report_of (Err TooManyImages) = nothing
report_of (Err Memory) = nothing

-- the answer to it: 0 if the packets were read to their end
abbrev pub answer_of : Result Listed InfoRefusal → ℕ
answer_of (Ok listed) = if is_none listed.framing then 0 else 1
answer_of (Err (SmallRoom octets)) = 7
answer_of (Err Memory) = 8
answer_of (Err LongInput) = 15
answer_of (Err TooManyImages) = 16

-- the images of an APID, or of each APID, which 65,535 represents
abbrev pub info_wish : DecodeWish → InfoWish
info_wish wish = record { apid = (if wish.apid == 65535 then None else Some wish.apid); octets = wish.octets }

-- The images of packets were listed into a room that was `old`, or it was refused. The answer and the report say how it ended.
pub record ReportsListing (wish : InfoWish) (packets old new : List ℕ) (report : Strip122Listed) (answer : ℕ) : Type 0 where
  pub ended : Result Listed InfoRefusal
  pub lists : Lists wish packets old new ended
  pub answer_is : answer ≡ answer_of ended
  pub report_is : report ≡ report_of ended

-- They were listed with the wish that a structure gives. A structure that gives none leaves the room unchanged.
abbrev pub ListsFor : Result DecodeWish SettingRefusal → (packets old new : List ℕ) → Strip122Listed → (answer : ℕ) → Type 0
ListsFor (Ok wish) packets old new report answer = ReportsListing (info_wish wish) packets old new report answer
ListsFor (Err refusal) packets old new report answer = (new ≡ old) × (report ≡ nothing) × (answer ≡ refusal_answer refusal)

-- If the report's first field is not its size, the room and the report are as they were.
pub record ListsInto (c : Strip122Wish) (packets old new : List ℕ) (before report : Strip122Listed) (answer : ℕ) : Type 0 where
  pub wrong : before.size ≢ listed_size → (new ≡ old) × (report ≡ before) × (answer ≡ 13)
  pub done : before.size ≡ listed_size → ListsFor (wish_in c) packets old new report answer
