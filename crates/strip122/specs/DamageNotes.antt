-- The note on packets that aren't whole. This project's own.
use Rattle.std.specs.Prelude.{◌≡◌, ℕ, ◌==◌, Bool, true, false, not, List, [], ◌∷◌, ◌++◌, decimal, codes, Option, None, Some}
use Rattle.std.specs.List.{flat_map}
use Rattle.port_122.specs.Outside.{Outside, Exchange, NoRead}
use Rattle.base_122.specs.declared.geometry.Geometry.{Geometry}
use Rattle.packet_defs.specs.declared.packet.Framing.{Framing}
use Rattle.packet_defs.specs.declared.packet.Framing.TheVariants.{BadVersion, CutPacket}
use Rattle.stream_defs.specs.declared.range.RowRange.{RowRange}
use Rattle.stream_defs.specs.Damage.{ranges}
use Rattle.stream_defs.specs.Marks.{Marks}
use Rattle.strip122.specs.Notes.{IsNoted, Report, silent}

-- the rows that missing block rows damage
abbrev pub damaged : Marks → List RowRange
damaged m = ranges m.rows m.missing

-- the height of the image is known: its packets report it first, or a kept header reported it last
abbrev pub is_known : Geometry → Bool
is_known g = not (g.rows == 0)

-- a range of damaged rows, after a space
abbrev pub range_text : RowRange → List ℕ
range_text range = codes " " ++ decimal range.first ++ codes "-" ++ decimal range.last

-- all ranges
abbrev pub ranges_text : List RowRange → List ℕ
ranges_text [] = codes " none"
ranges_text (range ∷ ranges) = flat_map range_text (range ∷ ranges)

-- the text that the height isn't known
abbrev pub height_text : (known : Bool) → List ℕ
height_text true = []
height_text false = codes "; height unknown"

-- the text of the reason why the packets can't be read on
abbrev pub framing_text : Option Framing → List ℕ
framing_text None = []
framing_text (Some (BadVersion octet)) = codes "; bad version at octet " ++ decimal octet
framing_text (Some (CutPacket missing)) = codes "; packet cut, " ++ decimal missing ++ codes " octets missing"

-- the text after the ranges
abbrev pub rest_text : (known : Bool) → Option Framing → List ℕ
rest_text known framing = height_text known ++ framing_text framing

abbrev pub damage_line : List RowRange → (known : Bool) → Option Framing → List ℕ
damage_line ranges known framing = codes "strip122: damaged rows" ++ ranges_text ranges ++ rest_text known framing ++ codes "\n"

-- ---- of packets that were read to their end, or can't be read on

-- status 0 and no note if no row is damaged, the height is known and the packets could be read to their end
abbrev pub done_report : List RowRange → (known : Bool) → Option Framing → Report
done_report [] true None = silent
done_report [] true (Some framing) = record { status = 1; line = damage_line [] true (Some framing) }
done_report [] false framing = record { status = 1; line = damage_line [] false framing }
done_report (range ∷ ranges) known framing = record { status = 1; line = damage_line (range ∷ ranges) known framing }

-- Of packets that were read, with this status, the note is given: nothing if nothing is wrong.
pub record ReportsDone (ranges : List RowRange) (known : Bool) (framing : Option Framing) (old new : Outside) (status : ℕ) : Type 0 where
  pub wrote : List ℕ
  pub since : Exchange old new [] [] wrote NoRead
  pub status_is : status ≡ (done_report ranges known framing).status
  pub noted : IsNoted old new wrote (done_report ranges known framing).line
