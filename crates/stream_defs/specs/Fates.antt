-- The fate of each packet, and the state that it leaves for the next one's fate. This project's own.
use Rattle.std.specs.Prelude.{ℕ, ◌+◌, ◌*◌, ◌%◌, ◌==◌, ◌&&◌, ◌||◌, Bool, true, false, not, nat_le, nat_lt, if◌then◌else◌, List, [], ◌∷◌, fold, Option, None}
use Rattle.std.specs.Prelude.{Some, Result, Ok, Err, unwrap_or}
use Rattle.std.specs.Option.{option_map}
use Rattle.base_122.specs.Ranges.{is_within, rows_range, segment_range}
use Rattle.base_122.specs.declared.geometry.Geometry.{Geometry}
use Rattle.segment_defs.specs.declared.head.SegmentHead.{SegmentHead}
use Rattle.segment_defs.specs.declared.fault.HeadFault.{HeadFault}
use Rattle.segment_defs.specs.Reading.{head_read}
use Rattle.packet_defs.specs.declared.ancillary.Ancillary.{Ancillary}
use Rattle.packet_defs.specs.Tests.{when, first_of}
use Rattle.packet_defs.specs.Reading.{skip_of, flags_in, ancillary_in, text_in}
use Rattle.packet_defs.specs.Streams.{whole_packets}
use Rattle.stream_defs.specs.declared.fate.Fate.{Fate}
use Rattle.stream_defs.specs.declared.fate.Fate.TheVariants.{Kept, Skipped, Foreign, Late, OutOfPlace, BadHead}
use Rattle.stream_defs.specs.declared.fate.LastPart.{LastPart}
use Rattle.stream_defs.specs.declared.fate.FateState.{FateState}
use Rattle.stream_defs.specs.Agreement.{geometry_for, blocks_of, same_flag, head_refusal, geometry_past}

-- before the first packet
abbrev pub fresh : FateState
fresh = record { geometry = None; reported_last = false; last = None }

-- ---- the tests, in their order

-- the rows field of a packet has the rows of an image, or 0 if the height is reported last
abbrev pub reports_rows : Ancillary → Bool
reports_rows a = if a.reported_last then a.rows == 0 else is_within rows_range a.rows

-- a block after the last one, if the height is reported
abbrev pub is_past : Geometry → Ancillary → Bool
is_past g a = not (g.rows == 0) && nat_le (blocks_of g) a.first

-- another image than that of the geometry, whose packets report its rows or leave them to be reported last
abbrev pub differs : Option Geometry → (reported_last : Bool) → Ancillary → Bool
differs None reported_last a = false
differs (Some g) reported_last a =
    not (same_flag a.reported_last reported_last) || (not (a.image == g.image)
    || (not (a.rows == (if reported_last then 0 else g.rows)) || (not (a.segment == g.segment) || is_past g a)))

abbrev pub is_foreign : FateState → Ancillary → Bool
is_foreign s a =
    not (reports_rows a) || (not (is_within segment_range a.segment) || (not (a.first == a.index * a.segment)
    || differs s.geometry s.reported_last a))

-- a place that is at most the last one, index before part
abbrev pub is_late : Option LastPart → Ancillary → Bool
is_late None a = false
is_late (Some last) a = nat_lt a.index last.index || ((a.index == last.index) && nat_le a.part last.part)

-- the flags say that the part is its segment's first, and that it is its last
abbrev pub begins : (flags : ℕ) → Bool
begins flags = flags % 2 == 1

abbrev pub closes : (flags : ℕ) → Bool
closes flags = nat_le 2 flags

-- the next part of a segment that isn't closed
abbrev pub follows : Option LastPart → Ancillary → Bool
follows None a = false
follows (Some last) a = (a.index == last.index) && ((a.part == last.part + 1) && not last.closed)

abbrev pub is_out_of_place : Option LastPart → (flags : ℕ) → Ancillary → Bool
is_out_of_place last flags a = if a.part == 0 then not (begins flags) else begins flags || not (follows last a)

-- why a packet's head is refused, which only part 0 has
abbrev pub refusal_in : Option Geometry → List ℕ → Option HeadFault
refusal_in current packet =
    if (ancillary_in packet).part == 0 then head_refusal current (ancillary_in packet) (head_read (text_in packet)) else None

-- the fate of a packet: the first of these, otherwise it is kept
unfoldable pub fate : (apid : ℕ) → FateState → List ℕ → Fate
fate apid s packet = unwrap_or (first_of (
    option_map Skipped (skip_of apid packet)
    ∷ when (is_foreign s (ancillary_in packet)) Foreign
    ∷ when (is_late s.last (ancillary_in packet)) Late
    ∷ when (is_out_of_place s.last (flags_in packet) (ancillary_in packet)) OutOfPlace
    ∷ option_map BadHead (refusal_in s.geometry packet)
    ∷ []
    )) Kept

-- ---- what a packet leaves

abbrev pub is_kept : Fate → Bool
is_kept Kept = true
is_kept other = false

-- the geometry after a head that was read in a kept packet with these ancillary data
abbrev pub geometry_with : Option Geometry → Ancillary → Result SegmentHead HeadFault → Option Geometry
geometry_with current a (Ok head) = Some (geometry_past (geometry_for current a head.image) a head)
geometry_with current a (Err fault) = current

abbrev pub geometry_after : Option Geometry → List ℕ → Option Geometry
geometry_after current packet =
    if (ancillary_in packet).part == 0 then geometry_with current (ancillary_in packet) (head_read (text_in packet)) else current

abbrev pub part_in : List ℕ → LastPart
part_in packet = record {
  index = (ancillary_in packet).index;
  part = (ancillary_in packet).part;
  closed = closes (flags_in packet);
}

-- the state after a kept packet
abbrev pub after_kept : FateState → List ℕ → FateState
after_kept s packet = record {
  geometry = geometry_after s.geometry packet;
  reported_last = (ancillary_in packet).reported_last;
  last = Some (part_in packet);
}

-- a packet that isn't kept changes nothing
unfoldable pub after : (apid : ℕ) → FateState → List ℕ → FateState
after apid s packet = if is_kept (fate apid s packet) then after_kept s packet else s

-- ---- all packets

-- the state after packets, one after another
abbrev pub after_all : (apid : ℕ) → FateState → List (List ℕ) → FateState
after_all apid s packets = fold (after apid) s packets

-- the fate of each
unfoldable pub fates : (apid : ℕ) → FateState → List (List ℕ) → List Fate
fates apid s [] = []
fates apid s (packet ∷ packets) = fate apid s packet ∷ fates apid (after apid s packet) packets

-- those that are kept
unfoldable pub kept : (apid : ℕ) → FateState → List (List ℕ) → List (List ℕ)
kept apid s [] = []
kept apid s (packet ∷ packets) =
    if is_kept (fate apid s packet) then packet ∷ kept apid (after apid s packet) packets else kept apid (after apid s packet) packets

-- of a stream of octets
abbrev pub kept_in : (apid : ℕ) → List ℕ → List (List ℕ)
kept_in apid octets = kept apid fresh (whole_packets octets)

abbrev pub state_after : (apid : ℕ) → List ℕ → FateState
state_after apid octets = after_all apid fresh (whole_packets octets)

abbrev pub geometry_in : (apid : ℕ) → List ℕ → Option Geometry
geometry_in apid octets = (state_after apid octets).geometry
