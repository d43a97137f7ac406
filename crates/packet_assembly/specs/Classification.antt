-- The fate of an image's packet by its fields. This project's own.
use Rattle.std.specs.Prelude.{ℕ, ◌==◌, if◌then◌else◌, List, [], ◌∷◌, Option, None, Some, Result, Ok, Err}
use Rattle.std.specs.Option.{option_map}
use Rattle.base_122.specs.declared.geometry.Geometry.{Geometry}
use Rattle.segment_defs.specs.declared.head.SegmentHead.{SegmentHead}
use Rattle.segment_defs.specs.declared.fault.HeadFault.{HeadFault}
use Rattle.segment_defs.specs.Reading.{head_read}
use Rattle.packet_defs.specs.declared.ancillary.Ancillary.{Ancillary}
use Rattle.packet_defs.specs.Tests.{when, first_of}
use Rattle.stream_defs.specs.declared.fate.Fate.{Fate}
use Rattle.stream_defs.specs.declared.fate.Fate.TheVariants.{Foreign, Late, OutOfPlace, BadHead}
use Rattle.stream_defs.specs.declared.fate.FateState.{FateState}
use Rattle.stream_defs.specs.Agreement.{geometry_for, head_refusal, geometry_past}
use Rattle.stream_defs.specs.Fates.{is_foreign, is_late, is_out_of_place, closes}

-- why the segment header of a packet with these fields is refused; only part 0 has one
abbrev pub refusal_known : Option Geometry → Ancillary → List ℕ → Option HeadFault
refusal_known current a text = if a.part == 0 then head_refusal current a (head_read text) else None

-- why a packet with these fields isn't kept: the first of these
abbrev pub unkept : FateState → (flags : ℕ) → Ancillary → List ℕ → Option Fate
unkept s flags a text = first_of (
    when (is_foreign s a) Foreign
    ∷ when (is_late s.last a) Late
    ∷ when (is_out_of_place s.last flags a) OutOfPlace
    ∷ option_map BadHead (refusal_known s.geometry a text)
    ∷ []
    )

abbrev pub ok_of : Result SegmentHead HeadFault → Option SegmentHead
ok_of (Ok head) = Some head
ok_of (Err fault) = None

-- the head that is read in part 0
abbrev pub head_known : Ancillary → List ℕ → Option SegmentHead
head_known a text = if a.part == 0 then ok_of (head_read text) else None

-- the head of a packet that is kept, or why it isn't
abbrev pub classified_by : Option Fate → Option SegmentHead → Result (Option SegmentHead) Fate
classified_by None head = Ok head
classified_by (Some fate) head = Err fate

abbrev pub classified : FateState → (flags : ℕ) → Ancillary → List ℕ → Result (Option SegmentHead) Fate
classified s flags a text = classified_by (unkept s flags a text) (head_known a text)

-- the geometry after a kept packet with these ancillary data, with this header
abbrev pub geometry_left : Option Geometry → Ancillary → Option SegmentHead → Option Geometry
geometry_left current a None = current
geometry_left current a (Some head) = Some (geometry_past (geometry_for current a head.image) a head)

-- the state after such a packet
abbrev pub past_kept : FateState → (flags : ℕ) → Ancillary → Option SegmentHead → FateState
past_kept s flags a head = record {
  geometry = geometry_left s.geometry a head;
  reported_last = a.reported_last;
  last = Some (record { index = a.index; part = a.part; closed = closes flags });
}
