-- A geometry that is known is in range.
use Rattle.std.proofs.Common.{◌≡◌, ◌⊎◌, ◌≤◌, ◌+◌, ◌*◌, ◌%◌, ℕ, List, [], ◌∷◌, refl, subst, arith, Bool, true, false, not, ◌&&◌, ◌||◌, ◌==◌, nat_lt}
use Rattle.std.proofs.Common.{if◌then◌else◌, Option, Some, None, Result, Ok, IfSome, option_map}
use Rattle.std.proofs.lemmas.Bool.{false≢true, and_parts}
use Rattle.std.proofs.lemmas.Bool.Decides.{nat_tests}
use Rattle.base_122.specs.declared.range.FieldRange.{FieldRange}
use Rattle.base_122.specs.Ranges.{IsWithin, is_within, rows_range, segment_range, IsGeometryInRange}
use Rattle.base_122.specs.Sizes.{block_count}
use Rattle.base_122.specs.declared.geometry.Geometry.{Geometry}
use Rattle.segment_defs.specs.declared.head.SegmentHead.{SegmentHead}
use Rattle.segment_defs.specs.declared.fault.HeadFault.{HeadFault}
use Rattle.segment_defs.specs.Head.{IsHead}
use Rattle.packet_defs.specs.declared.ancillary.Ancillary.{Ancillary}
use Rattle.packet_defs.specs.Tests.{when, first_of}
use Rattle.stream_defs.specs.declared.fate.FateState.{FateState}
use Rattle.stream_defs.specs.declared.fate.Fate.TheVariants.{Foreign, Late, OutOfPlace, BadHead}
use Rattle.stream_defs.specs.Agreement.{geometry_reported, geometry_for, head_refusal, ends_where_reported, reported_height, disagreement, geometry_past}
use Rattle.stream_defs.specs.Fates.{is_foreign}
use Rattle.packet_assembly.specs.Classification.{unkept, ok_of, head_known, classified, past_kept}
use Rattle.packet_assembly.specs.Ranged.{IsRanged, ReportsHeight}
use Rattle.packet_assembly.proofs.FateSteps.{classified_ok}

pub within_from : (range : FieldRange) (n : ℕ) → is_within range n ≡ true → IsWithin range n
within_from range n e = grind (arith, nat_tests)

both_true : (a b c : Bool) → (not a || (not b || c)) ≡ false → (a ≡ true) × (b ≡ true)
both_true a b c e = grind (arith, nat_tests, false≢true)

rows_from : (reported_last : Bool) (rows : ℕ) → (if reported_last then rows == 0 else is_within rows_range rows) ≡ true → (rows ≡ 0) ⊎ IsWithin rows_range rows
rows_from reported_last rows e = grind (arith, nat_tests, within_from)

-- the sizes in a packet that isn't foreign
own_sizes : (s : FateState) (a : Ancillary) → is_foreign s a ≡ false → ((a.rows ≡ 0) ⊎ IsWithin rows_range a.rows) × IsWithin segment_range a.segment
own_sizes s a e = grind (arith, nat_tests, both_true, not, rows_from, within_from)

own_by : (b c d : Bool) (o : Option HeadFault) → first_of (when b Foreign ∷ when c Late ∷ when d OutOfPlace ∷ option_map BadHead o ∷ []) ≡ None → b ≡ false
own_by b c d o e = grind (arith, nat_tests)

-- a geometry that is made of a packet that is kept
made_ranged : (s : FateState) (flags : ℕ) (a : Ancillary) (text : List ℕ) (head : SegmentHead) → classified s flags a text ≡ Ok (Some head) → IsHead head →
    a.image ≤ 65535 →
    IsGeometryInRange (geometry_reported a head.image)
made_ranged s flags a text head e fits image = grind (arith, nat_tests, classified_ok, own_sizes, own_by)

-- ---- the height that a last head reports

-- the third of the tests that a head passes
third : (a b c d e f : Bool) (v w x y z u : HeadFault) →
    first_of (when (not a) v ∷ when (not b) w ∷ when (not c) x ∷ when (not d) y ∷ when (not e) z ∷ when (not f) u ∷ []) ≡ None → c ≡ true
third a b c d e f v w x y z u none = grind (arith, nat_tests)

within_end : (if_known last : Bool) (g : Geometry) (a : Ancillary) (head : SegmentHead) → (if_known && last) ≡ true →
    (if if_known then (if last then ((a.first + head.blocks) % block_count g.width == 0) && is_within rows_range (reported_height g a head) else nat_lt
    (a.first + g.segment) (32768 * block_count g.width)) else ends_where_reported g a head) ≡ true →
    IsWithin rows_range (reported_height g a head)
within_end if_known last g a head both e = grind (arith, nat_tests, within_from, and_parts, false≢true)

agreed_height : (g : Geometry) (a : Ancillary) (head : SegmentHead) → disagreement g a head ≡ None → (a.reported_last && head.last) ≡ true →
    IsWithin rows_range (reported_height g a head)
unfolding disagreement
agreed_height g a head none both = grind (arith, nat_tests, within_end, third)

head_by : (b c d : Bool) (o : Option HeadFault) → first_of (when b Foreign ∷ when c Late ∷ when d OutOfPlace ∷ option_map BadHead o ∷ []) ≡ None → o ≡ None
head_by b c d o e = grind (arith, nat_tests)

-- a head that is kept is in part 0 and agrees
agreed : (current : Option Geometry) (a : Ancillary) (first : Bool) (r : Result SegmentHead HeadFault) (head : SegmentHead) →
    (if first then head_refusal current a r else None) ≡ None → (if first then ok_of r else None) ≡ Some head →
    disagreement (geometry_for current a head.image) a head ≡ None
agreed current a first r head none is = grind (arith, nat_tests)

pub height_reported : (s : FateState) (flags : ℕ) (a : Ancillary) (text : List ℕ) (head : SegmentHead) → classified s flags a text ≡ Ok (Some head) →
    ReportsHeight s a head
height_reported s flags a text head e both =
    let x = classified_ok (unkept s flags a text) (head_known a text) (Some head) e in
    grind (arith, nat_tests, head_by, agreed_height, agreed)

pub heights_reported : (s : FateState) (flags : ℕ) (a : Ancillary) (text : List ℕ) (found : Option SegmentHead) → classified s flags a text ≡ Ok found →
    IfSome found (ReportsHeight s a)
heights_reported s flags a text None e = tt
heights_reported s flags a text (Some head) e = height_reported s flags a text head e

-- with such a height a geometry in range is in range
past_ranged : (if_known last : Bool) (g : Geometry) (rows : ℕ) → IsGeometryInRange g → ((if_known && last) ≡ true → IsWithin rows_range rows) →
    IsGeometryInRange (if if_known && last then record g { rows = rows } else g)
past_ranged if_known last g rows r height = grind (arith, nat_tests)

-- the same after a packet that is kept
pub ranged_past : (s : FateState) (flags : ℕ) (a : Ancillary) (text : List ℕ) (found : Option SegmentHead) → classified s flags a text ≡ Ok found →
    IfSome found IsHead → a.image ≤ 65535 →
    IsRanged s → IsRanged (past_kept s flags a found)
ranged_past s flags a text found e fits image r = record { geometry = by found e fits }
  where
    by_current : (current : Option Geometry) (head : SegmentHead) → s.geometry ≡ current → classified s flags a text ≡ Ok (Some head) → IsHead head →
        IsGeometryInRange (geometry_for current a head.image)
    by_current None head is e fits = made_ranged s flags a text head e fits image
    by_current (Some other) head is e fits = r.geometry other is

    past : (head : SegmentHead) → classified s flags a text ≡ Ok (Some head) → IsHead head →
        IsGeometryInRange (geometry_past (geometry_for s.geometry a head.image) a head)
    past head e fits =
        let g = geometry_for s.geometry a head.image in
        past_ranged a.reported_last head.last g (reported_height g a head) (by_current s.geometry head refl e fits) (height_reported s flags a text head e)

    by : (found : Option SegmentHead) → classified s flags a text ≡ Ok found → IfSome found IsHead → (g : Geometry) →
        (past_kept s flags a found).geometry ≡ Some g → IsGeometryInRange g
    by None e fits g made = r.geometry g made
    by (Some head) e fits g made = let same : geometry_past (geometry_for s.geometry a head.image) a head ≡ g =
        cc in subst IsGeometryInRange same (past head e fits)
