-- Packets that are kept, and those that begin a segment.
use Rattle.std.proofs.Common.{◌≡◌, ℕ, List, [], ◌∷◌, ◌++◌, arith, Bool, true, false, ◌==◌, if◌then◌else◌, Option, Some, None, Result, Ok}
use Rattle.std.proofs.lemmas.Bool.Decides.{nat_tests}
use Rattle.base_122.specs.declared.geometry.Geometry.{Geometry}
use Rattle.segment_defs.specs.declared.head.SegmentHead.{SegmentHead}
use Rattle.segment_defs.specs.declared.fault.HeadFault.{HeadFault}
use Rattle.packet_defs.specs.declared.ancillary.Ancillary.{Ancillary}
use Rattle.packet_defs.specs.Reading.{ancillary_in}
use Rattle.stream_defs.specs.declared.fate.Fate.TheVariants.{Kept}
use Rattle.stream_defs.specs.declared.fate.FateState.{FateState}
use Rattle.stream_defs.specs.declared.fate.LastPart.{LastPart}
use Rattle.stream_defs.specs.Agreement.{head_refusal}
use Rattle.stream_defs.specs.Fates.{fate, after, after_all, follows}
use Rattle.stream_defs.proofs.FateLaws.{after_as_kept, after_as_other}
use Rattle.stream_defs.proofs.KeptOrder.{is_kept_so, kept_tests, or_second}
use Rattle.packet_assembly.specs.declared.note.SegmentStart.{SegmentStart}
use Rattle.packet_assembly.specs.Assembling.{is_first, last_index, text_after, Starts, BeginsNone}
use Rattle.packet_assembly.specs.Classification.{ok_of}
use Rattle.packet_assembly.specs.Notes.{start_of, text_brought, start_brought}

-- ---- the first part

-- whether a kept packet begins a segment
start_by : (current : Option Geometry) (a : Ancillary) (text : List ℕ) (b : Bool) (r : Result SegmentHead HeadFault) →
    (if b then head_refusal current a r else None) ≡ None → start_of a (if b then ok_of r else None) ≡ None → b ≡ false
start_by current a text b r good none = grind (arith, nat_tests)

pub none_first : (apid : ℕ) (s : FateState) (packet : List ℕ) → start_brought apid s packet ≡ None → is_first apid s packet ≡ false
unfolding start_brought
none_first apid s packet none = grind (arith, nat_tests, kept_tests, is_kept_so, start_by)

found_by : (a : Ancillary) (start : SegmentStart) (b : Bool) (r : Result SegmentHead HeadFault) → start_of a (if b then ok_of r else None) ≡ Some start →
    (b ≡ true) × (r ≡ Ok start.head) × (start.ancillary ≡ a) × ((if b then ok_of r else None) ≡ Some start.head)
found_by a start b r e = grind (arith, nat_tests)

pub record StartsSo (apid : ℕ) (s : FateState) (packet : List ℕ) (start : SegmentStart) : Type 0 where
  pub starts : Starts apid s packet start
  pub kept : fate apid s packet ≡ Kept
  pub part : ((ancillary_in packet).part == 0) ≡ true
  pub text : text_brought apid s packet ≡ text_after packet start.head

pub some_first : (apid : ℕ) (s : FateState) (packet : List ℕ) (start : SegmentStart) → start_brought apid s packet ≡ Some start → StartsSo apid s packet start
unfolding start_brought text_brought
some_first apid s packet start some = grind (arith, nat_tests, found_by, is_kept_so)

-- ---- greater parts

follows_index : (last : Option LastPart) (a : Ancillary) → follows last a ≡ true → Some a.index ≡ last_index last
follows_index last a e = grind (arith, nat_tests)

-- the state after a packet that begins no segment is at the same segment
pub stays : (apid : ℕ) (s : FateState) (packet : List ℕ) → is_first apid s packet ≡ false → last_index (after apid s packet).last ≡ last_index s.last
stays apid s packet none = grind (arith, nat_tests, after_as_other, is_kept_so, kept_tests, after_as_kept, follows_index, or_second)

pub begins_more : (apid : ℕ) (s : FateState) (packets : List (List ℕ)) (packet : List ℕ) → BeginsNone apid s packets →
    is_first apid (after_all apid s packets) packet ≡ false →
    BeginsNone apid s (packets ++ packet ∷ [])
begins_more apid s [] packet none e = (e, tt)
begins_more apid s (x ∷ packets) packet none e = (none.0, begins_more apid (after apid s x) packets packet none.1 e)
