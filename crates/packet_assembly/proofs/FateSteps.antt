-- The fate of a packet of the image is the classification of its fields.
use Rattle.std.proofs.Common.{◌≡◌, ℕ, List, [], ◌∷◌, length, drop, refl, ap, ◌∙◌, arith, Bool, false, if◌then◌else◌, Option, Some, None, Result, Ok, Err}
use Rattle.std.proofs.Common.{unwrap_or, option_map}
use Rattle.std.proofs.lemmas.Bool.Decides.{nat_tests}
use Rattle.base_122.specs.declared.geometry.Geometry.{Geometry}
use Rattle.segment_defs.specs.declared.head.SegmentHead.{SegmentHead}
use Rattle.segment_defs.specs.declared.fault.HeadFault.{HeadFault}
use Rattle.packet_defs.specs.declared.ancillary.Ancillary.{Ancillary}
use Rattle.packet_defs.specs.declared.packet.Skip.{Skip}
use Rattle.packet_defs.specs.Tests.{when, first_of}
use Rattle.packet_defs.specs.Reading.{skip_of, flags_in, ancillary_in, text_in}
use Rattle.stream_defs.specs.declared.fate.Fate.{Fate}
use Rattle.stream_defs.specs.declared.fate.Fate.TheVariants.{Kept, Skipped, Foreign, Late, OutOfPlace, BadHead}
use Rattle.stream_defs.specs.declared.fate.FateState.{FateState}
use Rattle.stream_defs.specs.Fates.{fate, after, is_kept, geometry_with, is_foreign, is_late, is_out_of_place}
use Rattle.packet_assembly.specs.declared.note.PacketNote.{PacketNote}
use Rattle.packet_assembly.specs.Classification.{unkept, refusal_known, ok_of, head_known, classified_by, classified, geometry_left, past_kept}
use Rattle.packet_assembly.specs.Notes.{note_of, head_octets, start_of, text_brought, start_brought}
use Rattle.stream_defs.proofs.FateLaws.{after_as_kept, after_as_other}

pub fate_mine : (apid : ℕ) (s : FateState) (packet : List ℕ) → skip_of apid packet ≡ None →
    fate apid s packet ≡ unwrap_or (unkept s (flags_in packet) (ancillary_in packet) (text_in packet)) Kept
unfolding fate
fate_mine apid s packet mine = rw mine refl

pub fate_other : (apid : ℕ) (s : FateState) (packet : List ℕ) (skip : Skip) → skip_of apid packet ≡ Some skip → fate apid s packet ≡ Skipped skip
unfolding fate
fate_other apid s packet skip other = rw other refl

-- the report of a packet of the image
abbrev pub note_mine : (number : ℕ) → Fate → List ℕ → PacketNote
note_mine number why packet = record {
  number = number;
  fate = why;
  index = (ancillary_in packet).index;
  part = (ancillary_in packet).part;
  octets = length (text_in packet);
}

pub record Unkept (why : Fate) : Type 0 where
  pub unkept : is_kept why ≡ false
  pub note : (number : ℕ) (packet : List ℕ) → note_of number why packet ≡ note_mine number why packet

refusals : (b c d : Bool) (o : Option HeadFault) (why : Fate) → first_of (when b Foreign ∷ when c Late ∷ when d OutOfPlace ∷ option_map BadHead o ∷ [])
    ≡ Some why → Unkept why
refusals b c d o why e = grind (arith, nat_tests)

pub classified_ok : (o : Option Fate) (head found : Option SegmentHead) → classified_by o head ≡ Ok found → (o ≡ None) × (head ≡ found)
classified_ok o head found e = grind (arith, nat_tests)

classified_not : (o : Option Fate) (head : Option SegmentHead) (why : Fate) → classified_by o head ≡ Err why → o ≡ Some why
classified_not o head why e = grind (arith, nat_tests)

geometry_by : (current : Option Geometry) (a : Ancillary) (b : Bool) (r : Result SegmentHead HeadFault) →
    geometry_left current a (if b then ok_of r else None) ≡ (if b then geometry_with current a r else current)
geometry_by current a b r = grind (arith, nat_tests)

-- ---- a packet that is kept, with this head

pub record KeptSo (apid : ℕ) (s : FateState) (packet : List ℕ) (found : Option SegmentHead) : Type 0 where
  pub fate_is : fate apid s packet ≡ Kept
  pub after_is : after apid s packet ≡ past_kept s (flags_in packet) (ancillary_in packet) found
  pub text_is : text_brought apid s packet ≡ drop (head_octets found) (text_in packet)
  pub start_is : start_brought apid s packet ≡ start_of (ancillary_in packet) found
  pub found_is : found ≡ head_known (ancillary_in packet) (text_in packet)

pub kept_so : (apid : ℕ) (s : FateState) (packet : List ℕ) (found : Option SegmentHead) → skip_of apid packet ≡ None →
    classified s (flags_in packet) (ancillary_in packet) (text_in packet) ≡ Ok found → KeptSo apid s packet found
unfolding text_brought start_brought
kept_so apid s packet found mine e =
    let a = ancillary_in packet in
    let text = text_in packet in
    let x = classified_ok (unkept s (flags_in packet) a text) (head_known a text) found e in
    grind (arith, nat_tests, fate_mine, geometry_by, after_as_kept)

-- ---- one that isn't, for this reason

pub record UnkeptSo (apid : ℕ) (s : FateState) (packet : List ℕ) (why : Fate) : Type 0 where
  pub fate_is : fate apid s packet ≡ why
  pub after_is : after apid s packet ≡ s
  pub text_is : text_brought apid s packet ≡ []
  pub start_is : start_brought apid s packet ≡ None

pub unkept_so : (apid : ℕ) (s : FateState) (packet : List ℕ) (why : Fate) → fate apid s packet ≡ why → is_kept why ≡ false → UnkeptSo apid s packet why
unfolding text_brought start_brought
unkept_so apid s packet why is none = grind (arith, nat_tests, after_as_other)

pub classified_unkept : (apid : ℕ) (s : FateState) (packet : List ℕ) (why : Fate) → skip_of apid packet ≡ None →
    classified s (flags_in packet) (ancillary_in packet) (text_in packet) ≡ Err why → Unkept why × UnkeptSo apid s packet why
classified_unkept apid s packet why mine e =
    let a = ancillary_in packet in
    let text = text_in packet in
    let x = classified_not (unkept s (flags_in packet) a text) (head_known a text) why e in
    let not = refusals (is_foreign s a) (is_late s.last a) (is_out_of_place s.last (flags_in packet) a) (refusal_known s.geometry a text) why x in
    let is : fate apid s packet ≡ why = fate_mine apid s packet mine ∙ ap (λ o. unwrap_or o Kept) x in
    (not, unkept_so apid s packet why is not.unkept)
