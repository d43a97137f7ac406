-- An image of which a packet is kept has a geometry.
use Rattle.std.proofs.Common.{◌≡◌, ◌<◌, ◌+◌, ℕ, List, [], ◌∷◌, ◌++◌, length, sym, ap, subst, ◌∙◌, inl, inr, arith, append_assoc, All, slice_index_or}
use Rattle.std.proofs.Common.{Option, Some, None, IsSome, Result, eq-eqb, ne_eqb}
use Rattle.std.proofs.lemmas.List.{append-nil, get_or_default}
use Rattle.std.proofs.lemmas.Bool.Decides.{nat_tests}
use Rattle.base_122.specs.declared.geometry.Geometry.{Geometry}
use Rattle.segment_defs.specs.declared.head.SegmentHead.{SegmentHead}
use Rattle.segment_defs.specs.declared.fault.HeadFault.{HeadFault}
use Rattle.packet_defs.specs.declared.ancillary.Ancillary.{Ancillary}
use Rattle.stream_defs.specs.declared.fate.LastPart.{LastPart}
use Rattle.stream_defs.specs.declared.fate.FateState.{FateState}
use Rattle.stream_defs.specs.Agreement.{head_refusal}
use Rattle.stream_defs.specs.Fates.{fresh, kept, geometry_with, geometry_after, refusal_in, after, after_all}
use Rattle.stream_defs.specs.Received.{number_of_part}
use Rattle.stream_defs.proofs.FateLaws.{after_as_kept}
use Rattle.stream_defs.proofs.KeptOrder.{does, is_kept_so, kept_tests, HasReached, reached_on}
use Rattle.camera_mux.specs.declared.image.ImageId.{ImageId}
use Rattle.camera_mux.specs.declared.image.ImageEntry.{ImageEntry}
use Rattle.camera_mux.specs.Images.{own_packets, state_of, kept_of, entry_of, images, entries}
use Rattle.camera_mux.specs.Tables.{no_entry}
use Rattle.camera_mux.proofs.ImageLists.{id_at, AreBegun, images-none, begun_none, begun_next}
use Rattle.camera_mux.proofs.EntryLists.{length-entries, entry_is}
use Rattle.packet_assembly.proofs.Ends.{kept_nothing}

-- ---- one packet

-- a head that isn't refused makes a geometry
made : (current : Option Geometry) (a : Ancillary) (read : Result SegmentHead HeadFault) → head_refusal current a read ≡ None →
    IsSome (geometry_with current a read)
made current a read e = grind (arith, nat_tests)

first_made : (current : Option Geometry) (packet : List ℕ) → number_of_part packet ≡ 0 → refusal_in current packet ≡ None →
    IsSome (geometry_after current packet)
first_made current packet part none = grind (arith, nat_tests, eq-eqb, made)

next_same : (current : Option Geometry) (packet : List ℕ) (n : ℕ) → number_of_part packet ≡ n + 1 → geometry_after current packet ≡ current
next_same current packet n part = grind (arith, nat_tests, ne_eqb)

-- ---- all packets

-- if a packet was kept there is a geometry
abbrev HasSize : FateState → Type 0
HasSize s = (last : LastPart) → s.last ≡ Some last → IsSome s.geometry

size_on : (apid : ℕ) (s : FateState) (x : List ℕ) → HasSize s → HasSize (after apid s x)
size_on apid s x h = elim (does apid s x) [
  | inl lost ↦ subst HasSize (sym lost.same) h
  | inr here ↦ grind (arith, nat_tests, is_kept_so, after_as_kept, first_made, kept_tests, next_same)
]

size_after : (apid : ℕ) (s : FateState) (packets : List (List ℕ)) → HasSize s → HasSize (after_all apid s packets)
size_after apid s [] h = h
size_after apid s (x ∷ xs) h = size_after apid (after apid s x) xs (size_on apid s x h)

kept_last : (apid : ℕ) (s : FateState) (packets : List (List ℕ)) → 0 < length (kept apid s packets) → HasReached 0 (after_all apid s packets)
kept_last apid s [] some = absurd (let none = ap length (kept_nothing apid s) in omega (arith, some, none))
kept_last apid s (x ∷ xs) some = elim (does apid s x) [
  | inl lost ↦ kept_last apid (after apid s x) xs (subst (λ ks. 0 < length ks) (lost.kept_are xs) some)
  | inr here ↦ grind (arith, nat_tests, reached_on)
]

fresh_size : HasSize fresh
fresh_size last e = let no : None ≡ Some last = e in absurd cc

size_of : (id : ImageId) (packets : List (List ℕ)) → 0 < length (kept_of id packets) → IsSome (state_of id packets).geometry
size_of id packets some =
    let last = kept_last id.apid fresh (own_packets id packets) some in
    size_after id.apid fresh (own_packets id packets) fresh_size last.last last.last_is

-- ---- the images

begun_on : (wanted : Option ℕ) (packets later : List (List ℕ)) → AreBegun wanted packets (images wanted packets) →
    AreBegun wanted (packets ++ later) (images wanted (packets ++ later))
begun_on wanted packets [] known = subst (λ ps. AreBegun wanted ps (images wanted ps)) (sym (append-nil packets)) known
begun_on wanted packets (x ∷ later) known =
    subst (λ ps. AreBegun wanted ps (images wanted ps)) (append_assoc packets (x ∷ []) later)
    (begun_on wanted (packets ++ x ∷ []) later (begun_next wanted packets x known))

all_begun : (wanted : Option ℕ) (packets : List (List ℕ)) → AreBegun wanted packets (images wanted packets)
all_begun wanted packets = begun_on wanted [] packets (subst (AreBegun wanted []) (sym (images-none wanted)) (begun_none wanted))

pub have_geometry : (wanted : Option ℕ) (packets : List (List ℕ)) → All (λ (entry : ImageEntry). IsSome entry.state.geometry) (entries wanted packets)
have_geometry wanted packets k d lt =
    let within : k < length (images wanted packets) = omega (arith, lt, length-entries wanted packets) in
    let is : slice_index_or (entries wanted packets) k d ≡ entry_of packets (id_at (images wanted packets) k) =
    get_or_default (entries wanted packets) k d no_entry lt ∙ entry_is wanted packets k within in
    subst (λ (entry : ImageEntry). IsSome entry.state.geometry) (sym is)
    (size_of (id_at (images wanted packets) k) packets ((all_begun wanted packets).some_each k within))
